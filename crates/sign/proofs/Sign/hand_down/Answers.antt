use Rattle.std.proofs.Common.{◌≡◌, refl, arith}
use Rattle.std.proofs.lemmas.Result.{err_from_is_err_and}
use Rattle.board.specs.Requests.{written}
use Rattle.sign.specs.Marks.{with_mark, new_mark}
use Rattle.sign.specs.Layer.{alike}
use Rattle.sign.proofs.HandedDown.{done_above, refused_above}
use Rattle.sign.proofs.Sign.hand_down.Goals as goal

pub returns-in_err-perform : goal.returns-in_err-perform
returns-in_err-perform g c q is new =
    let ms = c.args.self.now.marks in
    let refused = c.in_err-perform.ensures in
    let m' = g.B.Board.meaning c.perform.new.board in
    let F' = g.B.Board.fills c.perform.new.board in
    let p = err_from_is_err_and c.from_residual.result c.from_residual.ensures.1 in
    rw (p.1, p.2)
    (refused_above ms q c.args.request {m' = m'} {F' = F'} is refused, refl, rw is refused)

pub returns : goal.returns
returns g c q is new =
    let ms = c.args.self.now.marks in
    let r = c.args.request in
    let done = c.in_ok-perform.ensures in
    let sheet : written r ≡ written q = (alike 0 ms q r is).sheet in
    let marks : c.set.new.self ≡ with_mark ms (written r) (new_mark ms q) = cc (c.set.ensures.given) in
    rw marks (done_above ms q r (omega arith) is done, rw sheet, rw is done)
