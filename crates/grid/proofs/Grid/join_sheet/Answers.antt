use Rattle.std.proofs.Common.{◌≡◌, arith}
use Rattle.knowledge.specs.Sets.{has}
use Rattle.board.specs.Requests.{joined}
use Rattle.grid.specs.Layout.{at}
use Rattle.grid.proofs.Fronts.{block, at_byte}
use Rattle.grid.proofs.Grid.join_sheet.Goals as goal

pub returns : goal.returns
returns c =
    let xs = c.args.self.now.bytes.items in let a = c.args.left.number in let b = c.args.right.number in
    c.combine.ensures (λ j. joined c.args.code (at xs a j) (at xs b j)) (λ k t r lt tl gives.
    let bits : has r t ≡ joined c.args.code (has (block xs a k) t) (has (block xs b k) t) = grind arith in
    rw (at_byte xs a k t tl, at_byte xs b k t tl) bits)
