use Rattle.std.proofs.Common.{◌≡◌, ◌≢◌, ◌<◌, arith, rules}
use Rattle.std.proofs.lemmas.Iterator.{cases_from_all, YieldsList-from_slice}
use Rattle.std.proofs.lemmas.List.{places}
use borrow.Author.Tests.{tests}
use Rattle.grid.proofs.Questions.{all_answer}
use Rattle.grid.proofs.Replaced.{held}
use Rattle.grid.proofs.Grid.all_sheet.Goals as goal

pub returns : goal.returns
returns c =
    let g = c.args.self.now in let wanted = c.blank_byte-wanted.result in
    all_answer g.bytes.items g.width c.args.sheet.number wanted c.args.value (held g) c.blank_byte-wanted.ensures
    _ c.all.result (λ k lt. grind (arith, places)) (grind (arith, places)) c.blank_byte-wanted.type_inv
    (cases_from_all _ _ _ (λ x. x ≡ wanted) (λ x. (x ≢ wanted) × (x < 256)) c.all.ensures.ran
    (YieldsList-from_slice _ c.iter.ensures.rest) (λ x q k. search (rules, tests)) (λ x q k. (search (rules, tests), search (rules, tests))))
