use Rattle.std.proofs.Common.{◌≡◌, Bool, true, T, ◌⊎◌, ◌↔◌, arith}
use Rattle.std.proofs.lemmas.Bool.Decides.{nat_tests}
use Rattle.knowledge.specs.Sets.{has}
use Rattle.knowledge.specs.Tables.Tables.{formula, in_order}
use Rattle.board.specs.Sheets.{with_sheet}
use Rattle.board.specs.Requests.{joined}
use Rattle.law_on_grid.proofs.worlds.law_calls.Goals as goal

-- or, by its code
either : (x y : Bool) → (joined 14 x y ≡ true) ↔ (T x ⊎ T y)
either x y = grind (arith, nat_tests)

-- the calls write the two places joined by or, and the law is that one of the two facts holds
pub returns-clause-worlds : goal.returns-clause-worlds
unfolding with_sheet formula in_order
returns-clause-worlds c = λ m s. either (has s.bits 0) (has s.bits 1)
