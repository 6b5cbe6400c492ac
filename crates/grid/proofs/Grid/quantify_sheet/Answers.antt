use Rattle.std.proofs.Common.{◌≡◌, ◌&&◌, ◌||◌, bit_and, bit_or, rules}
use Rattle.knowledge.proofs.Bits.{has_and, has_or}
use Rattle.grid.proofs.Grid.quantify_sheet.Goals as goal

pub returns-in-ForAll : goal.returns-in-ForAll
returns-in-ForAll c =
    rw c.in-ForAll.is
    (c.bind.ensures ◌&&◌ (λ x y r t lt gives. let is : r ≡ bit_and x y = search rules in rw is (has_and x y t)))

pub returns-in-Exists : goal.returns-in-Exists
returns-in-Exists c =
    rw c.in-Exists.is
    (c.bind-in-Exists.ensures ◌||◌ (λ x y r t lt gives. let is : r ≡ bit_or x y = search rules in rw is (has_or x y t)))
