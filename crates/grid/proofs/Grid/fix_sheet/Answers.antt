use Rattle.std.proofs.Common.{◌≡◌, Bool, refl, rules}
use Rattle.grid.proofs.Grid.fix_sheet.Goals as goal

pub returns-then-value : goal.returns-then-value
returns-then-value c =
    rw c.if-value.true
    (c.bind.ensures (λ (x y : Bool). y) (λ x y r t lt gives. let is : r ≡ y = search rules in rw is refl))

pub returns-else-value : goal.returns-else-value
returns-else-value c =
    rw c.if-value.false
    (c.bind-else-value.ensures (λ (x y : Bool). x) (λ x y r t lt gives. let is : r ≡ x = search rules in rw is refl))
