use Rattle.std.proofs.Common.{◌≡◌, ◌<◌, ◌-◌, not, rules}
use Rattle.grid.specs.Layout.{at}
use Rattle.grid.proofs.Fronts.{block, at_byte}
use Rattle.grid.proofs.Octets.{has_not}
use Rattle.grid.proofs.Grid.flip_sheet.Goals as goal

pub returns : goal.returns
returns c =
    let xs = c.args.self.now.bytes.items in let a = c.args.sheet.number in
    c.combine.ensures (λ j. not (at xs a j)) (λ k t r lt tl gives.
    let is : r ≡ 255 - block xs a k = search rules in
    let small : block xs a k < 256 = search rules in
    rw (at_byte xs a k t tl, is) (has_not (block xs a k) t small tl))
