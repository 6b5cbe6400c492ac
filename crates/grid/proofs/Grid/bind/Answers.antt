use Rattle.std.proofs.Common.{◌≡◌, ◌<◌, true, false, arith}
use Rattle.knowledge.specs.Sets.{has}
use Rattle.grid.specs.Pieces.{placed}
use Rattle.grid.proofs.Fronts.{block}
use Rattle.grid.proofs.Turns.{bound_at, bound_says, settled_bit}
use Rattle.grid.proofs.Replaced.{in_words}
use Rattle.grid.proofs.Grid.bind.Goals as goal

pub returns-then-place-lt-BYTE_PLACES : goal.returns-then-place-lt-BYTE_PLACES
returns-then-place-lt-BYTE_PLACES g c op bits =
    let xs = c.args.self.now.bytes.items in let a = c.args.from.number in let p = c.args.place in
    let low : c.args.place < 3 = omega arith in
    in_words c.args.self.now c.args.sheet.number _ c.combine.new.self
    (c.combine.ensures (bound_at xs a p op) (λ k t r lt tl gives.
    let byte : has r t ≡ op (has (block xs a k) (placed p t false)) (has (block xs a k) (placed p t true)) = grind (arith, bits) in
    rw (← settled_bit xs a p k t false low tl, ← settled_bit xs a p k t true low tl) byte))
    (bound_says xs c.args.self.now.width a p op c.requires.places)
