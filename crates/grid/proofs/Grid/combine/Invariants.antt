use Rattle.std.proofs.Common.{ℕ, Bool, vec_items}
use Rattle.grid.proofs.Fronts.{Front, Says, block}
use Rattle.grid.specs.Grids.{Combines}
use Rattle.grid.proofs.Grid.combine.Given as goal

abbrev pub invariant-loop-k : goal.invariant-loop-k
invariant-loop-k g l = record {
  front : Front (vec_items l.fn.self.bytes) l.bytes l.fn.self.width l.sheet.number l.k;
  says : (f : ℕ → Bool) → Combines (goal.F-post g l.step) l.fn.self l.left.number l.right.number f
      → Says (block l.bytes l.sheet.number) l.fn.self.width l.k f;
}
