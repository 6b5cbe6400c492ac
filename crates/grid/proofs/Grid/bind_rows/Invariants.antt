use Rattle.std.proofs.Common.{Bool, ◌*◌, vec_items}
use Rattle.grid.specs.Pieces.{Bitwise}
use Rattle.grid.proofs.Fronts.{Front, Says, block}
use Rattle.grid.proofs.Turns.{bound_at}
use Rattle.grid.proofs.Grid.bind_rows.Given as goal

abbrev pub invariant-loop-row : goal.invariant-loop-row
invariant-loop-row g l = record {
  front : Front (vec_items l.fn.self.bytes) l.bytes l.fn.self.width l.sheet.number (2 * l.stride * l.row);
  says : (op : Bool → Bool → Bool) → Bitwise (goal.F-post g l.step) op
      → Says (block l.bytes l.sheet.number) l.fn.self.width (2 * l.stride * l.row) (bound_at (vec_items l.fn.self.bytes) l.from.number l.place op);
}
