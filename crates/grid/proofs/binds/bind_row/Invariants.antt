use Rattle.grid.specs.Pieces.{Paired}
use Rattle.grid.proofs.binds.bind_row.Given as goal

abbrev pub invariant-loop-k : goal.invariant-loop-k
invariant-loop-k g l = Paired (goal.F-post g l.step) l.initial.bytes l.to l.from l.stride l.k l.bytes
