use Rattle.knowledge.specs.Sets.{has}
use Rattle.std.proofs.Common.{slice_index}
use Rattle.grid.proofs.Fronts.{Bare, Says}
use Rattle.grid.proofs.Grid.atom_sheet.Given as goal

abbrev pub invariant-loop-k : goal.invariant-loop-k
invariant-loop-k l = record {
  bare : Bare (slice_index l.bytes) l.fn.self.width l.k;
  says : Says (slice_index l.bytes) l.fn.self.width l.k (λ j. has j l.place);
}
