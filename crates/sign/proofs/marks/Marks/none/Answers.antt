use Rattle.std.proofs.Common.{false, replicate}
use Rattle.sign.proofs.Marked.{none_marked, unmarked_same}
use Rattle.sign.proofs.marks.Marks.none.Goals as goal

pub returns-clause-none : goal.returns-clause-none
returns-clause-none c = none_marked 64

pub returns-clause-same : goal.returns-clause-same
returns-clause-same c = unmarked_same (record { by_sheet = replicate 64 false }) (none_marked 64)
