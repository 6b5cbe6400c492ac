use Rattle.knowledge.proofs.Tables.Standing.{Stands}
use Rattle.knowledge.proofs.survey.Terms.survey.Given as goal

-- the records so far are measured and without fault
abbrev pub invariant-loop-place : goal.invariant-loop-place
invariant-loop-place l = Stands l.self l.table l.place l.measures l.last
