use Rattle.knowledge.proofs.Numbered.{fact_set_gives, group_of_has}
use Rattle.knowledge.proofs.Truth.Decision.{verdicts_true}
use Rattle.knowledge.proofs.Truth.Rules.{script_runs}
use Rattle.knowledge.proofs.verdicts.worked_verdicts.Goals as goal

pub returns-clause-truth : goal.returns-clause-truth
returns-clause-truth c = verdicts_true

pub returns-clause-sets : goal.returns-clause-sets
returns-clause-sets c = (fact_set_gives, group_of_has)

pub returns-clause-script : goal.returns-clause-script
returns-clause-script c = script_runs
