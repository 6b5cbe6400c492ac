use Rattle.knowledge.proofs.Truth.Agreement.{runs_agree, runs_sound}
use Rattle.knowledge.proofs.Truth.Openings.{opens_answered, opens_settled, opened_lawful}
use Rattle.knowledge.proofs.Truth.Rules.{calls_answered, answers_settled}
use Rattle.knowledge.proofs.plan.Plan.may_change_places.Goals as goal

pub returns-clause-agree : goal.returns-clause-agree
returns-clause-agree c = (runs_agree, runs_sound)

pub returns-clause-opens : goal.returns-clause-opens
returns-clause-opens c = (opens_answered, opens_settled, opened_lawful)

pub returns-clause-calls : goal.returns-clause-calls
returns-clause-calls c = (calls_answered, answers_settled)
