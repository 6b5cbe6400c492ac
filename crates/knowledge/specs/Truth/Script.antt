-- An example of a run.
use Rattle.std.specs.Prelude.{ℕ, true, false, List, [], ◌∷◌}
use Rattle.knowledge.specs.declared.fault.Cause.TheVariants.{Untrue}
use Rattle.knowledge.specs.declared.table.Kind.TheVariants.{Fact, Not, Knows}
use Rattle.knowledge.specs.Faults.{in_matter}
use Rattle.knowledge.specs.Tables.Tables.{Table}
use Rattle.knowledge.specs.Truth.Rules.{Opening, taken, said, refused, Gives, OpenAnswered, posts, tells, queries}
use Rattle.knowledge.specs.Truth.Runs.{Event, Run}
use Rattle.knowledge.specs.Truth.Verdicts.{fact_set, either_of_two, bob}

-- the facts that are given: both
abbrev pub both_facts : List ℕ
both_facts = 1 ∷ 2 ∷ []

-- a matter of two facts, over a board of width 12 that never fills
abbrev pub example : Opening
example = record { setting = either_of_two; facts = fact_set both_facts; room = record { width = 12; sure = 12 } }

-- a fact
abbrev pub says_fact : ℕ → Table
says_fact p = record { kind = Fact p } ∷ []

-- a party knows that a fact holds
abbrev pub says_known : ℕ → ℕ → Table
says_known i p = record { kind = Fact p } ∷ record { kind = Knows i 0 } ∷ []

-- what was asked and answered, the latest first
abbrev pub script : List Event
script =
    record { call = posts (record { kind = Fact 1 } ∷ record { kind = Not 0 } ∷ []); answer = refused (in_matter Untrue) }
    ∷ record { call = queries (says_known 0 2); answer = said true }
    ∷ record { call = posts (says_fact 2); answer = taken }
    ∷ record { call = queries (says_known 1 1); answer = said true }
    ∷ record { call = tells bob (says_fact 1); answer = taken }
    ∷ record { call = queries (says_known 0 2); answer = said false }
    ∷ []

-- the opening with both facts is taken, and the script is a run
abbrev pub ScriptRuns : Type 0
ScriptRuns = Gives both_facts example.facts × OpenAnswered example both_facts taken × Run example script
