-- Plans, and how one is made from numbers.
use Rattle.std.specs.Prelude.{◌≡◌, ℕ, ◌≤◌, Bool, cond, ◌&&◌, ◌↔◌, List, [], length, Some, None, Ok, Err, Option, Result, nat_lt, slice_index_or}
use Rattle.knowledge.specs.declared.fault.Cause.TheVariants.{Fact, Party}
use Rattle.knowledge.specs.declared.fault.Fault.{Fault}
use Rattle.knowledge.specs.declared.plan.Plan.{Plan}
use Rattle.knowledge.specs.declared.survey.Terms.{Terms}
use Rattle.knowledge.specs.Faults.{in_matter}
use Rattle.knowledge.specs.Lists.{Each}
use Rattle.knowledge.specs.Seats.{seat, Seated, all_within}
use Rattle.knowledge.specs.Sets.{FactSet, between, Within}

-- what is wrong with the numbers of a plan: facts or a sight outside the limits, then the number of parties
abbrev pub plan_fault : ℕ → List FactSet → Option Fault
plan_fault n sights =
    cond (between 1 40 n && all_within n sights)
    (cond (between 1 8 (length sights)) None (Some (in_matter Party)))
    (Some (in_matter Fact))

-- the plan has so many facts, and a party for each sight
pub record PlanOf (n : ℕ) (sights : List FactSet) (p : Plan) : Type 0 where
  pub facts : p.facts ≡ n
  pub count : p.count ≡ length sights
  pub seated : Seated sights p.parties

-- how making a plan from numbers ends
abbrev pub Planned : ℕ → List FactSet → Result Plan Fault → Type 0
Planned n sights (Ok p) = (plan_fault n sights ≡ None) × PlanOf n sights p
Planned n sights (Err f) = plan_fault n sights ≡ Some f

-- what party i of a plan sees, if the plan has it
abbrev pub sight_of : Plan → ℕ → Option FactSet
sight_of p i = cond (nat_lt i p.count) (Some (slice_index_or p.parties i (seat [] 0)).sight) None

-- what a table of a plan is checked against
abbrev pub terms_of : Bool → Plan → Terms
terms_of in_law p = record { facts = p.facts; parties = p.count; in_law = in_law }

-- the facts and the sights are within the limits
pub record Fits (n : ℕ) (sights : List FactSet) : Type 0 where
  pub some : 1 ≤ n
  pub few : n ≤ 40
  pub seen : Each (Within n) sights

-- so is the number of parties
abbrev pub SeatsAll : List FactSet → Type 0
SeatsAll sights = (1 ≤ length sights) × (length sights ≤ 8)

-- In words: facts or a sight outside the limits are refused Fact, then a number of parties outside them Party, and nothing else is refused.
abbrev pub PlanInWords : Type 0
PlanInWords =
    (n : ℕ) (sights : List FactSet)
    → ((plan_fault n sights ≡ Some (in_matter Fact)) ↔ ¬ Fits n sights)
    × ((plan_fault n sights ≡ Some (in_matter Party)) ↔ (Fits n sights × ¬ SeatsAll sights))
    × ((plan_fault n sights ≡ None) ↔ (Fits n sights × SeatsAll sights))
