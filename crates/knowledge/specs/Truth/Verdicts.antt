-- Queries with answers that were worked out by hand.
use Rattle.std.specs.Prelude.{◌≡◌, ℕ, ◌-◌, ◌^◌, Bool, true, false, T, ◌↔◌, List, [], ◌∷◌, map, bit_or}
use Rattle.knowledge.specs.declared.table.Connective.TheVariants.{And, Or}
use Rattle.knowledge.specs.declared.table.Kind.TheVariants.{Top, Fact, Binary}
use Rattle.knowledge.specs.Tables.Formulas.{Formula, bottom, fact, not, binary, knows, shared, post, tell, knows_whether, tell_whether}
use Rattle.knowledge.specs.Lists.{Each}
use Rattle.knowledge.specs.Sets.{FactSet, Group, in_facts, in_group, listed, all_between}
use Rattle.knowledge.specs.Truth.Situations.{Setting, Holds, opened}

-- the set of the facts with these numbers
abbrev pub fact_set : List ℕ → FactSet
fact_set [] = record { bits = 0 }
fact_set (p ∷ ps) = record { bits = bit_or (2 ^ (p - 1)) (fact_set ps).bits }

-- the group of the parties with these numbers
abbrev pub group_of : List ℕ → Group
group_of [] = record { bits = 0 }
group_of (i ∷ is) = record { bits = bit_or (2 ^ i) (group_of is).bits }

-- these sets have the members that are listed, and no others
abbrev pub SetsAsListed : Type 0
SetsAsListed =
    ((n : ℕ) (ps : List ℕ) → all_between 1 n ps ≡ true → (p : ℕ) → in_facts (fact_set ps) p ≡ listed p ps)
    × ((is : List ℕ) (i : ℕ) → in_group (group_of is) i ≡ listed i is)

-- a plan with its law, the actual facts, a query, and its answer
pub record Verdict : Type 0 where
  pub setting : Setting
  pub facts : FactSet
  pub query : Formula
  pub answer : Bool

-- three facts, of which each of alice, bob and carol sees all but their own; every set of them can be
abbrev pub muddy : Setting
muddy = record {
  facts = 3;
  sights = fact_set (2 ∷ 3 ∷ []) ∷ fact_set (1 ∷ 3 ∷ []) ∷ fact_set (1 ∷ 2 ∷ []) ∷ [];
  law = record { kind = Top } ∷ [];
}

-- two facts, at least one of which holds; alice sees the first, bob the second
abbrev pub either_of_two : Setting
either_of_two = record {
  facts = 2;
  sights = fact_set (1 ∷ []) ∷ fact_set (2 ∷ []) ∷ [];
  law = record { kind = Fact 1 } ∷ record { kind = Fact 2 } ∷ record { kind = Binary Or 0 1 } ∷ [];
}

-- one fact, which alice does not see
abbrev pub unseen_fact : Setting
unseen_fact = record { facts = 1; sights = fact_set [] ∷ []; law = record { kind = Top } ∷ [] }

-- at least one of the three facts holds
abbrev pub some_fact : Formula
some_fact = binary Or (fact 1) (binary Or (fact 2) (fact 3))

-- nobody knows whether they have their own fact
abbrev pub nobody_knows : Formula
nobody_knows = binary And (not (knows_whether 0 (fact 1))) (binary And (not (knows_whether 1 (fact 2))) (not (knows_whether 2 (fact 3))))

-- the first fact holds, and alice does not know it
abbrev pub unknown_truth : Formula
unknown_truth = binary And (fact 1) (not (knows 0 (fact 1)))

-- all three
abbrev pub everyone : Group
everyone = group_of (0 ∷ 1 ∷ 2 ∷ [])

-- bob alone
abbrev pub bob : Group
bob = group_of (1 ∷ [])

-- the worked verdicts
abbrev pub verdicts : List Verdict
verdicts =
    record { setting = muddy; facts = fact_set (1 ∷ 2 ∷ 3 ∷ []); query = post some_fact (knows 0 (fact 1)); answer = false }
    ∷ record { setting = muddy; facts = fact_set (1 ∷ 2 ∷ 3 ∷ []); query = post some_fact (post nobody_knows (post nobody_knows (knows 0 (fact 1)))); answer = true }
    ∷ record { setting = muddy; facts = fact_set (1 ∷ 2 ∷ []); query = post some_fact (post nobody_knows (knows 0 (fact 1))); answer = true }
    ∷ record { setting = muddy; facts = fact_set (1 ∷ 2 ∷ []); query = post nobody_knows (post some_fact (knows 0 (fact 1))); answer = false }
    ∷ record { setting = muddy; facts = fact_set []; query = post some_fact bottom; answer = true }
    ∷ record { setting = muddy; facts = fact_set (1 ∷ 2 ∷ 3 ∷ []); query = shared everyone some_fact; answer = false }
    ∷ record { setting = either_of_two; facts = fact_set (1 ∷ []); query = knows 1 (fact 1); answer = true }
    ∷ record { setting = either_of_two; facts = fact_set (1 ∷ 2 ∷ []); query = tell bob (fact 1) (knows 0 (knows 1 (fact 1))); answer = false }
    ∷ record { setting = either_of_two; facts = fact_set (2 ∷ []); query = tell_whether bob (fact 1) (knows 1 (not (fact 1))); answer = true }
    ∷ record { setting = unseen_fact; facts = fact_set (1 ∷ []); query = post unknown_truth unknown_truth; answer = false }
    ∷ []

-- the answers, in the order of the verdicts
abbrev pub answers : List Bool
answers = map (λ v. v.answer) verdicts

-- each answer is the truth of its query where a matter is opened with the facts
abbrev pub VerdictsTrue : Type 0
VerdictsTrue = Each (λ v. T v.answer ↔ Holds (opened v.setting v.facts) v.query) verdicts
