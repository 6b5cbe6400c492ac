-- Sets of facts and of parties.
use Rattle.std.specs.Prelude.{◌≡◌, ℕ, ◌-◌, ◌^◌, ◌<◌, ◌≤◌, Bool, true, false, ◌&&◌, T, ◌↔◌, List, Ok, Err, Result, ◌==◌, nat_le, nat_lt}
use Rattle.std.specs.List.{list_any, list_all}
use Rattle.std.specs.Int.{bit_at}
use Rattle.knowledge.specs.declared.fault.Fault.{Fault}
use Rattle.knowledge.specs.declared.fault.Cause.TheVariants.{Fact, Party}
use Rattle.knowledge.specs.declared.sets.NumberSet.{NumberSet}
use Rattle.knowledge.specs.Faults.{in_matter}

-- whether number k is in a set of numbers that is held as bits
abbrev pub has : ℕ → ℕ → Bool
has s k = bit_at s k == 1

-- a set of facts, which a plan can have from 1 to 40
abbrev pub FactSet : Type 0
FactSet = NumberSet 1 40

-- a group of parties, which a plan can have from 0 to 7
abbrev pub Group : Type 0
Group = NumberSet 0 7

-- whether a number is in a set of numbers from first to last
abbrev pub contains : {first last : ℕ} → NumberSet first last → ℕ → Bool
contains {first} s n = nat_le first n && has s.bits (n - first)

-- whether a fact, counted from 1, is in a set of facts
abbrev pub in_facts : FactSet → ℕ → Bool
in_facts s p = contains s p

-- whether a party, counted from 0, is in a group
abbrev pub in_group : Group → ℕ → Bool
in_group g i = contains g i

-- the set without facts
abbrev pub no_facts : FactSet
no_facts = record { bits = 0 }

-- no fact of the set is past n
abbrev pub Within : ℕ → FactSet → Type 0
Within n s = (p : ℕ) → T (in_facts s p) → p ≤ n

-- whether no fact of the set is past n, which its bits tell
abbrev pub is_within : ℕ → FactSet → Bool
is_within n s = nat_lt s.bits (2 ^ n)

-- the group has a member, and only members below the number of parties
abbrev pub Present : ℕ → Group → Type 0
Present parties g = ((i : ℕ) × T (in_group g i)) × ((i : ℕ) → T (in_group g i) → i < parties)

-- whether the group has a member, and only members below the number of parties, which its bits tell
abbrev pub is_present : ℕ → Group → Bool
is_present parties g = nat_lt 0 g.bits && nat_lt g.bits (2 ^ parties)

-- the bits tell
abbrev pub GroupInWords : Type 0
GroupInWords = (parties : ℕ) (g : Group) → T (is_present parties g) ↔ Present parties g

-- whether a number is in a list
abbrev pub listed : ℕ → List ℕ → Bool
listed k ns = list_any (λ n. k == n) ns

-- whether a number is from first to last
abbrev pub between : ℕ → ℕ → ℕ → Bool
between first last n = nat_le first n && nat_le n last

-- whether each number of a list is from first to last
abbrev pub all_between : ℕ → ℕ → List ℕ → Bool
all_between first last ns = list_all (between first last) ns

-- A set made of a list of numbers has those and no others as members; it is refused where a number is not from first to last.
abbrev pub Collected : {first last : ℕ} → Fault → List ℕ → Result (NumberSet first last) Fault → Type 0
Collected {first} {last} refusal ns (Ok s) = (all_between first last ns ≡ true) × ((n : ℕ) → contains s n ≡ listed n ns)
Collected {first} {last} refusal ns (Err f) = (all_between first last ns ≡ false) × (f ≡ refusal)

-- a set made of the numbers of facts
abbrev pub FactsCollected : List ℕ → Result FactSet Fault → Type 0
FactsCollected ns r = Collected (in_matter Fact) ns r

-- a group made of the numbers of parties
abbrev pub MembersCollected : List ℕ → Result Group Fault → Type 0
MembersCollected ns r = Collected (in_matter Party) ns r
