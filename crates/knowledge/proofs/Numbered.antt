-- Lists of numbers, and sets made of them.
use Rattle.std.proofs.Common.{◌≡◌, ℕ, ◌-◌, ◌≤◌, true, T, List, [], ◌∷◌, arith}
use Rattle.knowledge.specs.Sets.{in_group, listed, all_between}
use Rattle.knowledge.specs.Truth.Rules.{Gives}
use Rattle.knowledge.specs.Truth.Verdicts.{fact_set, group_of}
use Rattle.std.proofs.lemmas.Bool.Decides.{nat_tests}
use Rattle.knowledge.proofs.Logic.{passes}
use Rattle.knowledge.proofs.Bits.{has_zero, one_more_member, one_more_fact}

-- what is in a list of numbers from first to last is from first to last
pub listed_between : (first last : ℕ) (ns : List ℕ) (k : ℕ) → all_between first last ns ≡ true → T (listed k ns) → (first ≤ k) × (k ≤ last)
listed_between first last ns k e t = go ns e (passes (listed k ns) t)
  where
    go : (ns : List ℕ) → all_between first last ns ≡ true → listed k ns ≡ true → (first ≤ k) × (k ≤ last)
    go [] e t = grind (arith, nat_tests)
    go (n ∷ ns) e t = let h = go ns in grind (arith, nat_tests)

-- a set made of the numbers of facts gives those facts
pub fact_set_gives : (n : ℕ) (ps : List ℕ) → all_between 1 n ps ≡ true → Gives ps (fact_set ps)
fact_set_gives n [] e k = let none = has_zero (k - 1) in grind (arith, nat_tests)
fact_set_gives n (p ∷ ps) e k = let rest = fact_set_gives n ps in let more = one_more_fact p (fact_set ps).bits k in grind (arith, nat_tests)

-- a group made of the numbers of parties has those parties
pub group_of_has : (is : List ℕ) (k : ℕ) → in_group (group_of is) k ≡ listed k is
group_of_has [] k = let none = has_zero k in grind (arith, nat_tests)
group_of_has (i ∷ is) k = let rest = group_of_has is k in let more = one_more_member i (group_of is).bits k in grind (arith, nat_tests)
