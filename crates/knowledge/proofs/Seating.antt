-- The sights of a plan's parties.
use Rattle.std.proofs.Common.{◌≡◌, ℕ, zero, suc, ◌^◌, true, T, List, [], ◌∷◌, get_or, sym, subst, lt→ltb}
use Rattle.std.proofs.lemmas.Nat.{pow_pos}
use Rattle.std.proofs.lemmas.Bool.{and_parts}
use Rattle.knowledge.specs.Sets.{FactSet, no_facts, is_within}
use Rattle.knowledge.specs.Seats.{all_within}

-- each sight is within the limit where all are
pub each_within : (n : ℕ) (ss : List FactSet) → all_within n ss ≡ true → (k : ℕ) → T (is_within n (get_or ss k no_facts))
each_within n [] e k = lt→ltb 0 (2 ^ n) (pow_pos n)
each_within n (s ∷ ss) e zero = subst T (sym (and_parts (is_within n s) (all_within n ss) e).0) tt
each_within n (s ∷ ss) e (suc k) = each_within n ss (and_parts (is_within n s) (all_within n ss) e).1 k
