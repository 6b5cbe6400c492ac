-- The bits of a number as a set, and the set that a list of numbers makes.
use Rattle.std.proofs.Common.{◌≡◌, ℕ, ◌+◌, ◌-◌, ◌*◌, ◌/◌, ◌%◌, ◌^◌, ◌<◌, ◌≤◌, Bool, true, ◌&&◌, ◌||◌, eqb, ltb, leb, List, length, get_or, take, sym, ap, ◌∙◌, arith, pow_mono}
use native.Mathlib.Nat.{div-eq_of_lt}
use native.Mathlib.Decide.{dec_lt}
use lib.Bits.{bit_or}
use Rattle.std.proofs.lemmas.Nat.{pow_pos, le-div, one_shl}
use Rattle.std.proofs.lemmas.List.Folds.{list_all_more, list_any_more}
use Rattle.std.proofs.lemmas.Bool.Decides.{nat_tests}
use Rattle.knowledge.proofs.Bits.{has_or, has_power}
use Rattle.knowledge.specs.Sets.{has, listed, between, all_between}

-- a number joins the bits
member_more : (first bits v n : ℕ) → first ≤ v
    → (leb first n && has (bit_or bits (2 ^ (v - first))) (n - first)) ≡ ((leb first n && has bits (n - first)) || eqb n v)
member_more first bits v n h =
    let o = has_or bits (2 ^ (v - first)) (n - first) in
    let p = has_power (v - first) (n - first) in
    rw (o, p) (grind (arith, nat_tests))

-- one more number in range
pub all_more : (first last i : ℕ) (xs : List ℕ) → i < length xs → first ≤ get_or xs i 0 → get_or xs i 0 ≤ last
    → all_between first last (take i xs) ≡ true → all_between first last (take (i + 1) xs) ≡ true
all_more first last i xs l a b h = list_all_more (between first last) xs i 0 l ∙ grind (arith, nat_tests)

-- one more number collected
pub listed_more : (first bits i n : ℕ) (xs : List ℕ) → i < length xs → first ≤ get_or xs i 0 → get_or xs i 0 < first + 64
    → (leb first n && has bits (n - first)) ≡ listed n (take i xs)
    → (leb first n && has (bit_or bits (1 * 2 ^ (get_or xs i 0 - first) % 2 ^ 64)) (n - first)) ≡ listed n (take (i + 1) xs)
listed_more first bits i n xs l a b h =
    let v = get_or xs i 0 in
    let e : (1 * 2 ^ (v - first)) % 2 ^ 64 ≡ 2 ^ (v - first) = one_shl (v - first) 64 (omega arith) in
    rw e (member_more first bits v n a ∙ (ap (λ (m : Bool). m || eqb n v) h ∙ sym (list_any_more (λ m. eqb n m) xs i 0 l)))

-- both, for every number from the first up
pub collected_more : (first last bits i : ℕ) (xs : List ℕ) → i < length xs → first ≤ get_or xs i 0 → get_or xs i 0 ≤ last
    → (all_between first last (take i xs) ≡ true) × ((n : ℕ) → (leb first n && has bits (n - first)) ≡ listed n (take i xs))
    → (all_between first last (take (i + 1) xs) ≡ true)
    × ((n : ℕ) → (leb first n && has (bit_or bits (2 ^ (get_or xs i 0 - first))) (n - first)) ≡ listed n (take (i + 1) xs))
collected_more first last bits i xs l a b h = (
  all_more first last i xs l a b h.0,
  λ n. member_more first bits (get_or xs i 0) n a
      ∙ (ap (λ (m : Bool). m || eqb n (get_or xs i 0)) (h.1 n) ∙ sym (list_any_more (λ m. eqb n m) xs i 0 l)),
)

-- what one more number changes
pub ruleset collecting = (nat_tests, all_more, listed_more)

-- nothing is left of a number after a shift exactly if it is below the power
pub none_above : (s k : ℕ) → eqb (s / 2 ^ k) 0 ≡ ltb s (2 ^ k)
none_above s k = elim (dec_lt s (2 ^ k)) [
  | yes h ↦ (let z : s / 2 ^ k ≡ 0 = div-eq_of_lt h in grind (arith, nat_tests))
  | no h ↦ (let z = le-div 1 s (2 ^ k) (pow_pos k) (omega arith) in grind (arith, nat_tests))
]

-- a number of 64 bits is below the powers from 64 up, and nothing is left of it
pub all_below : (s k : ℕ) → s < 2 ^ 64 → 64 ≤ k → ltb s (2 ^ k) ≡ true
all_below s k h l = let m : 2 ^ 64 ≤ 2 ^ k = pow_mono l in grind (arith, nat_tests)

pub all_shifted : (s k : ℕ) → s < 2 ^ 64 → 64 ≤ k → s / 2 ^ k ≡ 0
all_shifted s k h l = let m : 2 ^ 64 ≤ 2 ^ k = pow_mono l in div-eq_of_lt (omega arith)

-- what is left after a shift
pub ruleset shifts = (nat_tests, none_above, all_below, all_shifted)
