-- The members of sets of numbers that are held as bits, and the number that holds a set.
use Rattle.std.proofs.Common.{◌≡◌, ℕ, zero, suc, ◌-◌, ◌*◌, ◌/◌, ◌%◌, ◌^◌, ◌<◌, ◌≤◌, Bool, false, ◌&&◌, ◌||◌, T, eqb, ltb, ◌↔◌, sym, ap, ◌∙◌, subst, pow-suc, arith, pow_mono}
use mathlib.Core.Logic.Iff
use native.Mathlib.Decide.{dec_lt}
use native.Mathlib.Nat.{div-eq_of_lt-le}
use lib.Bits.{bit_and, bit_or}
use Rattle.std.proofs.lemmas.Nat.{pow_pos, leading_top}
use Rattle.std.proofs.lemmas.Nat.Bits.{bit_at-zero, bit_at_above, bit_at_lowest, bit_at_and, bit_at_or, bit_at-pow_same, bit_at-pow_other}
use Rattle.std.proofs.lemmas.Bool.Decides.{nat_tests}
use Rattle.knowledge.specs.Sets.{FactSet, Group, has, in_facts, in_group, Within, Present, is_present}
use Rattle.knowledge.proofs.Tests.{T-and, T-ltb}

-- a number is below its power of two
pub below_power : (k : ℕ) → k < 2 ^ k
below_power zero = omega arith
below_power (suc k) = let h = below_power k in rw (pow-suc 2 k) (omega arith)

-- a number below the power of two of n holds members below n alone
pub member_under : (n b k : ℕ) → b < 2 ^ n → T (has b k) → k < n
member_under n b k h t = elim (dec_lt k n) [
  | yes l ↦ l
  | no l ↦ absurd (subst (λ (d : ℕ). T (eqb d 1)) (bit_at_above b n k h (omega arith)) t)
]

-- and so each number does
pub member_below : (b k : ℕ) → T (has b k) → k < b
member_below b k = member_under b b k (below_power b)

-- a set held in a number above 0 has a greatest member
pub top_member : (b : ℕ) → 0 < b → (k : ℕ) × T (has b k) × (b < 2 ^ suc k)
top_member b h =
    let m = leading_top b b h (below_power b) in
    let low : 2 ^ m.0 ≤ b = m.2 in
    let high : b < 2 ^ suc m.0 = m.3 in
    let p : 2 ^ suc m.0 ≡ 2 ^ m.0 * 2 = pow-suc 2 m.0 in
    let e : b / 2 ^ m.0 ≡ 1 = div-eq_of_lt-le {k = 1} (2 ^ m.0) (omega arith) (omega arith) in
    (m.0, subst (λ (d : ℕ). T (eqb (d % 2) 1)) (sym e) tt, high)

-- all members are below n exactly if the number that holds the set is below the power of two of n
pub members_below : (n b : ℕ) → ((k : ℕ) → T (has b k) → k < n) ↔ (b < 2 ^ n)
members_below n b = (λ h. elim (dec_lt b (2 ^ n)) [ yes l ↦ l | no l ↦ absurd (past h (omega arith)) ], λ l k. member_under n b k l)
  where
    past : ((k : ℕ) → T (has b k) → k < n) → 2 ^ n ≤ b → ⊥
    past h l =
        let z = pow_pos n in
        let m = top_member b (omega arith) in
        let low : m.0 < n = h m.0 m.1 in
        let q : 2 ^ suc m.0 ≤ 2 ^ n = pow_mono (omega arith) in
        let high : b < 2 ^ suc m.0 = m.2 in
        omega arith

-- a fact is in a set exactly if the bit before its number is set
in_facts_bits : (s : FactSet) (k : ℕ) → in_facts s (suc k) ≡ has s.bits k
in_facts_bits s k = grind (arith, nat_tests)

-- the sets of facts up to n are those held in the numbers below the power of two of n
pub within_bits : (n : ℕ) (s : FactSet) → Within n s ↔ (s.bits < 2 ^ n)
within_bits n s = Iff.trans (λ h k t. h (suc k) (subst T (sym (in_facts_bits s k)) t), each) (members_below n s.bits)
  where
    each : ((k : ℕ) → T (has s.bits k) → k < n) → Within n s
    each h zero t = omega arith
    each h (suc k) t = h k (subst T (in_facts_bits s k) t)

-- a party is in a group exactly if its bit is set
pub in_group_bits : (g : Group) (i : ℕ) → in_group g i ≡ has g.bits i
in_group_bits g i = grind (arith, nat_tests)

-- a set of numbers has a member exactly if the number that holds it is above 0
pub some_member : (b : ℕ) → ((k : ℕ) × T (has b k)) ↔ (0 < b)
some_member b = (λ m. let l = member_below b m.0 m.1 in omega arith, λ h. let m = top_member b h in (m.0, m.1))

-- the test of a group decides whether it has a member, and only members below the number of parties
pub present_bits : (n : ℕ) (g : Group) → T (is_present n g) ↔ Present n g
present_bits n g =
    Iff.trans (T-and (ltb 0 g.bits) (ltb g.bits (2 ^ n)))
    (simp in_group_bits (Iff.and (Iff.trans (T-ltb 0 g.bits) (Iff.symm (some_member g.bits))) (Iff.trans (T-ltb g.bits (2 ^ n)) (Iff.symm (members_below n g.bits)))))

-- the members of two sets joined
pub has_or : (x y k : ℕ) → has (bit_or x y) k ≡ (has x k || has y k)
has_or x y k = let e = bit_at_or x y k in grind (arith, nat_tests)

-- the lowest bit of a number that has the bits of two
pub and_low : (x y : ℕ) → eqb (bit_and x y % 2) 1 ≡ (eqb (x % 2) 1 && eqb (y % 2) 1)
and_low x y =
    let e = bit_at_and x y 0 in let a = bit_at_lowest x in let b = bit_at_lowest y in let c = bit_at_lowest (bit_and x y) in
    grind (arith, nat_tests)

-- the members that two sets have in common
pub has_and : (x y k : ℕ) → has (bit_and x y) k ≡ (has x k && has y k)
has_and x y k = let e = bit_at_and x y k in grind (arith, nat_tests)

-- the empty set
pub has_zero : (k : ℕ) → has 0 k ≡ false
has_zero k = ap (λ (n : ℕ). eqb n 1) (bit_at-zero k)

-- a set with one member
pub has_power : (k n : ℕ) → has (2 ^ k) n ≡ eqb n k
has_power k n = let same = bit_at-pow_same k in let other = bit_at-pow_other k n in grind (arith, nat_tests)

-- a group with one more member
pub one_more_member : (i b k : ℕ) → has (bit_or (2 ^ i) b) k ≡ (eqb k i || has b k)
one_more_member i b k = has_or (2 ^ i) b k ∙ ap (λ (x : Bool). x || has b k) (has_power i k)

-- a set of facts with one more
pub one_more_fact : (p b q : ℕ) → 1 ≤ p → in_facts (record { bits = bit_or (2 ^ (p - 1)) b }) q ≡ (eqb q p || in_facts (record { bits = b }) q)
one_more_fact p b q h = let m = one_more_member (p - 1) b (q - 1) in rw m (grind (arith, nat_tests))
