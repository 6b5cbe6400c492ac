-- The bits of a byte.
use Rattle.std.specs.Prelude.{◌≡◌, ℕ, ◌+◌, ◌-◌, ◌*◌, ◌/◌, ◌%◌, ◌^◌, ◌<◌, ◌≤◌, Bool, true, false, not, ◌&&◌, ◌||◌, ◌==◌, bit_and, bit_or, nat_eq, refl}
use Rattle.std.proofs.Common.{sym, ap, ◌∙◌, w8, arith}
use Rattle.std.proofs.lemmas.Nat.Bits.{bit_at_not, same_from_bits_below}
use Rattle.std.proofs.lemmas.Nat.{shr-shr}
use Rattle.std.proofs.lemmas.Bool.{agree_below_at}
use Rattle.std.proofs.lemmas.Bool.Decides.{nat_tests}
use Rattle.knowledge.specs.Sets.{has}
use Rattle.knowledge.proofs.Bits.{has_and, has_or, has_zero}
use Rattle.board.specs.Requests.{joined}
use Rattle.grid.specs.declared.bytes.Cases.{Cases}
use Rattle.grid.specs.Pieces.{whole_byte, cases_of}

-- a byte turned round
pub has_not : (x t : ℕ) → x < 256 → t < 8 → has (255 - x) t ≡ not (has x t)
has_not x t small lt = grind (arith, nat_tests, bit_at_not w8 x t small lt)

-- a byte of one value
pub has_whole : (b : Bool) (t : ℕ) → t < 8 → has (whole_byte b) t ≡ b
has_whole true t lt = agree_below_at (has 255) (λ _. true) 8 t refl lt
has_whole false t lt = has_zero t

-- the four parts of a join of bytes
abbrev join_bytes : Cases → ℕ → ℕ → ℕ
join_bytes k a b =
    let both = bit_and (bit_and a b) k.both in
    let left = bit_and (bit_and a (255 - b)) k.left in
    let right = bit_and (bit_and (255 - a) b) k.right in
    let neither = bit_and (bit_and (255 - a) (255 - b)) k.neither in
    bit_or (bit_or (bit_or both left) right) neither

-- the same of bits
abbrev join_parts : ℕ → Bool → Bool → Bool
join_parts c a b =
    let both = (a && b) && has c 3 in
    let left = (a && not b) && has c 2 in
    let right = (not a && b) && has c 1 in
    let neither = (not a && not b) && has c 0 in
    ((both || left) || right) || neither

-- each counts where its pair of bits stands
picked : (c : ℕ) (a b : Bool) → join_parts c a b ≡ joined c a b
picked c true true = grind arith
picked c true false = grind arith
picked c false true = grind arith
picked c false false = grind arith

-- a join of two bytes by the cases of a code
pub join_bits : (k : Cases) (c a b t : ℕ) → k ≡ cases_of c → a < 256 → b < 256 → t < 8
    → has (join_bytes k a b) t ≡ joined c (has a t) (has b t)
join_bits k c a b t is la lb lt =
    let na : has (255 - a) t ≡ not (has a t) = has_not a t la lt in
    let nb : has (255 - b) t ≡ not (has b t) = has_not b t lb lt in
    let p : has k.both t ≡ has c 3 = ap (λ (k : Cases). has k.both t) is ∙ has_whole (has c 3) t lt in
    let q : has k.left t ≡ has c 2 = ap (λ (k : Cases). has k.left t) is ∙ has_whole (has c 2) t lt in
    let r : has k.right t ≡ has c 1 = ap (λ (k : Cases). has k.right t) is ∙ has_whole (has c 1) t lt in
    let s : has k.neither t ≡ has c 0 = ap (λ (k : Cases). has k.neither t) is ∙ has_whole (has c 0) t lt in
    simp (has_or, has_and, na, nb, p, q, r, s) (picked c (has a t) (has b t))

-- a shift down moves the bits
pub has_down : (x s t : ℕ) → has (x / 2 ^ s) t ≡ has x (s + t)
has_down x s t = ap (λ (n : ℕ). nat_eq (n % 2) 1) (shr-shr x s t)

-- the places of a byte's eight states are patterns that all bytes share
module _ (k t : ℕ) (lt : t < 8) where
  pub atom_0 : has 170 t ≡ has (8 * k + t) 0
  atom_0 = agree_below_at (has 170) (λ t. has t 0) 8 t refl lt ∙ ap (λ (n : ℕ). nat_eq n 1) (omega arith)

  pub atom_1 : has 204 t ≡ has (8 * k + t) 1
  atom_1 = agree_below_at (has 204) (λ t. has t 1) 8 t refl lt ∙ ap (λ (n : ℕ). nat_eq n 1) (omega arith)

  pub atom_2 : has 240 t ≡ has (8 * k + t) 2
  atom_2 = agree_below_at (has 240) (λ t. has t 2) 8 t refl lt ∙ ap (λ (n : ℕ). nat_eq n 1) (omega arith)

-- a place past them is a bit of the byte's number
pub atom_past : (k t p : ℕ) → t < 8 → 3 ≤ p → has (whole_byte (k / 2 ^ (p - 3) % 2 == 1)) t ≡ has (8 * k + t) p
atom_past k t p lt high =
    let here : (8 * k + t) / 8 ≡ k = omega arith in
    let split : 3 + (p - 3) ≡ p = omega arith in
    has_whole (has k (p - 3)) t lt
    ∙ ap (λ (n : ℕ). has n (p - 3)) (sym here)
    ∙ has_down (8 * k + t) 3 (p - 3)
    ∙ ap (has (8 * k + t)) split

-- bytes with the same bits are the same
pub byte_ext : (x y : ℕ) → x < 256 → y < 256 → ((t : ℕ) → t < 8 → has x t ≡ has y t) → x ≡ y
byte_ext x y lx ly h = same_from_bits_below 8 x y lx ly (λ t lt. same (x / 2 ^ t) (y / 2 ^ t) (h t lt))
  where
    same : (x y : ℕ) → (x % 2 == 1) ≡ (y % 2 == 1) → x % 2 ≡ y % 2
    same x y e = grind (arith, nat_tests)
