-- The eight states of a byte with one of its places set to a value.
use Rattle.std.specs.Prelude.{◌≡◌, ℕ, zero, suc, ◌+◌, ◌-◌, ◌*◌, ◌/◌, ◌%◌, ◌^◌, ◌<◌, Bool, true, false, cond, ◌&&◌, ◌||◌, ◌==◌, bit_and, bit_or, nat_eq, refl}
use Rattle.std.proofs.Common.{sym, ap, ◌∙◌, pow-suc, mul_assoc, arith, lit<}
use Rattle.std.proofs.Math.Bool.{and-true, and-false}
use Rattle.std.proofs.lemmas.Nat.{shr-shr, shl-shr, pow-add}
use Rattle.std.proofs.lemmas.Bool.{ne_eqb}
use Rattle.knowledge.specs.Sets.{has}
use Rattle.knowledge.proofs.Bits.{has_and, has_or}
use Rattle.grid.specs.Pieces.{placed}
use Rattle.grid.proofs.Octets.{has_down}

-- what holds of each of the numbers below eight
pub below_eight : (P : ℕ → Type 0) → P 0 → P 1 → P 2 → P 3 → P 4 → P 5 → P 6 → P 7 → (t : ℕ) → t < 8 → P t
below_eight P a b c d e f g h zero lt = a
below_eight P a b c d e f g h (suc zero) lt = b
below_eight P a b c d e f g h (suc (suc zero)) lt = c
below_eight P a b c d e f g h (suc (suc (suc zero))) lt = d
below_eight P a b c d e f g h (suc (suc (suc (suc zero)))) lt = e
below_eight P a b c d e f g h (suc (suc (suc (suc (suc zero))))) lt = f
below_eight P a b c d e f g h (suc (suc (suc (suc (suc (suc zero)))))) lt = g
below_eight P a b c d e f g h (suc (suc (suc (suc (suc (suc (suc zero))))))) lt = h
below_eight P a b c d e f g h (suc (suc (suc (suc (suc (suc (suc (suc t)))))))) lt = absurd (omega arith)

-- so does a shift up
has_up : (z a t : ℕ) → has (z * 2 ^ a) (a + t) ≡ has z t
has_up z a t = ap (λ (n : ℕ). nat_eq (n % 2) 1) (sym (shr-shr (z * 2 ^ a) a t) ∙ ap (λ (n : ℕ). n / 2 ^ t) (shl-shr z a))

-- the bits of a byte are those of a number that it is cut from
has_cut : (n t : ℕ) → t < 8 → has (n % 256) t ≡ has n t
has_cut n t lt =
    below_eight (λ t. has (n % 256) t ≡ has n t)
    (bit (omega arith)) (bit (omega arith)) (bit (omega arith)) (bit (omega arith))
    (bit (omega arith)) (bit (omega arith)) (bit (omega arith)) (bit (omega arith)) t lt
  where
    bit : {a b : ℕ} → a ≡ b → (a == 1) ≡ (b == 1)
    bit e = ap (λ (n : ℕ). nat_eq n 1) e

-- the bits below a shift are 0
under : (z a t : ℕ) → t < a → has (z * 2 ^ a) t ≡ false
under z a t lt =
    let more : a ≡ suc (a - t - 1) + t = omega arith in
    let twice = pow-suc 2 (a - t - 1) in
    let even : z * 2 ^ suc (a - t - 1) % 2 ≡ 0 = omega (arith, ap (λ (n : ℕ). z * n) twice) in
    ap (λ (e : ℕ). has (z * 2 ^ e) t) more
    ∙ ap (λ (n : ℕ). has (z * n) t) (pow-add 2 (suc (a - t - 1)) t)
    ∙ ap (λ (n : ℕ). has n t) (sym (mul_assoc z (2 ^ suc (a - t - 1)) (2 ^ t)))
    ∙ ap (λ (n : ℕ). nat_eq (n % 2) 1) (shl-shr (z * 2 ^ suc (a - t - 1)) t)
    ∙ ne_eqb _ 1 (λ e. omega arith)

-- the bits that a mask has of a byte, which is lowered by a shift where v is true, each put at the shift too
abbrev doubled : ℕ → ℕ → ℕ → Bool → ℕ
doubled x m a v = let y = cond v (x / 2 ^ a) x in bit_or (bit_and y m) ((bit_and y m * 2 ^ a) % 256)

-- a bit of the byte that may be lowered
lowers : (x a u : ℕ) (v : Bool) → has (cond v (x / 2 ^ a) x) u ≡ has x (cond v (a + u) u)
lowers x a u true = has_down x a u
lowers x a u false = refl

-- it is the one with the place set to v
meets : (x a p t u : ℕ) (v : Bool) → placed p t false ≡ u → placed p t true ≡ a + u → has x (cond v (a + u) u) ≡ has x (placed p t v)
meets x a p t u true off on = ap (has x) (sym on)
meets x a p t u false off on = ap (has x) (sym off)

module _ (x m a p : ℕ) (v : Bool) where
  -- a bit that the mask has, and that no other is put at
  stays : (t : ℕ) → t < 8 → has m t ≡ true → has (bit_and (cond v (x / 2 ^ a) x) m * 2 ^ a) t ≡ false
      → placed p t false ≡ t → placed p t true ≡ a + t → has (doubled x m a v) t ≡ has x (placed p t v)
  stays t lt mine none off on =
      let y = cond v (x / 2 ^ a) x in
      let z = bit_and y m in
      let low = has_or z ((z * 2 ^ a) % 256) t in
      let up = has_cut (z * 2 ^ a) t lt in
      let kept : has (doubled x m a v) t ≡ has y t = simp (low, up, none, has_and y m t, mine, and-true, or_false) in
      kept ∙ lowers x a t v ∙ meets x a p t t v off on
    where
      or_false : (b : Bool) → (b || false) ≡ b
      or_false true = refl
      or_false false = refl

  -- a bit that the mask lacks, at which another is put
  moves : (u : ℕ) → a + u < 8 → has m (a + u) ≡ false → has m u ≡ true
      → placed p (a + u) false ≡ u → placed p (a + u) true ≡ a + u → has (doubled x m a v) (a + u) ≡ has x (placed p (a + u) v)
  moves u lt other mine off on =
      let y = cond v (x / 2 ^ a) x in
      let z = bit_and y m in
      let low = has_or z ((z * 2 ^ a) % 256) (a + u) in
      let up = has_cut (z * 2 ^ a) (a + u) lt ∙ has_up z a u in
      let put : has (doubled x m a v) (a + u) ≡ has y u = simp (low, up, has_and y m (a + u), has_and y m u, other, mine, and-true, and-false) in
      put ∙ lowers x a u v ∙ meets x a p (a + u) u v off on

  -- no bit is put where the mask lacks the one below
  gap : (u : ℕ) → has m u ≡ false → has (bit_and (cond v (x / 2 ^ a) x) m * 2 ^ a) (a + u) ≡ false
  gap u lacks =
      let y = cond v (x / 2 ^ a) x in
      has_up (bit_and y m) a u ∙ has_and y m u ∙ ap (λ (b : Bool). has y u && b) lacks ∙ and-false (has y u)

-- place 0 of a byte's eight states
pub settle_0 : (x t : ℕ) (v : Bool) → t < 8 → has (doubled x 85 1 v) t ≡ has x (placed 0 t v)
unfolding placed
settle_0 x t v lt =
    below_eight (λ t. has (doubled x 85 1 v) t ≡ has x (placed 0 t v))
    (stays x 85 1 0 v 0 (lit< tt) refl (under _ 1 0 (lit< tt)) refl refl)
    (moves x 85 1 0 v 0 (lit< tt) refl refl refl refl)
    (stays x 85 1 0 v 2 (lit< tt) refl (gap x 85 1 0 v 1 refl) refl refl)
    (moves x 85 1 0 v 2 (lit< tt) refl refl refl refl)
    (stays x 85 1 0 v 4 (lit< tt) refl (gap x 85 1 0 v 3 refl) refl refl)
    (moves x 85 1 0 v 4 (lit< tt) refl refl refl refl)
    (stays x 85 1 0 v 6 (lit< tt) refl (gap x 85 1 0 v 5 refl) refl refl)
    (moves x 85 1 0 v 6 (lit< tt) refl refl refl refl) t lt

-- place 1 of them
pub settle_1 : (x t : ℕ) (v : Bool) → t < 8 → has (doubled x 51 2 v) t ≡ has x (placed 1 t v)
unfolding placed
settle_1 x t v lt =
    below_eight (λ t. has (doubled x 51 2 v) t ≡ has x (placed 1 t v))
    (stays x 51 2 1 v 0 (lit< tt) refl (under _ 2 0 (lit< tt)) refl refl)
    (stays x 51 2 1 v 1 (lit< tt) refl (under _ 2 1 (lit< tt)) refl refl)
    (moves x 51 2 1 v 0 (lit< tt) refl refl refl refl)
    (moves x 51 2 1 v 1 (lit< tt) refl refl refl refl)
    (stays x 51 2 1 v 4 (lit< tt) refl (gap x 51 2 1 v 2 refl) refl refl)
    (stays x 51 2 1 v 5 (lit< tt) refl (gap x 51 2 1 v 3 refl) refl refl)
    (moves x 51 2 1 v 4 (lit< tt) refl refl refl refl)
    (moves x 51 2 1 v 5 (lit< tt) refl refl refl refl) t lt

-- place 2 of them
pub settle_2 : (x t : ℕ) (v : Bool) → t < 8 → has (doubled x 15 4 v) t ≡ has x (placed 2 t v)
unfolding placed
settle_2 x t v lt =
    below_eight (λ t. has (doubled x 15 4 v) t ≡ has x (placed 2 t v))
    (stays x 15 4 2 v 0 (lit< tt) refl (under _ 4 0 (lit< tt)) refl refl)
    (stays x 15 4 2 v 1 (lit< tt) refl (under _ 4 1 (lit< tt)) refl refl)
    (stays x 15 4 2 v 2 (lit< tt) refl (under _ 4 2 (lit< tt)) refl refl)
    (stays x 15 4 2 v 3 (lit< tt) refl (under _ 4 3 (lit< tt)) refl refl)
    (moves x 15 4 2 v 0 (lit< tt) refl refl refl refl)
    (moves x 15 4 2 v 1 (lit< tt) refl refl refl refl)
    (moves x 15 4 2 v 2 (lit< tt) refl refl refl refl)
    (moves x 15 4 2 v 3 (lit< tt) refl refl refl refl) t lt
