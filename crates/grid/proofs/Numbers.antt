-- The number of a state.
use Rattle.std.specs.Prelude.{◌≡◌, ℕ, zero, suc, ◌+◌, ◌-◌, ◌*◌, ◌/◌, ◌%◌, ◌^◌, ◌<◌, ◌≤◌, Bool, true, false, cond, ◌==◌, nat_eq}
use Rattle.std.proofs.Common.{sym, ap, ◌∙◌, arith, pow-suc}
use Rattle.std.proofs.Math.Path.{fun_ext}
use Rattle.std.proofs.Math.Dec.{eqb-zero-suc, eqb-suc-zero, eqb-suc-suc}
use Rattle.std.proofs.lemmas.Nat.{shr-shr, mod-pow-add}
use Rattle.std.proofs.lemmas.Bool.Decides.{nat_tests}
use Rattle.knowledge.specs.Sets.{has}
use Rattle.board.specs.Sheets.{State, state_of, with_place}
use Rattle.grid.specs.Layout.{index}
use Rattle.grid.specs.Pieces.{placed}

-- a bit as a number
bit_small : (b : Bool) → cond b 1 0 < 2
bit_small true = omega arith
bit_small false = omega arith

-- the numbers of a width's states are below its power of two
pub index_lt : (w : ℕ) (s : State) → index w s < 2 ^ w
unfolding index
index_lt zero s = omega arith
index_lt (suc w) s = let h = index_lt w (λ p. s (suc p)) in omega (arith, bit_small (s 0), pow-suc 2 w)

-- the bits past the lowest are those of the half
has_tail : (n k : ℕ) → has n (suc k) ≡ has (n / 2) k
has_tail n k = ap (λ (m : ℕ). nat_eq (m % 2) 1) (sym (shr-shr n 1 k ∙ ap (λ (e : ℕ). n / 2 ^ e) (omega arith)))

-- the lowest bit of a number that is made of one and a half
has_head : (b : Bool) (m : ℕ) → has (cond b 1 0 + 2 * m) 0 ≡ b
has_head true m = grind (arith, nat_tests)
has_head false m = grind (arith, nat_tests)

-- its half
half : (b : Bool) (m : ℕ) → (cond b 1 0 + 2 * m) / 2 ≡ m
half true m = omega arith
half false m = omega arith

-- its rest
low : (b : Bool) (m : ℕ) → (cond b 1 0 + 2 * m) % 2 ≡ cond b 1 0
low true m = omega arith
low false m = omega arith

-- bit p of a state's number is place p
pub has_index : (w p : ℕ) (s : State) → p < w → has (index w s) p ≡ s p
unfolding index
has_index zero p s lt = absurd (omega arith)
has_index (suc w) zero s lt = has_head (s 0) (index w (λ p. s (suc p)))
has_index (suc w) (suc p) s lt =
    has_tail (cond (s 0) 1 0 + 2 * index w (λ p. s (suc p))) p
    ∙ ap (λ (n : ℕ). has n p) (half (s 0) (index w (λ p. s (suc p))))
    ∙ has_index w p (λ q. s (suc q)) (omega arith)

-- to set a place sets that bit
pub index_placed : (w p : ℕ) (s : State) (v : Bool) → p < w → index w (with_place s p v) ≡ placed p (index w s) v
unfolding index placed with_place
index_placed zero p s v lt = absurd (omega arith)
index_placed (suc w) zero s v lt =
    let rest : (λ q. cond (suc q == 0) v (s (suc q))) ≡ (λ q. s (suc q)) =
    fun_ext (λ q. ap (λ (b : Bool). cond b v (s (suc q))) (eqb-suc-zero q)) in
    ap (λ (t : State). cond v 1 0 + 2 * index w t) rest
    ∙ omega (arith, half (s 0) (index w (λ q. s (suc q))))
index_placed (suc w) (suc p) s v lt =
    let rest : (λ q. cond (suc q == suc p) v (s (suc q))) ≡ with_place (λ q. s (suc q)) p v =
    fun_ext (λ q. ap (λ (b : Bool). cond b v (s (suc q))) (eqb-suc-suc q p)) in
    let n = index w (λ q. s (suc q)) in
    ap (λ (b : Bool). cond (cond b v (s 0)) 1 0 + 2 * index w (λ q. cond (suc q == suc p) v (s (suc q)))) (eqb-zero-suc p)
    ∙ ap (λ (t : State). cond (s 0) 1 0 + 2 * index w t) rest
    ∙ ap (λ (m : ℕ). cond (s 0) 1 0 + 2 * m) (index_placed w p (λ q. s (suc q)) v (omega arith))
    ∙ ap (λ (m : ℕ). cond (s 0) 1 0 + 2 * placed p m v) (sym (half (s 0) n))
    ∙ ap (λ (m : ℕ). m + 2 * placed p ((cond (s 0) 1 0 + 2 * n) / 2) v) (sym (low (s 0) n))

-- a set bit stays below a power of two
pub placed_lt : (p m j : ℕ) (v : Bool) → p < m → j < 2 ^ m → placed p j v < 2 ^ m
unfolding placed
placed_lt p zero j v lp lt = absurd (omega arith)
placed_lt zero (suc m) j v lp lt = omega (arith, pow-suc 2 m, bit_small v)
placed_lt (suc p) (suc m) j v lp lt =
    let h = placed_lt p m (j / 2) v (omega arith) (omega (arith, pow-suc 2 m)) in
    omega (arith, pow-suc 2 m)

-- a place of a byte's eight states stays in the byte
pub placed_within : (p k t : ℕ) (v : Bool) → p < 3 → t < 8 → placed p (8 * k + t) v ≡ 8 * k + placed p t v
unfolding placed
placed_within zero k t v lp lt = omega arith
placed_within (suc zero) k t v lp lt = omega arith
placed_within (suc (suc zero)) k t v lp lt =
    let half1 : (8 * k + t) / 2 ≡ 4 * k + t / 2 = omega arith in
    let half2 : (4 * k + t / 2) / 2 ≡ 2 * k + t / 2 / 2 = omega arith in
    let half3 : (8 * k + t) / 2 / 2 ≡ 2 * k + t / 2 / 2 = ap (λ (n : ℕ). n / 2) half1 ∙ half2 in
    let low1 : (8 * k + t) / 2 % 2 ≡ t / 2 % 2 = omega arith in
    let high : (8 * k + t) / 2 / 2 / 2 ≡ k + t / 2 / 2 / 2 = omega arith in
    omega arith
placed_within (suc (suc (suc p))) k t v lp lt = absurd (omega arith)

-- a place past them moves the byte
pub placed_past : (p k t : ℕ) (v : Bool) → 3 ≤ p → t < 8 → placed p (8 * k + t) v ≡ 8 * placed (p - 3) k v + t
unfolding placed
placed_past p k t v high lt =
    let shape : p ≡ suc (suc (suc (p - 3))) = omega arith in
    let here : (8 * k + t) / 2 / 2 / 2 ≡ k = omega arith in
    ap (λ (p : ℕ). placed p (8 * k + t) v) shape ∙ omega (arith, ap (λ (n : ℕ). placed (p - 3) n v) here)

-- a number as an odd or even count of strides and a rest, with the bit of the stride set
placed_count : (q row j : ℕ) (b v : Bool) → j < 2 ^ q
    → placed q ((2 * row + cond b 1 0) * 2 ^ q + j) v ≡ (2 * row + cond v 1 0) * 2 ^ q + j
unfolding placed
placed_count zero row j b v lt = omega (arith, bit_small b)
placed_count (suc q) row j b v lt =
    let x = (2 * row + cond b 1 0) * 2 ^ q in
    let y = (2 * row + cond v 1 0) * 2 ^ q in
    let e : (2 * row + cond b 1 0) * 2 ^ suc q ≡ 2 * x = ap (λ (n : ℕ). (2 * row + cond b 1 0) * n) (pow-suc 2 q) ∙ omega arith in
    let f : (2 * row + cond v 1 0) * 2 ^ suc q ≡ 2 * y = ap (λ (n : ℕ). (2 * row + cond v 1 0) * n) (pow-suc 2 q) ∙ omega arith in
    let h = placed_count q row (j / 2) b v (omega (arith, pow-suc 2 q)) in
    ap (λ (n : ℕ). (n + j) % 2 + 2 * placed q ((n + j) / 2) v) e
    ∙ ap (λ (n : ℕ). n + 2 * placed q ((2 * x + j) / 2) v) (evened x j)
    ∙ ap (λ (n : ℕ). j % 2 + 2 * placed q n v) (halved x j)
    ∙ ap (λ (n : ℕ). j % 2 + 2 * n) h
    ∙ together y j
    ∙ ap (λ (n : ℕ). n + j) (sym f)
  where
    halved : (x j : ℕ) → (2 * x + j) / 2 ≡ x + j / 2
    halved x j = omega arith

    evened : (x j : ℕ) → (2 * x + j) % 2 ≡ j % 2
    evened x j = omega arith

    together : (y j : ℕ) → j % 2 + 2 * (y + j / 2) ≡ 2 * y + j
    together y j = omega arith

-- a number of a row of two strides, with the bit of the stride set
pub placed_row : (q row j : ℕ) (b v : Bool) → j < 2 ^ q
    → placed q (2 * 2 ^ q * row + cond b (2 ^ q) 0 + j) v ≡ 2 * 2 ^ q * row + cond v (2 ^ q) 0 + j
placed_row q row j b v lt =
    ap (λ (n : ℕ). placed q (n + j) v) (sym (factored b)) ∙ placed_count q row j b v lt ∙ ap (λ (n : ℕ). n + j) (factored v)
  where
    factored : (b : Bool) → (2 * row + cond b 1 0) * 2 ^ q ≡ 2 * 2 ^ q * row + cond b (2 ^ q) 0
    factored true = omega arith
    factored false = omega arith

-- the number of the state that a number stands for
pub index_state : (w n : ℕ) → index w (state_of n) ≡ n % 2 ^ w
unfolding index
index_state zero n = omega arith
index_state (suc w) n =
    let tail : (λ p. has n (suc p)) ≡ state_of (n / 2) = fun_ext (λ p. has_tail n p) in
    let h = ap (index w) tail ∙ index_state w (n / 2) in
    let head : cond (has n 0) 1 0 ≡ n % 2 = grind (arith, nat_tests) in
    let rest : n % 2 ^ suc w ≡ (n / 2 % 2 ^ w) * 2 + n % 2 = ap (λ (e : ℕ). n % 2 ^ e) (omega arith) ∙ mod-pow-add n w 1 in
    omega arith
