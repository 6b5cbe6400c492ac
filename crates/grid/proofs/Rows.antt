-- Rows of two strides.
use Rattle.std.proofs.Common.{◌≡◌, ℕ, suc, ◌+◌, ◌-◌, ◌*◌, ◌/◌, ◌^◌, ◌<◌, ◌≤◌, Bool, true, false, cond, ◌⊎◌, List, length, slice_index, slice_set, sym, refl, ap, ◌∙◌, subst, inl, inr, ⊎_elim, mul_comm, pow-suc, arith, length-set, get_or-set_other, get_or-set_same}
use Rattle.std.proofs.lemmas.Nat.{pow_pos, pow-add, mul-le, div-mul-add, div-add-mod'}
use Rattle.std.proofs.lemmas.Bool.{cases_eq, cases_lt}
use Rattle.knowledge.specs.Sets.{has}
use Rattle.grid.specs.Layout.{at}
use Rattle.grid.specs.Pieces.{live, placed, Apart, Bitwise, Paired}
use Rattle.grid.proofs.Fronts.{Front, Says, block, old_bit, live_wide}
use Rattle.grid.proofs.Numbers.{placed_past, placed_row}
use Rattle.grid.proofs.Turns.{bound_at}

-- a pair of a row that is read, and written in both halves of a row
module _ {Gives : ℕ → ℕ → ℕ → Type 0} {xs ys : List ℕ} {to from stride k : ℕ}
    (h : Paired Gives xs to from stride k ys) (apart : Apart to from (2 * stride)) (lt : k < stride) where
  -- the next pair of the row that is read is as it was
  next_low : slice_index ys (from + k) ≡ slice_index xs (from + k)
  next_low = h.others (from + k) (elim apart [
    | inl same ↦ inr (inl (omega arith, omega arith))
    | inr (inl after) ↦ inr (inr (omega arith))
    | inr (inr before) ↦ inl (omega arith)
  ])

  next_high : slice_index ys (from + stride + k) ≡ slice_index xs (from + stride + k)
  next_high = h.others (from + stride + k) (elim apart [
    | inl same ↦ inr (inr (omega arith))
    | inr (inl after) ↦ inr (inr (omega arith))
    | inr (inr before) ↦ inl (omega arith)
  ])

  module _ (byte : ℕ) (room : to + 2 * stride ≤ length xs) where
    -- the bytes with the pair written
    abbrev zs : List ℕ
    zs = slice_set (slice_set ys (to + k) byte) (to + stride + k) byte

    -- what they hold elsewhere, and at the two places
    elsewhere : (m : ℕ) → (m ≡ to + k → ⊥) → (m ≡ to + stride + k → ⊥) → slice_index zs m ≡ slice_index ys m
    elsewhere m ne ne' =
        get_or-set_other (slice_set ys (to + k) byte) (to + stride + k) m byte 0 ne' ∙ get_or-set_other ys (to + k) m byte 0 ne

    at_low : slice_index zs (to + k) ≡ byte
    at_low =
        let inside : to + k < length ys = let size = h.size in omega arith in
        get_or-set_other (slice_set ys (to + k) byte) (to + stride + k) (to + k) byte 0 (omega arith)
        ∙ get_or-set_same ys (to + k) byte 0 inside

    at_high : slice_index zs (to + stride + k) ≡ byte
    at_high =
        let inside : to + stride + k < length (slice_set ys (to + k) byte) = let size = h.size in simp length-set (omega arith) in
        get_or-set_same (slice_set ys (to + k) byte) (to + stride + k) byte 0 inside

    -- one pair more
    pub pair_more : Gives (slice_index ys (from + k)) (slice_index ys (from + stride + k)) byte
        → Paired Gives xs to from stride (k + 1) (slice_set (slice_set ys (to + k) byte) (to + stride + k) byte)
    pair_more made = record {
      size = simp length-set h.size;
      low = λ n nl. ⊎_elim
          (λ (e : n ≡ k). rw e (rw (at_low, ← next_low, ← next_high) made))
          (λ (ne : n ≡ k → ⊥). rw (elsewhere (to + n) (omega (arith, ne)) (omega arith)) (h.low n (omega (arith, ne))))
          (cases_eq n k);
      high = λ n nl. ⊎_elim
          (λ (e : n ≡ k). rw e (at_high ∙ sym at_low))
          (λ (ne : n ≡ k → ⊥). elsewhere (to + stride + n) (omega arith) (omega (arith, ne))
          ∙ h.high n (omega (arith, ne))
          ∙ sym (elsewhere (to + n) (omega (arith, ne)) (omega arith)))
          (cases_eq n k);
      others = λ m out. elim out [
        | inl before ↦ elsewhere m (omega arith) (omega arith) ∙ h.others m (inl before)
        | inr (inl between) ↦ elsewhere m (omega (arith, between)) (omega (arith, between))
            ∙ h.others m (inr (inl (omega (arith, between), between.1)))
        | inr (inr after) ↦ elsewhere m (omega arith) (omega arith) ∙ h.others m (inr (inr (omega arith)))
      ];
    }

-- the first row past a front, once its pairs are done
module _ (Gives : ℕ → ℕ → ℕ → Type 0) (xs ys zs : List ℕ) (w d a start stride : ℕ)
    (h : Front xs ys w d start) (r : Paired Gives ys (512 * d + start) (512 * a + start) stride stride zs)
    (wide : 8 ≤ 2 ^ w) (room : start + 2 * stride ≤ 512) where
  -- bytes before and past the row
  outside : (m : ℕ) → (m < 512 * d + start) ⊎ (512 * d + start + 2 * stride ≤ m) → slice_index zs m ≡ slice_index ys m
  outside m out = r.others m (elim out [ inl before ↦ inl before | inr after ↦ inr (inr (omega arith)) ])

  -- one row more
  pub row_more : Front xs zs w d (start + 2 * stride)
  row_more = record {
    size = r.size ∙ h.size;
    others = λ i k ne lt. ⊎_elim
        (λ (before : i < d). outside (512 * i + k) (inl (omega arith)) ∙ h.others i k ne lt)
        (λ (le : d ≤ i). outside (512 * i + k) (inr (omega (arith, ne))) ∙ h.others i k ne lt)
        (cases_lt i d);
    rest = λ k le. outside (512 * d + k) (inr (omega arith)) ∙ h.rest k (omega arith);
    bare = λ k t lt tl out. absurd (omega arith);
  }

  module _ (p : ℕ) (op : Bool → Bool → Bool) (bits : Bitwise Gives op) (high : 3 ≤ p)
      (partner : (j : ℕ) (b v : Bool) → j < stride → placed (p - 3) (start + cond b stride 0 + j) v ≡ start + cond v stride 0 + j) where
    -- the byte of pair j with the place clear, or set
    abbrev half : ℕ → Bool → ℕ
    half j v = start + cond v stride 0 + j

    -- it lies in the block
    half_inside : (j : ℕ) (v : Bool) → j < stride → half j v < 512
    half_inside j true lt = omega arith
    half_inside j false lt = omega arith

    -- what both halves of the pair say with the place bound
    bound_half : (j t : ℕ) (b : Bool) → j < stride → t < 8
        → bound_at xs a p op (8 * half j b + t) ≡ op (at xs a (8 * half j false + t)) (at xs a (8 * half j true + t))
    bound_half j t b lt tl =
        ap (λ (n : ℕ). op (at xs a n) (at xs a (placed p (8 * half j b + t) true))) (there false)
        ∙ ap (λ (n : ℕ). op (at xs a (8 * half j false + t)) (at xs a n)) (there true)
      where
        there : (v : Bool) → placed p (8 * half j b + t) v ≡ 8 * half j v + t
        there v = placed_past p (half j b) t v high tl ∙ ap (λ (n : ℕ). 8 * n + t) (partner j b v lt)

    -- the byte that was written in both
    written : (j : ℕ) (b : Bool) → j < stride → block zs d (half j b) ≡ slice_index zs (512 * d + start + j)
    written j true lt = let e : 512 * d + (start + stride + j) ≡ 512 * d + start + stride + j = omega arith in rw e (r.high j lt)
    written j false lt = let e : 512 * d + (start + 0 + j) ≡ 512 * d + start + j = omega arith in rw e refl

    -- a byte of the pair that was read
    read : (j t : ℕ) (v : Bool) (m : ℕ) → j < stride → t < 8 → m ≡ 512 * a + half j v → has (slice_index ys m) t ≡ at xs a (8 * half j v + t)
    read j t v m lt tl e = ap (λ (n : ℕ). has (slice_index ys n) t) e ∙ old_bit h a (half j v) t (omega arith) (half_inside j v lt) tl

    -- so its bytes are done
    row_bit : (j t : ℕ) (b : Bool) → j < stride → t < 8 → has (block zs d (half j b)) t ≡ bound_at xs a p op (8 * half j b + t)
    row_bit j t b lt tl =
        let off = read j t false (512 * a + start + j) lt tl (omega arith) in
        let on = read j t true (512 * a + start + stride + j) lt tl (omega arith) in
        ap (λ (x : ℕ). has x t) (written j b lt)
        ∙ bits _ _ _ t tl (r.low j lt)
        ∙ ap (λ (x : Bool). op x (has (slice_index ys (512 * a + start + stride + j)) t)) off
        ∙ ap (λ (y : Bool). op (at xs a (8 * half j false + t)) y) on
        ∙ sym (bound_half j t b lt tl)

    -- and one row more says the function
    pub row_says : Says (block ys d) w start (bound_at xs a p op) → Says (block zs d) w (start + 2 * stride) (bound_at xs a p op)
    row_says before k t lt tl inside = ⊎_elim
        (λ (old : k < start). rw (outside (512 * d + k) (inl (omega arith))) (before k t old tl inside))
        (λ (le : start ≤ k). ⊎_elim
        (λ (low : k < start + stride).
        let e : start + 0 + (k - start) ≡ k = omega arith in
        rw e at (row_bit (k - start) t false (omega arith) tl))
        (λ (up : start + stride ≤ k).
        let e : start + stride + (k - start - stride) ≡ k = omega arith in
        rw e at (row_bit (k - start - stride) t true (omega arith) tl))
        (cases_lt k (start + stride)))
        (cases_lt k start)

-- a width's live bytes are whole rows
rows_whole : (w p : ℕ) → 3 ≤ p → p < w → live w ≡ 2 ^ (w - p - 1) * (2 * 2 ^ (p - 3))
rows_whole w p high inside =
    let parts : w - 3 ≡ (w - p - 1) + suc (p - 3) = omega arith in
    live_wide w (omega arith)
    ∙ ap (λ (e : ℕ). 2 ^ e) parts
    ∙ pow-add 2 (w - p - 1) (suc (p - 3))
    ∙ ap (λ (n : ℕ). 2 ^ (w - p - 1) * n) (pow-suc 2 (p - 3) ∙ mul_comm (2 ^ (p - 3)) 2)

-- the last row ends where the live bytes end
pub rows_all : (w p stride : ℕ) → stride ≡ 2 ^ (p - 3) → 3 ≤ p → p < w → 2 * stride * (live w / (2 * stride)) ≡ live w
rows_all w p stride is high inside =
    let some : 0 < 2 * stride = omega (arith, pow_pos (p - 3)) in
    let whole : live w ≡ 2 ^ (w - p - 1) * (2 * stride) =
    rows_whole w p high inside ∙ ap (λ (s : ℕ). 2 ^ (w - p - 1) * (2 * s)) (sym is) in
    let count : live w / (2 * stride) ≡ 2 ^ (w - p - 1) =
    ap (λ (n : ℕ). n / (2 * stride)) (whole ∙ omega arith) ∙ div-mul-add (2 ^ (w - p - 1)) (2 * stride) 0 some in
    ap (λ (n : ℕ). 2 * stride * n) count ∙ mul_comm (2 * stride) (2 ^ (w - p - 1)) ∙ sym whole

-- each row ends by then
pub row_room : (n size row : ℕ) → row < n / size → size * row + size ≤ n
row_room n size row lt = omega (arith, mul-le (row + 1) size (n / size) size (omega arith) (omega arith), div-add-mod' n size)

-- the bytes of a pair differ in the place
pub partner_of : (q row stride : ℕ) → stride ≡ 2 ^ q → (j : ℕ) (b v : Bool) → j < stride
    → placed q (2 * stride * row + cond b stride 0 + j) v ≡ 2 * stride * row + cond v stride 0 + j
partner_of q row stride is j b v lt =
    subst (λ (s : ℕ). placed q (2 * s * row + cond b s 0 + j) v ≡ 2 * s * row + cond v s 0 + j) (sym is)
    (placed_row q row j b v (omega arith))
