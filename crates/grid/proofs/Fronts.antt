-- A block that is rewritten in place, from its first byte on.
use Rattle.std.specs.Prelude.{◌≡◌, ℕ, zero, suc, ◌+◌, ◌-◌, ◌*◌, ◌/◌, ◌%◌, ◌^◌, ◌<◌, ◌≤◌, Bool, false, cond, ◌&&◌, ◌⊎◌, List, length, ◌≢◌, bit_and, nat_lt, slice_index, slice_set, refl}
use Rattle.std.proofs.Common.{sym, ◌∙◌, inl, inr, arith, length-set, get_or-set_same, get_or-set_other}
use Rattle.std.proofs.Math.Path.{ap, fun_ext}
use Rattle.std.proofs.Math.Logic.{⊎_elim}
use Rattle.std.proofs.Math.Pow.{pow_mono}
use Rattle.std.proofs.lemmas.Nat.{pow_pos, pow-add}
use Rattle.std.proofs.lemmas.Bool.{cases_eq, cases_lt, lt-ltb, le-ltb, eq-eqb, ne_eqb}
use Rattle.knowledge.specs.Sets.{has}
use Rattle.knowledge.proofs.Bits.{has_and}
use Rattle.board.specs.Sheets.{State, Function, Sheets, with_sheet}
use Rattle.board.specs.Requests.{Meaning}
use Rattle.grid.specs.Layout.{at, index, sheet, meaning_of, Clean}
use Rattle.grid.specs.Pieces.{live, writing}
use Rattle.grid.proofs.Numbers.{index_lt}
use Rattle.std.proofs.Math.Bool.{and-true, and-false}

-- the bytes of a grid of a width
pub record Held (xs : List ℕ) (w : ℕ) : Type 0 where
  pub size : length xs ≡ 32768
  pub narrow : w ≤ 12
  pub clean : Clean xs w

-- bit 8 k + t of a block is bit t of its byte k
pub at_byte : (xs : List ℕ) (i k t : ℕ) → t < 8 → at xs i (8 * k + t) ≡ has (slice_index xs (512 * i + k)) t
unfolding at
at_byte xs i k t lt =
    let q : (8 * k + t) / 8 ≡ k = omega arith in
    let r : (8 * k + t) % 8 ≡ t = omega arith in
    rw (q, r)

-- from width 3 on each byte is full
eighth : (w : ℕ) → 3 ≤ w → 2 ^ w ≡ 2 ^ (w - 3) * 8
eighth w wide = ap (λ (e : ℕ). 2 ^ e) (omega arith) ∙ pow-add 2 (w - 3) 3

pub live_wide : (w : ℕ) → 3 ≤ w → live w ≡ 2 ^ (w - 3)
live_wide w wide = let e = eighth w wide in omega arith

-- a width's states take a part of one byte, or whole bytes
pub live_size : (w : ℕ) → ((live w ≡ 1) × (2 ^ w < 8)) ⊎ ((live w * 8 ≡ 2 ^ w) × (8 ≤ 2 ^ w))
live_size zero = inl (refl, omega arith)
live_size (suc zero) = inl (refl, omega arith)
live_size (suc (suc zero)) = inl (refl, omega arith)
live_size (suc (suc (suc w))) =
    let e = eighth (suc (suc (suc w))) (omega arith) in
    inr (omega arith, omega (arith, pow_pos (suc (suc (suc w)) - 3)))

-- byte k of block d
abbrev pub block : List ℕ → ℕ → ℕ → ℕ
block xs d k = slice_index xs (512 * d + k)

-- the bits of a block's first m bytes that stand for no state of a width are 0
abbrev pub Bare : (ℕ → ℕ) → ℕ → ℕ → Type 0
Bare byte w m = (k t : ℕ) → k < m → t < 8 → 2 ^ w ≤ t → has (byte k) t ≡ false

-- and the others say a function of a state's number
abbrev pub Says : (ℕ → ℕ) → ℕ → ℕ → (ℕ → Bool) → Type 0
Says byte w m f = (k t : ℕ) → k < m → t < 8 → t < 2 ^ w → has (byte k) t ≡ f (8 * k + t)

-- one byte more of a block
module _ (p q : ℕ → ℕ) (w m : ℕ) (same : (k : ℕ) → k < m → q k ≡ p k) where
  pub bare_more : Bare p w m → ((t : ℕ) → t < 8 → 2 ^ w ≤ t → has (q m) t ≡ false) → Bare q w (m + 1)
  bare_more before here k t lt tl out = ⊎_elim
      (λ (e : k ≡ m). rw e (here t tl out))
      (λ (ne : k ≡ m → ⊥).
      let old : k < m = omega (arith, ne) in
      rw (same k old) (before k t old tl out))
      (cases_eq k m)

  pub says_more : (f : ℕ → Bool) → Says p w m f → ((t : ℕ) → t < 8 → t < 2 ^ w → has (q m) t ≡ f (8 * m + t)) → Says q w (m + 1) f
  says_more f before here k t lt tl inside = ⊎_elim
      (λ (e : k ≡ m). rw e (here t tl inside))
      (λ (ne : k ≡ m → ⊥).
      let old : k < m = omega (arith, ne) in
      rw (same k old) (before k t old tl inside))
      (cases_eq k m)

-- a bit that a width's states leave
module _ {bit : Bool} (v : Bool) (w t : ℕ) (is : bit ≡ (v && nat_lt t (2 ^ w))) where
  pub past_states : 2 ^ w ≤ t → bit ≡ false
  past_states out = is ∙ ap (λ (b : Bool). v && b) (le-ltb _ _ out) ∙ and-false v

  pub at_state : t < 2 ^ w → bit ≡ v
  at_state seen = is ∙ ap (λ (b : Bool). v && b) (lt-ltb _ _ seen) ∙ and-true v

-- a mask leaves them
pub masked : (byte mask w t : ℕ) → has mask t ≡ nat_lt t (2 ^ w) → has (bit_and byte mask) t ≡ (has byte t && nat_lt t (2 ^ w))
masked byte mask w t mine = has_and byte mask t ∙ ap (λ (b : Bool). has byte t && b) mine

-- Block d of a grid on the way: the first m bytes are 0 past a width's states, and all bytes but them are as they were.
pub record Front (xs ys : List ℕ) (w d m : ℕ) : Type 0 where
  pub size : length ys ≡ 32768
  pub others : (i k : ℕ) → (i ≢ d) → k < 512 → block ys i k ≡ block xs i k
  pub rest : (k : ℕ) → m ≤ k → block ys d k ≡ block xs d k
  pub bare : Bare (block ys d) w m

-- nothing is done yet
pub begin : (xs : List ℕ) (w d : ℕ) → length xs ≡ 32768 → Front xs xs w d 0
begin xs w d size = record {
  size = size;
  others = λ i k ne lt. refl;
  rest = λ k le. refl;
  bare = λ k t none lt out. absurd (omega arith);
}

-- and nothing is said
pub begin_says : (byte : ℕ → ℕ) (w : ℕ) (f : ℕ → Bool) → Says byte w 0 f
begin_says byte w f k t none lt seen = absurd (omega arith)

-- a byte that was written in a block, and the ones before it
module _ (ys : List ℕ) (d m byte : ℕ) where
  pub written_here : 512 * d + m < length ys → block (slice_set ys (512 * d + m) byte) d m ≡ byte
  written_here there = get_or-set_same ys (512 * d + m) byte 0 there

  pub written_elsewhere : (k : ℕ) → k < m → block (slice_set ys (512 * d + m) byte) d k ≡ block ys d k
  written_elsewhere k lt = get_or-set_other ys (512 * d + m) (512 * d + k) byte 0 (omega arith)

module _ {xs ys : List ℕ} {w d m : ℕ} (h : Front xs ys w d m) where
  -- one byte more
  pub next : (byte : ℕ) → d < 64 → m < 512 → ((t : ℕ) → t < 8 → 2 ^ w ≤ t → has byte t ≡ false)
      → Front xs (slice_set ys (512 * d + m) byte) w d (m + 1)
  next byte known inside none =
      let size = h.size in
      record {
        size = simp length-set size;
        others = λ i k ne lt. get_or-set_other ys (512 * d + m) (512 * i + k) byte 0 (omega (arith, ne)) ∙ h.others i k ne lt;
        rest = λ k le. get_or-set_other ys (512 * d + m) (512 * d + k) byte 0 (omega arith) ∙ h.rest k (omega arith);
        bare = bare_more (block ys d) (block (slice_set ys (512 * d + m) byte) d) w m (written_elsewhere ys d m byte) h.bare
            (λ t tl out. rw (written_here ys d m byte (omega arith)) (none t tl out));
      }

  -- and what it says
  pub says_next : (byte : ℕ) → d < 64 → m < 512 → (f : ℕ → Bool) → Says (block ys d) w m f
      → ((t : ℕ) → t < 8 → t < 2 ^ w → has byte t ≡ f (8 * m + t)) → Says (block (slice_set ys (512 * d + m) byte) d) w (m + 1) f
  says_next byte known inside f says bits =
      let size = h.size in
      says_more (block ys d) (block (slice_set ys (512 * d + m) byte) d) w m (written_elsewhere ys d m byte) f says
      (λ t tl seen. rw (written_here ys d m byte (omega arith)) (bits t tl seen))

  -- one byte more, of which a mask leaves the width's states
  pub next_masked : (byte mask : ℕ) → d < 64 → m < 512 → ((t : ℕ) → t < 8 → has mask t ≡ nat_lt t (2 ^ w))
      → Front xs (slice_set ys (512 * d + m) (bit_and byte mask)) w d (m + 1)
  next_masked byte mask known inside mine =
      next (bit_and byte mask) known inside
      (λ t tl out. past_states (has byte t) w t (masked byte mask w t (mine t tl)) out)

  -- and what it says
  pub says_masked : (byte mask : ℕ) → d < 64 → m < 512 → ((t : ℕ) → t < 8 → has mask t ≡ nat_lt t (2 ^ w))
      → (f : ℕ → Bool) → Says (block ys d) w m f → ((t : ℕ) → t < 8 → has byte t ≡ f (8 * m + t))
      → Says (block (slice_set ys (512 * d + m) (bit_and byte mask)) d) w (m + 1) f
  says_masked byte mask known inside mine f says bits =
      says_next (bit_and byte mask) known inside f says
      (λ t tl seen. at_state (has byte t) w t (masked byte mask w t (mine t tl)) seen ∙ bits t tl)

  -- from byte m on, each block is as it was
  pub old_byte : (i k : ℕ) → m ≤ k → k < 512 → block ys i k ≡ block xs i k
  old_byte i k le lt = ⊎_elim (λ (e : i ≡ d). rw e (h.rest k le)) (λ (ne : i ≡ d → ⊥). h.others i k ne lt) (cases_eq i d)

  -- so are its bits
  pub old_bit : (i k t : ℕ) → m ≤ k → k < 512 → t < 8 → has (block ys i k) t ≡ at xs i (8 * k + t)
  old_bit i k t le lt tl = ap (λ (y : ℕ). has y t) (old_byte i k le lt) ∙ sym (at_byte xs i k t tl)

  -- the other blocks say what they said
  apart : (i j : ℕ) → (i ≢ d) → j < 4096 → at ys i j ≡ at xs i j
  unfolding at
  apart i j ne lt = ap (λ (y : ℕ). has y (j % 8)) (h.others i (j / 8) ne (omega arith))

  module _ (held : Held xs w) (all : m ≡ live w) where
    -- the block is 0 past the states
    past : (j : ℕ) → (2 ^ w ≤ j) × (j < 4096) → at ys d j ≡ false
    past j out =
        let whole : 8 * (j / 8) + j % 8 ≡ j = omega arith in
        ap (at ys d) (sym whole) ∙ at_byte ys d (j / 8) (j % 8) (omega arith) ∙ ⊎_elim
        (λ (lt : j / 8 < m). h.bare (j / 8) (j % 8) lt (omega arith) (omega (arith, live_size w)))
        (λ (le : m ≤ j / 8). old_bit d (j / 8) (j % 8) le (omega arith) (omega arith) ∙ ap (at xs d) whole ∙ held.clean d j out)
        (cases_lt (j / 8) m)

    -- so the bytes are a grid's again
    pub held_again : Held ys w
    held_again = record {
      size = h.size;
      narrow = held.narrow;
      clean = λ i j out. ⊎_elim
          (λ (e : i ≡ d). ap (λ (i : ℕ). at ys i j) e ∙ past j out)
          (λ (ne : i ≡ d → ⊥). apart i j ne out.1 ∙ held.clean i j out)
          (cases_eq i d);
    }

    module _ (f : ℕ → Bool) (says : Says (block ys d) w m f) where
      -- the block says the function at each state's number
      within : (j : ℕ) → j < 2 ^ w → at ys d j ≡ f j
      within j lt =
          let whole : 8 * (j / 8) + j % 8 ≡ j = omega arith in
          ap (at ys d) (sym whole)
          ∙ at_byte ys d (j / 8) (j % 8) (omega arith)
          ∙ says (j / 8) (j % 8) (omega (arith, live_size w)) (omega arith) (omega arith)
          ∙ ap f whole

      -- what each sheet says afterwards
      sheets_now : (g : Function) → ((s : State) → f (index w s) ≡ g s) → (λ i. sheet ys w i) ≡ with_sheet (λ i. sheet xs w i) d g
      unfolding with_sheet
      sheets_now g is =
          let most : 2 ^ w ≤ 4096 = pow_mono held.narrow in
          fun_ext (λ i. fun_ext (λ s.
          let lt : index w s < 2 ^ w = index_lt w s in
          let chosen : Bool → Bool = λ b. (cond b g (sheet xs w i)) s in
          ⊎_elim
          (λ (e : i ≡ d). ap (λ (i : ℕ). at ys i (index w s)) e ∙ within (index w s) lt ∙ is s ∙ ap chosen (sym (eq-eqb i d e)))
          (λ (ne : i ≡ d → ⊥). apart i (index w s) ne (omega arith) ∙ ap chosen (sym (ne_eqb i d ne)))
          (cases_eq i d)))

      -- what the bytes mean afterwards
      pub means_then : (g : Function) → ((s : State) → f (index w s) ≡ g s) → meaning_of ys w ≡ writing (meaning_of xs w) d g
      means_then g is = ap (λ (f : Sheets). let m : Meaning = record { width = w; sure = 12; sheets = f } in m) (sheets_now g is)

      -- all live bytes are done
      pub finish : (g : Function) → ((s : State) → f (index w s) ≡ g s) → Held ys w × (meaning_of ys w ≡ writing (meaning_of xs w) d g)
      finish g is = (held_again, means_then g is)
