-- How a grid lies in memory, and what it means.
use Rattle.std.specs.Prelude.{◌≡◌, ℕ, zero, suc, ◌+◌, ◌*◌, ◌/◌, ◌%◌, ◌^◌, ◌<◌, ◌≤◌, Bool, false, cond, List, length, slice_index}
use Rattle.knowledge.specs.Sets.{has}
use Rattle.board.specs.Sheets.{State, Function}
use Rattle.board.specs.Requests.{Meaning}

-- bit j of the i-th block of 512 bytes: bit j mod 8 of the block's byte j div 8
unfoldable pub at : List ℕ → ℕ → ℕ → Bool
at xs i j = has (slice_index xs (512 * i + j / 8)) (j % 8)

-- the number of a state among the settings of the places below a width: bit p is place p
unfoldable pub index : ℕ → State → ℕ
index zero s = 0
index (suc w) s = cond (s 0) 1 0 + 2 * index w (λ p. s (suc p))

-- what the i-th block says at each state
abbrev pub sheet : List ℕ → ℕ → ℕ → Function
sheet xs w i = λ s. at xs i (index w s)

-- a grid's meaning; any 12 places never fill it
abbrev pub meaning_of : List ℕ → ℕ → Meaning
meaning_of xs w = record { width = w; sure = 12; sheets = λ i. sheet xs w i }

-- the bits past a width's states are 0 in each block
abbrev pub Clean : List ℕ → ℕ → Type 0
Clean xs w = (i j : ℕ) → (2 ^ w ≤ j) × (j < 4096) → at xs i j ≡ false

-- the bytes in which a meaning lies
pub record LaidOut (m : Meaning) (xs : List ℕ) : Type 0 where
  pub size : length xs ≡ 32768
  pub says : (i : ℕ) (s : State) → i < 64 → at xs i (index m.width s) ≡ m.sheets i s
  pub clean : Clean xs m.width

-- the memory and the width that a grid takes
abbrev pub WithinLimits : List ℕ → ℕ → Type 0
WithinLimits xs w = (length xs ≡ 32768) × (1 ≤ w) × (w ≤ 12)

-- the meaning of a new grid, which says no everywhere
abbrev pub unwritten : ℕ → Meaning
unwritten w = record { width = w; sure = 12; sheets = λ i s. false }

-- a grid of width v in the bytes ys that was made of the memory xs and the width w
pub record Made (xs : List ℕ) (w : ℕ) (ys : List ℕ) (v : ℕ) : Type 0 where
  pub limits : WithinLimits xs w
  pub means : meaning_of ys v ≡ unwritten w
  pub zeros : (k : ℕ) → slice_index ys k ≡ 0
