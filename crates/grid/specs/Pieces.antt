-- What the work on single bytes and on blocks means.
use Rattle.std.specs.Prelude.{◌≡◌, ℕ, zero, suc, ◌+◌, ◌*◌, ◌/◌, ◌%◌, ◌^◌, ◌<◌, ◌≤◌, Bool, true, false, cond, ◌⊎◌, List, length, slice_index}
use Rattle.std.specs.Int.{div_ceil}
use Rattle.knowledge.specs.Sets.{has}
use Rattle.board.specs.Sheets.{Function, with_place, with_sheet}
use Rattle.board.specs.Requests.{Meaning}
use Rattle.grid.specs.declared.bytes.Cases.{Cases}
use Rattle.grid.specs.Layout.{sheet}

-- how many bytes the states of a width take
abbrev pub live : ℕ → ℕ
live w = div_ceil (2 ^ w) 8

-- the number with bit p set to v
unfoldable pub placed : ℕ → ℕ → Bool → ℕ
placed zero j v = j / 2 * 2 + cond v 1 0
placed (suc p) j v = j % 2 + 2 * placed p (j / 2) v

-- the byte whose eight bits are the value
abbrev pub whole_byte : Bool → ℕ
whole_byte b = cond b 255 0

-- what a code says of each pair of values, as whole bytes
abbrev pub cases_of : ℕ → Cases
cases_of c = record {
  both = whole_byte (has c 3);
  left = whole_byte (has c 2);
  right = whole_byte (has c 1);
  neither = whole_byte (has c 0);
}

-- the meaning with the function of sheet d replaced
abbrev pub writing : Meaning → ℕ → Function → Meaning
writing m d g = record { width = m.width; sure = m.sure; sheets = with_sheet m.sheets d g }

-- a Boolean function of what sheet a says with place p clear and set
abbrev pub bound : List ℕ → ℕ → ℕ → ℕ → (Bool → Bool → Bool) → Function
bound xs w a p op = λ s. op (sheet xs w a (with_place s p false)) (sheet xs w a (with_place s p true))

-- a step on bytes does the same Boolean function at each of their eight bits
abbrev pub Bitwise : (ℕ → ℕ → ℕ → Type 0) → (Bool → Bool → Bool) → Type 0
Bitwise Gives op = (x y r t : ℕ) → t < 8 → Gives x y r → has r t ≡ op (has x t) (has y t)

-- two stretches of n bytes that are the same, or share none
abbrev pub Apart : ℕ → ℕ → ℕ → Type 0
Apart to from n = (to ≡ from) ⊎ ((to + n ≤ from) ⊎ (from + n ≤ to))

-- the first n bytes of each half of the row at `to` are what a step gives for those of the row at `from`; all others are as they were
pub record Paired (Gives : ℕ → ℕ → ℕ → Type 0) (xs : List ℕ) (to from stride n : ℕ) (ys : List ℕ) : Type 0 where
  pub size : length ys ≡ length xs
  pub low : (k : ℕ) → k < n → Gives (slice_index xs (from + k)) (slice_index xs (from + stride + k)) (slice_index ys (to + k))
  pub high : (k : ℕ) → k < n → slice_index ys (to + stride + k) ≡ slice_index ys (to + k)
  pub others : (m : ℕ) → (m < to) ⊎ (((to + n ≤ m) × (m < to + stride)) ⊎ (to + stride + n ≤ m)) → slice_index ys m ≡ slice_index xs m
