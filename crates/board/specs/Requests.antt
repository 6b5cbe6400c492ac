-- What a call that writes asks for. As in the rules, d is the sheet written, a and b are sheets read, p is a place,
-- v a value and c a code.
use Rattle.std.specs.Prelude.{◌≡◌, ℕ, ◌<◌, ◌≤◌, Bool, true, false, cond, not, ◌&&◌, ◌||◌, List, length}
use mathlib.Core.List.{Memᴰ}
use Rattle.knowledge.specs.Sets.{has}
use Rattle.board.specs.declared.request.Quantifier.{Quantifier}
use Rattle.board.specs.declared.request.Quantifier.TheVariants.{ForAll, Exists}
use Rattle.board.specs.declared.request.Request.{Request}
use Rattle.board.specs.declared.request.Request.TheVariants.{Blank, Atom, Join, Flip, Quantify, Fix}
use Rattle.board.specs.Sheets.{State, Function, Sheets, with_place, with_sheet, Depends}

-- the sheet that a request writes, which is the first that it names
abbrev pub written : Request → ℕ
written (Blank d v) = d
written (Atom d p) = d
written (Join d a b c) = d
written (Flip d) = d
written (Quantify d a p k) = d
written (Fix d a p v) = d

-- bit 2 x + y of the code c
abbrev pub joined : ℕ → Bool → Bool → Bool
joined c x y = has c (cond x (cond y 3 2) (cond y 1 0))

-- for both values, or for at least one
abbrev pub over : Quantifier → Bool → Bool → Bool
over ForAll x y = x && y
over Exists x y = x || y

-- the function that a request writes
abbrev pub result : Sheets → Request → Function
result f (Blank d v) = λ s. v
result f (Atom d p) = λ s. s p
result f (Join d a b c) = λ s. joined c (f a s) (f b s)
result f (Flip d) = λ s. not (f d s)
result f (Quantify d a p k) = λ s. over k (f a (with_place s p false)) (f a (with_place s p true))
result f (Fix d a p v) = λ s. f a (with_place s p v)

-- each sheet that a request names is one of the 64
abbrev pub SheetsKnown : Request → Type 0
SheetsKnown (Blank d v) = d < 64
SheetsKnown (Atom d p) = d < 64
SheetsKnown (Join d a b c) = (d < 64) × (a < 64) × (b < 64)
SheetsKnown (Flip d) = d < 64
SheetsKnown (Quantify d a p k) = (d < 64) × (a < 64)
SheetsKnown (Fix d a p v) = (d < 64) × (a < 64)

-- the place that a request names lies below the width, and its code below 16
abbrev pub PlaceKnown : ℕ → Request → Type 0
PlaceKnown w (Blank d v) = Unit {0}
PlaceKnown w (Atom d p) = p < w
PlaceKnown w (Join d a b c) = c < 16
PlaceKnown w (Flip d) = Unit {0}
PlaceKnown w (Quantify d a p k) = p < w
PlaceKnown w (Fix d a p v) = p < w

-- the 64 sheets and the function that a request writes depend together on at most n places
pub record Fits (n : ℕ) (f : Sheets) (q : Request) : Type 0 where
  pub places : List ℕ
  pub few : length places ≤ n
  pub sheets_depend : (i : ℕ) → i < 64 → Depends (λ p. Memᴰ p places) (f i)
  pub result_depends : Depends (λ p. Memᴰ p places) (result f q)

-- a request that never meets a full board: a blank, and a flip of a constant
abbrev pub Free : Sheets → Request → Type 0
Free f (Blank d v) = Unit {0}
Free f (Atom d p) = ⊥
Free f (Join d a b c) = ⊥
Free f (Flip d) = (s t : State) → f d s ≡ f d t
Free f (Quantify d a p k) = ⊥
Free f (Fix d a p v) = ⊥

-- what a board means: its width, how many places never fill it, and its sheets
pub record Meaning : Type 0 where
  pub width : ℕ
  pub sure : ℕ
  pub sheets : Sheets

-- the meaning once a request is done: the one sheet written, all else as it was
abbrev pub after : Meaning → Request → Meaning
after m q = record { width = m.width; sure = m.sure; sheets = with_sheet m.sheets (written q) (result m.sheets q) }
