-- What a sign over a board says, by its marks and what the board below says, and what it hands down.
use Rattle.std.specs.Prelude.{◌≡◌, ℕ, ◌+◌, ◌<◌, Bool, true, false, cond, not, Some, None, Option, IsSomeAnd, nat_lt, slice_index_or, slice_set}
use Rattle.board.specs.declared.request.Quantifier.{Quantifier}
use Rattle.board.specs.declared.request.Quantifier.TheVariants.{ForAll, Exists}
use Rattle.board.specs.declared.request.Request.{Request}
use Rattle.board.specs.declared.request.Request.TheVariants.{Blank, Atom, Join, Flip, Quantify, Fix}
use Rattle.board.specs.Sheets.{Sheets}
use Rattle.board.specs.Requests.{joined, Meaning}
use Rattle.board.specs.Calls.{Rule}
use Rattle.sign.specs.declared.marks.Marks.{Marks}

-- the mark of a sheet; a sheet above 63 has none
abbrev pub mark_at : Marks → ℕ → Bool
mark_at ms i = slice_index_or ms.by_sheet i false

-- the marks with that of sheet d replaced
abbrev pub with_mark : Marks → ℕ → Bool → Marks
with_mark ms d k = record { by_sheet = slice_set ms.by_sheet d k }

-- a value under a mark: marked, it is the opposite of the one below
abbrev pub signed : Bool → Bool → Bool
signed true x = not x
signed false x = x

-- what the sheets say under their marks
abbrev pub marked : Marks → Sheets → Sheets
marked ms f = λ i s. signed (mark_at ms i) (f i s)

-- what the sign says over what the board below says; the width and the sure places come from below
abbrev pub meaning_above : Marks → Meaning → Meaning
meaning_above ms m = record { width = m.width; sure = m.sure; sheets = marked ms m.sheets }

-- the quantifier under a mark: "for both values" and "for at least one" change places
abbrev pub exchanged : Bool → Quantifier → Quantifier
exchanged true ForAll = Exists
exchanged true Exists = ForAll
exchanged false k = k

-- the code that joins two values as an operation does
abbrev pub code_of : (Bool → Bool → Bool) → ℕ
code_of op = cond (op true true) 8 0 + (cond (op true false) 4 0 + (cond (op false true) 2 0 + cond (op false false) 1 0))

-- the code of what the code c does under the marks x and y; a code above 15 is left as it is
unfoldable pub recoded : Bool → Bool → ℕ → ℕ
recoded x y c = cond (nat_lt c 16) (code_of (λ a b. joined c (signed x a) (signed y b))) c

-- it joins the values below as the code joins them under the marks
abbrev pub RecodedJoins : Type 0
RecodedJoins = (x y : Bool) (c : ℕ) → c < 16 → (recoded x y c < 16)
    × ((a b : Bool) → joined (recoded x y c) a b ≡ joined c (signed x a) (signed y b))

-- the request that is handed down; a flip is not
abbrev pub handed : Marks → Request → Option Request
handed ms (Blank d v) = Some (Blank d v)
handed ms (Atom d p) = Some (Atom d p)
handed ms (Join d a b c) = Some (Join d a b (recoded (mark_at ms a) (mark_at ms b) c))
handed ms (Flip d) = None
handed ms (Quantify d a p k) = Some (Quantify d a p (exchanged (mark_at ms a) k))
handed ms (Fix d a p v) = Some (Fix d a p v)

-- the mark that the sheet written gets
abbrev pub new_mark : Marks → Request → Bool
new_mark ms (Blank d v) = false
new_mark ms (Atom d p) = false
new_mark ms (Join d a b c) = false
new_mark ms (Flip d) = not (mark_at ms d)
new_mark ms (Quantify d a p k) = mark_at ms a
new_mark ms (Fix d a p v) = mark_at ms a

-- the sign is full exactly if the board below is for the request that is handed down
abbrev pub fills_above : Marks → Rule → Rule
fills_above ms below q = IsSomeAnd (handed ms q) below
