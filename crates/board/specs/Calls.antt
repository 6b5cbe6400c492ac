-- How the calls of a board end.
use Rattle.std.specs.Prelude.{◌≡◌, ℕ, ◌<◌, ◌≤◌, Bool, true, ◌↔◌, Ok, Err, Result}
use Rattle.knowledge.specs.declared.fault.Cause.TheVariants.{Sheet, Place, Full}
use Rattle.knowledge.specs.declared.fault.Fault.{Fault}
use Rattle.knowledge.specs.Faults.{in_board}
use Rattle.board.specs.declared.request.Request.{Request}
use Rattle.board.specs.Sheets.{State, Function, state_of, Local}
use Rattle.board.specs.Requests.{written, SheetsKnown, PlaceKnown, Fits, Free, Meaning, after}

-- a filling rule: which requests find the board full
abbrev pub Rule : Type 1
Rule = Request → Type 0

-- two rules that refuse the same requests
abbrev pub SameRule : Rule → Rule → Type 0
SameRule f g = (q : Request) → f q ↔ g q

-- what every board keeps, by its meaning and its filling rule
pub record Sound (m : Meaning) (fills : Rule) : Type 0 where
  pub some_place : 1 ≤ m.width
  pub few_places : m.width ≤ 48
  pub sure_places : 4 ≤ m.sure
  pub local : (i : ℕ) → Local m.width (m.sheets i)
  pub free : (q : Request) → SheetsKnown q → PlaceKnown m.width q → Free m.sheets q → fills q → ⊥
  pub roomy : (q : Request) → SheetsKnown q → PlaceKnown m.width q → Fits m.sure m.sheets q → fills q → ⊥

-- why a request is refused by every board of a width: the first of two causes that holds
pub data Misnamed (w : ℕ) (q : Request) (e : Fault) : Type 0 where
  no_sheet : (SheetsKnown q → ⊥) → e ≡ in_board Sheet (written q) → Misnamed w q e
  no_place : SheetsKnown q → (PlaceKnown w q → ⊥) → e ≡ in_board Place (written q) → Misnamed w q e

-- why a board refuses a request: so, or its filling rule says that it is full
pub data Why (m : Meaning) (fills : Rule) (q : Request) (e : Fault) : Type 0 where
  misnamed : Misnamed m.width q e → Why m fills q e
  no_room : SheetsKnown q → PlaceKnown m.width q → fills q → e ≡ in_board Full (written q) → Why m fills q e

-- how the check of a request's sheets and places ends
abbrev pub Checked : {A : Type 0} → ℕ → Request → Result A Fault → Type 0
Checked w q (Ok _) = SheetsKnown q × PlaceKnown w q
Checked w q (Err e) = Misnamed w q e

-- a request that was done
pub record Done (m : Meaning) (fills : Rule) (q : Request) (m' : Meaning) : Type 0 where
  pub sheets_known : SheetsKnown q
  pub place_known : PlaceKnown m.width q
  pub room : fills q → ⊥
  pub wrote : m' ≡ after m q

-- a request that was refused, which changes nothing held
pub record Refused (m : Meaning) (fills : Rule) (q : Request) (m' : Meaning) (fills' : Rule) (e : Fault) : Type 0 where
  pub why : Why m fills q e
  pub kept : m' ≡ m
  pub same_rule : SameRule fills fills'

-- how a call that writes ends, from the board b to the board b'
abbrev pub Written : {A B : Type 0} → (B → Meaning) → (B → Rule) → B → Request → B → Result A Fault → Type 0
Written meaning fills b q b' (Ok _) = Done (meaning b) (fills b) q (meaning b')
Written meaning fills b q b' (Err e) = Refused (meaning b) (fills b) q (meaning b') (fills b') e

-- how the check of one sheet ends
abbrev pub SheetChecked : {A : Type 0} → ℕ → Result A Fault → Type 0
SheetChecked a (Ok _) = a < 64
SheetChecked a (Err e) = (64 ≤ a) × (e ≡ in_board Sheet a)

-- how a question about sheet a ends: an answer that fits the sheet's function, or a refusal of the sheet
abbrev pub Answered : {A : Type 0} → Meaning → ℕ → (Function → A → Type 0) → Result A Fault → Type 0
Answered m a Fitting (Ok x) = (a < 64) × Fitting (m.sheets a) x
Answered m a Fitting (Err e) = (64 ≤ a) × (e ≡ in_board Sheet a)

-- what the function says at the state of a number
abbrev pub At : ℕ → Function → Bool → Type 0
At n f x = x ≡ f (state_of n)

-- whether the function says v at every state
abbrev pub Everywhere : Bool → Function → Bool → Type 0
Everywhere v f x = (x ≡ true) ↔ ((s : State) → f s ≡ v)
