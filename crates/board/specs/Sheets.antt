-- What a board keeps: Boolean functions of states.
use Rattle.std.specs.Prelude.{◌≡◌, ℕ, ◌<◌, Bool, cond, ◌==◌}
use Rattle.knowledge.specs.Sets.{has}

-- a state: the value of each place
abbrev pub State : Type 0
State = ℕ → Bool

-- what a sheet holds: a yes or no for every state
abbrev pub Function : Type 0
Function = State → Bool

-- the function of each sheet, by its number
abbrev pub Sheets : Type 0
Sheets = ℕ → Function

-- the state whose place p is bit p of a number
abbrev pub state_of : ℕ → State
state_of n = λ p. has n p

-- the state with place p set to v
unfoldable pub with_place : State → ℕ → Bool → State
with_place s p v = λ q. cond (q == p) v (s q)

-- the sheets with the function of sheet d replaced
unfoldable pub with_sheet : Sheets → ℕ → Function → Sheets
with_sheet f d g = λ i. cond (i == d) g (f i)

-- a function that depends on no place but those of a set
abbrev pub Depends : (ℕ → Type 0) → Function → Type 0
Depends P f = (s t : State) → ((p : ℕ) → P p → s p ≡ t p) → f s ≡ f t

-- a function that depends only on places below a width
abbrev pub Local : ℕ → Function → Type 0
Local w f = Depends (λ p. p < w) f
