-- What a call leaves of a grid.
use Rattle.std.specs.Prelude.{◌≡◌, ℕ, ◌+◌, ◌*◌, ◌<◌, Bool, slice_index}
use Rattle.knowledge.specs.Sets.{has}
use Rattle.board.specs.declared.request.Request.{Request}
use Rattle.board.specs.Sheets.{Function}
use Rattle.board.specs.Requests.{Meaning, written, result}
use Rattle.grid.specs.declared.Grid.{Grid}
use Rattle.grid.specs.Layout.{index, meaning_of}
use Rattle.grid.specs.Pieces.{live, writing, bound, Bitwise}

-- what a grid means
abbrev pub meaning : Grid → Meaning
meaning g = meaning_of g.bytes.items g.width

-- the grid h is the grid g with a function in sheet d
abbrev pub Rewrote : Grid → ℕ → Function → Grid → Type 0
Rewrote g d f h = meaning h ≡ writing (meaning g) d f

-- the grid h is the grid g once a request was done
abbrev pub Wrote : Grid → Request → Grid → Type 0
Wrote g q h = Rewrote g (written q) (result (meaning g).sheets q) h

-- what a step gives for each two live bytes of sheets a and b has the bits of a function of a state's number
abbrev pub Combines : (ℕ → ℕ → ℕ → Type 0) → Grid → ℕ → ℕ → (ℕ → Bool) → Type 0
Combines Gives g a b f =
    let xs = g.bytes.items in
    (k t r : ℕ) → k < live g.width → t < 8 → Gives (slice_index xs (512 * a + k)) (slice_index xs (512 * b + k)) r
    → has r t ≡ f (8 * k + t)

-- the grid h is the grid g with that function in sheet d, whatever the function is
abbrev pub Combined : (ℕ → ℕ → ℕ → Type 0) → Grid → ℕ → ℕ → ℕ → Grid → Type 0
Combined Gives g d a b h = (f : ℕ → Bool) → Combines Gives g a b f → Rewrote g d (λ s. f (index g.width s)) h

-- the same for a step that is a Boolean function at each bit, given what sheet a says with place p clear and set
abbrev pub Bound : (ℕ → ℕ → ℕ → Type 0) → Grid → ℕ → ℕ → ℕ → Grid → Type 0
Bound Gives g d a p h = (op : Bool → Bool → Bool) → Bitwise Gives op → Rewrote g d (bound g.bytes.items g.width a p op) h
