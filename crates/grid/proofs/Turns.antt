-- What the loops that combine sheets and bind places give, by the number of a state.
use Rattle.std.proofs.Common.{◌≡◌, ℕ, ◌+◌, ◌*◌, ◌<◌, Bool, true, false, List, sym, ap, ◌∙◌}
use Rattle.knowledge.specs.Sets.{has}
use Rattle.board.specs.Sheets.{State, with_place}
use Rattle.grid.specs.Layout.{at, index}
use Rattle.grid.specs.Pieces.{placed, bound}
use Rattle.grid.proofs.Fronts.{block, at_byte}
use Rattle.grid.proofs.Numbers.{index_placed, placed_within, placed_lt}

-- one block with a place bound
abbrev pub bound_at : List ℕ → ℕ → ℕ → (Bool → Bool → Bool) → ℕ → Bool
bound_at xs a p op j = op (at xs a (placed p j false)) (at xs a (placed p j true))

-- it is the function with the place bound
pub bound_says : (xs : List ℕ) (w a p : ℕ) (op : Bool → Bool → Bool) → p < w → (s : State)
    → bound_at xs a p op (index w s) ≡ bound xs w a p op s
bound_says xs w a p op inside s =
    let off = sym (index_placed w p s false inside) in
    let on = sym (index_placed w p s true inside) in
    ap (λ (j : ℕ). op (at xs a j) (at xs a (placed p (index w s) true))) off
    ∙ ap (λ (j : ℕ). op (at xs a (index w (with_place s p false))) (at xs a j)) on

-- a byte's bits with one of its own three places set
pub settled_bit : (xs : List ℕ) (a p k t : ℕ) (v : Bool) → p < 3 → t < 8
    → has (block xs a k) (placed p t v) ≡ at xs a (placed p (8 * k + t) v)
settled_bit xs a p k t v low lt =
    sym (at_byte xs a k (placed p t v) (placed_lt p 3 t v low lt)) ∙ ap (at xs a) (sym (placed_within p k t v low lt))
