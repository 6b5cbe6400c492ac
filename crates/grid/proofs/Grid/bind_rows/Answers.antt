use Rattle.std.proofs.Common.{◌≡◌, ℕ, ◌+◌, ◌-◌, ◌*◌, ◌/◌, ◌^◌, ◌≤◌, ap, ◌∙◌, subst, arith, pow_mono, vec_items}
use Rattle.grid.specs.Pieces.{live}
use Rattle.grid.proofs.Fronts.{Says, block}
use Rattle.grid.proofs.Rows.{row_more, row_says, row_room, rows_all, partner_of}
use Rattle.grid.proofs.Replaced.{held_after, means_after}
use Rattle.grid.proofs.Turns.{bound_at, bound_says}
use Rattle.grid.proofs.Grid.bind_rows.Given.{Over}
use Rattle.grid.proofs.Grid.bind_rows.Goals as goal
use Rattle.grid.proofs.Grid.bind_rows.Goals.{After-loop-row}

pub loop-row-preserved : goal.loop-row-preserved
loop-row-preserved g c =
    let front = c.loop-row.invariant.front in let stride = c.stride_of-stride.result in let row = c.loop-row.row in
    let xs = vec_items c.args.self.now.bytes in let ys = c.loop-row.bytes in let zs = c.bind_row.new.bytes in
    let w = c.args.self.now.width in let d = c.args.sheet.number in let a = c.args.from.number in
    let room = row_room c.live_bytes.result (2 * stride) row (omega arith) in
    let past : 3 ≤ c.args.self.now.width = omega arith in
    let wide : 8 ≤ 2 ^ c.args.self.now.width = pow_mono past in
    let on : 2 * stride * row + 2 * stride ≡ 2 * stride * (row + 1) = omega arith in
    record {
      front = rw on at (row_more _ xs ys zs w d a (2 * stride * row) stride front c.bind_row.ensures wide (omega arith));
      says = λ op bits. subst (λ (n : ℕ). Says (block zs d) w n (bound_at xs a c.args.place op)) on
          (row_says _ xs ys zs w d a (2 * stride * row) stride front c.bind_row.ensures wide (omega arith) c.args.place op bits c.requires.places.1
          (partner_of (c.args.place - 3) row stride c.stride_of-stride.ensures.value) (c.loop-row.invariant.says op bits));
    }

-- the last row ends where the live bytes end
all : (g : Over) (c : After-loop-row g) → 2 * c.stride_of-stride.result * c.loop-row.row ≡ live c.args.self.now.width
all g c =
    let stride = c.stride_of-stride.result in
    let last : c.loop-row.row ≡ c.live_bytes.result / (2 * stride) = omega arith in
    ap (λ (n : ℕ). 2 * stride * n) (last ∙ ap (λ (n : ℕ). n / (2 * stride)) c.live_bytes.ensures.value)
    ∙ rows_all c.args.self.now.width c.args.place stride c.stride_of-stride.ensures.value c.requires.places.1 c.requires.places.0

pub invariant_of-self : goal.invariant_of-self
invariant_of-self g c =
    let grid = c.args.self.now in
    let held = held_after grid c.loop-row.invariant.front (all g (goal.at.invariant_of-self g c).After-loop-row) in
    record { whole = held.size; some = grid.some; narrow = grid.narrow; clean = held.clean }

pub returns : goal.returns
returns g c op bits =
    means_after c.args.self.now c.loop-row.invariant.front (all g (goal.at.returns g c).After-loop-row) (bound_at (vec_items c.args.self.now.bytes) c.args.from.number c.args.place op) _ (c.loop-row.invariant.says op bits)
    (bound_says (vec_items c.args.self.now.bytes) c.args.self.now.width c.args.from.number c.args.place op c.requires.places.0)
