use Rattle.std.proofs.Common.{◌&&◌, ◌^◌, nat_lt, ◌≡◌, ◌-◌, ◌<◌, ◌∙◌, ℕ, length, slice_index, slice_set, bit_and, get_or-set_same, get_or-set_other, arith, rules}
use Rattle.knowledge.specs.Sets.{has}
use Rattle.grid.proofs.Fronts.{Bare, bare_more, says_more, masked, at_state, past_states}
use Rattle.grid.proofs.Numbers.{has_index}
use Rattle.grid.proofs.Replaced.{part_held, part_means}
use Rattle.grid.proofs.Grid.atom_sheet.Goals as goal
use Rattle.grid.proofs.Grid.atom_sheet.Goals.{After-loop-k}

pub loop-k-preserved : goal.loop-k-preserved
loop-k-preserved c =
    let w = c.args.self.now.width in let k = c.loop-k.k in let old = c.loop-k.bytes in
    let byte = bit_and c.atom_byte.result c.live_bits-mask.result in let new = slice_set old k byte in
    let here : slice_index new k ≡ byte = get_or-set_same old k byte 0 (search rules) in
    let same : (n : ℕ) → n < k → slice_index new n ≡ slice_index old n = λ n lt. get_or-set_other old k n byte 0 (omega arith) in
    let bits : (t : ℕ) → t < 8 → has byte t ≡ (has c.atom_byte.result t && nat_lt t (2 ^ w)) =
    λ t lt. masked c.atom_byte.result c.live_bits-mask.result w t (c.live_bits-mask.ensures t lt) in
    record {
      bare = bare_more (slice_index old) (slice_index new) w k same c.loop-k.invariant.bare
          (λ t lt out. rw here (past_states _ w t (bits t lt) out));
      says = says_more (slice_index old) (slice_index new) w k same (λ j. has j c.args.place) c.loop-k.invariant.says
          (λ t lt seen. rw here (at_state _ w t (bits t lt) seen ∙ c.atom_byte.ensures t lt));
    }

module _ (c : After-loop-k) where
  abbrev n : ℕ
  n = c.live-live.result.end - c.live-live.result.start

  whole : length c.loop-k.bytes ≡ n
  whole = search rules

  bare : Bare (slice_index c.loop-k.bytes) c.args.self.now.width n
  bare k t lt tl out = c.loop-k.invariant.bare k t (omega arith) tl out

pub invariant_of-self : goal.invariant_of-self
invariant_of-self c =
    let b = (goal.at.invariant_of-self c).After-loop-k in let g = c.args.self.now in
    let held = part_held g c.loop-k.bytes c.args.sheet.number c.live-live.result.start (n b) (whole b)
    c.live-live.ensures.start (omega arith) c.args.sheet.known (bare b) c.deref_mut.ensures.value in
    record { whole = held.size; some = g.some; narrow = g.narrow; clean = held.clean }

pub returns : goal.returns
returns c =
    let b = (goal.at.returns c).After-loop-k in let g = c.args.self.now in
    part_means g c.loop-k.bytes c.args.sheet.number c.live-live.result.start (n b) (whole b)
    c.live-live.ensures.start (omega arith) c.args.sheet.known (bare b) c.deref_mut.ensures.value (λ j. has j c.args.place) _
    (λ k t lt tl seen. c.loop-k.invariant.says k t (omega arith) tl seen)
    (λ s. has_index g.width c.args.place s c.requires)
