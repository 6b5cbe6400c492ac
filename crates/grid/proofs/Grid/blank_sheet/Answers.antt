use Rattle.std.proofs.Common.{◌≡◌, ◌-◌, ◌<◌, ℕ, length, slice_index, refl, arith, ap, ◌∙◌, rules}
use Rattle.knowledge.specs.Sets.{has}
use Rattle.grid.proofs.Fronts.{Bare, at_state, past_states}
use Rattle.grid.proofs.Replaced.{part_held, part_means}
use Rattle.grid.proofs.Grid.blank_sheet.Goals as goal
use Rattle.grid.proofs.Grid.blank_sheet.Goals.{After-fill}

module _ (c : After-fill) where
  abbrev n : ℕ
  n = c.live-live.result.end - c.live-live.result.start

  whole : length c.fill.new.self ≡ n
  whole = search rules

  -- each byte is the one that says the value
  filled : (k t : ℕ) → k < n → has (slice_index c.fill.new.self k) t ≡ has c.blank_byte-byte.result t
  filled k t lt = ap (λ (x : ℕ). has x t) (c.fill.ensures.clones k 0 (search rules) refl)

  bare : Bare (slice_index c.fill.new.self) c.args.self.now.width n
  bare k t lt tl out = filled k t lt ∙ past_states _ c.args.self.now.width t (c.blank_byte-byte.ensures t tl) out

pub invariant_of-self : goal.invariant_of-self
invariant_of-self c =
    let b = (goal.at.invariant_of-self c).After-fill in let g = c.args.self.now in
    let held = part_held g c.fill.new.self c.args.sheet.number c.live-live.result.start (n b) (whole b)
    c.live-live.ensures.start (omega arith) c.args.sheet.known (bare b) c.deref_mut.ensures.value in
    record { whole = held.size; some = g.some; narrow = g.narrow; clean = held.clean }

pub returns : goal.returns
returns c =
    let b = (goal.at.returns c).After-fill in let g = c.args.self.now in
    part_means g c.fill.new.self c.args.sheet.number c.live-live.result.start (n b) (whole b)
    c.live-live.ensures.start (omega arith) c.args.sheet.known (bare b) c.deref_mut.ensures.value (λ _. c.args.value) _
    (λ k t lt tl seen. filled b k t lt ∙ at_state _ g.width t (c.blank_byte-byte.ensures t tl) seen)
    (λ s. refl)
