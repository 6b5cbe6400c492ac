use Rattle.std.proofs.Common.{◌≡◌, ◌∙◌, ℕ, ◌<◌, ◌&&◌, ◌^◌, nat_lt, bit_and, refl, arith}
use Rattle.knowledge.specs.Sets.{has}
use Rattle.grid.proofs.Fronts.{next, says_next, old_byte, masked, at_state, past_states}
use Rattle.grid.proofs.Replaced.{held_after, means_after}
use Rattle.grid.proofs.Grid.combine.Goals as goal

pub loop-k-preserved : goal.loop-k-preserved
loop-k-preserved g c =
    let front = c.loop-k.invariant.front in let k = c.loop-k.k in let w = c.args.self.now.width in
    let byte = c.step-byte.result in let mask = c.live_bits-mask.result in
    let bits : (t : ℕ) → t < 8 → has (bit_and byte mask) t ≡ (has byte t && nat_lt t (2 ^ w)) =
    λ t lt. masked byte mask w t (c.live_bits-mask.ensures t lt) in
    let old = λ (i : ℕ). old_byte front i k (omega arith) (omega arith) in
    record {
      front = next front (bit_and byte mask) c.args.sheet.known (omega arith) (λ t lt out. past_states _ w t (bits t lt) out);
      says = λ f gives. says_next front (bit_and byte mask) c.args.sheet.known (omega arith) f (c.loop-k.invariant.says f gives)
          (λ t lt seen. at_state _ w t (bits t lt) seen ∙ gives k t byte (omega arith) lt
          (rw (old c.args.left.number, old c.args.right.number) at c.step-byte.ensures));
    }

pub invariant_of-self : goal.invariant_of-self
invariant_of-self g c =
    let grid = c.args.self.now in
    let held = held_after grid c.loop-k.invariant.front (omega arith) in
    record { whole = held.size; some = grid.some; narrow = grid.narrow; clean = held.clean }

pub returns : goal.returns
returns g c f gives =
    means_after c.args.self.now c.loop-k.invariant.front (omega arith) f _ (c.loop-k.invariant.says f gives) (λ s. refl)
