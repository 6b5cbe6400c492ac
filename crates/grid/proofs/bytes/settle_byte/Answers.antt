use Rattle.std.proofs.Common.{◌≡◌, ◌/◌, ◌^◌, cond, arith}
use Rattle.grid.proofs.Settled.{settle_0, settle_1, settle_2}
use Rattle.grid.proofs.bytes.settle_byte.Goals as goal
use Rattle.grid.proofs.bytes.settle_byte.Goals.{in-0, in-1, in_default, then-value, else-value}

pub returns : goal.returns
returns c t low lt =
    let lowered : c.if-value.lowered ≡ cond c.args.value (c.args.byte / 2 ^ c.match-place.clear_states.1) c.args.byte =
    elim c.if-value.branch [
      | then-value w ↦ rw w.if-value.true w.lowered-is
      | else-value w ↦ rw w.if-value.false w.lowered-is
    ] in
    elim c.match-place.branch [
      | in-0 w ↦ simp (lowered, w.clear_states-is, w.in-0.is) (settle_0 c.args.byte t c.args.value lt)
      | in-1 w ↦ simp (lowered, w.clear_states-is, w.in-1.is) (settle_1 c.args.byte t c.args.value lt)
      | in_default w ↦
          let two : c.args.place ≡ 2 = omega arith in
          simp (lowered, w.clear_states-is, two) (settle_2 c.args.byte t c.args.value lt)
    ]
