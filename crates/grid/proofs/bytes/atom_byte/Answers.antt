use Rattle.std.proofs.Common.{ℕ, ap, ◌∙◌, arith}
use Rattle.knowledge.specs.Sets.{has}
use Rattle.grid.proofs.Octets.{atom_0, atom_1, atom_2, atom_past}
use Rattle.grid.proofs.bytes.atom_byte.Goals as goal

pub returns-in-0 : goal.returns-in-0
returns-in-0 c t lt = simp c.in-0.is (atom_0 c.args.k t lt)

pub returns-in-1 : goal.returns-in-1
returns-in-1 c t lt = simp c.in-1.is (atom_1 c.args.k t lt)

pub returns-in-2 : goal.returns-in-2
returns-in-2 c t lt = simp c.in-2.is (atom_2 c.args.k t lt)

pub returns-in_default : goal.returns-in_default
returns-in_default c t lt = ap (λ (r : ℕ). has r t) c.whole_byte.ensures ∙ atom_past c.args.k t c.args.place lt (omega arith)
