use Rattle.std.proofs.Common.{◌≡◌, ℕ, [], ap, rules}
use Rattle.knowledge.specs.Seats.{seat}
use Rattle.knowledge.specs.Sets.{FactSet, no_facts}
use Rattle.knowledge.proofs.plan.make.seats.Goals as goal

-- the set with these bits
abbrev held : ℕ → FactSet
held b = record { bits = b }

-- the default is the set without facts, which a party sees that has no sight of its own
pub returns : goal.returns
returns c =
    let e : c.default-nothing.result ≡ no_facts = ap held c.default-nothing.ensures in
    record {
      eight = c.from_fn.ensures.items.long;
      each = λ k h. search (rules, e, c.from_fn.ensures.items.at k (seat [] 0) h);
    }
