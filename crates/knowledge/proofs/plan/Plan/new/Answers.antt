use Rattle.std.proofs.Common.{sym}
use Rattle.knowledge.proofs.Seating.{each_within}
use Rattle.knowledge.proofs.plan.Plan.new.Goals as goal

-- no sight has a fact past the last
pub invariant_of-result-clause-seen : goal.invariant_of-result-clause-seen
invariant_of-result-clause-seen c =
    λ k h. rw (c.seats.ensures.each k h) (each_within c.args.facts c.args.sights.now (sym c.if-not-all_within.ensures) k)
