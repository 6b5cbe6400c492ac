use Rattle.std.proofs.Common.{Ok, take}
use Rattle.knowledge.specs.Faults.{in_matter}
use Rattle.knowledge.specs.Sets.{Collected}
use Rattle.knowledge.proofs.sets.NumberSet.collect.Given as goal

-- the numbers so far are collected
abbrev pub invariant-loop-number : goal.invariant-loop-number
invariant-loop-number g l = Collected (in_matter l.cause) (take l.number-index l.numbers) (Ok l.set)
