use Rattle.std.proofs.Common.{vec_items}
use Rattle.grid.proofs.Questions.{zeros, zeros_say, zeros_clean}
use Rattle.grid.proofs.Grid.cleared.Goals as goal

pub invariant_of-result-clause-clean : goal.invariant_of-result-clause-clean
invariant_of-result-clause-clean c = zeros_clean (vec_items c.fill.new.self) c.args.width (zeros _ _ (c.fill.ensures.items (λ y e. e)))

pub returns-clause-means : goal.returns-clause-means
returns-clause-means c = zeros_say (vec_items c.fill.new.self) c.args.width (zeros _ _ (c.fill.ensures.items (λ y e. e)))
