use Rattle.std.proofs.Common.{arith}
use Rattle.sign.proofs.Marked.{flipped_above}
use Rattle.sign.proofs.marks.Marks.set.Goals as goal

pub returns-clause-flips : goal.returns-clause-flips
returns-clause-flips c = λ turned m. flipped_above c.args.self.now m c.args.sheet c.args.mark (omega arith) turned
