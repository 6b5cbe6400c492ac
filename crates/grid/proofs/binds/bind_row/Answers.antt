use Rattle.grid.proofs.Rows.{pair_more}
use Rattle.grid.proofs.binds.bind_row.Goals as goal

pub loop-k-preserved : goal.loop-k-preserved
loop-k-preserved g c =
    pair_more c.loop-k.invariant c.requires.apart c.loop-k-test.true c.step-byte.result c.requires.to c.step-byte.ensures
