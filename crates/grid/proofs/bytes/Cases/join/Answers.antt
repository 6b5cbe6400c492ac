use Rattle.grid.proofs.Octets.{join_bits}
use Rattle.grid.proofs.bytes.Cases.join.Goals as goal

pub returns : goal.returns
returns c code t is lt =
    join_bits c.args.self code c.args.left c.args.right t is c.ranges.left.fits c.ranges.right.fits lt
