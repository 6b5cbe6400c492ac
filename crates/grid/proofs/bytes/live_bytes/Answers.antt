use Rattle.std.proofs.Common.{◌^◌, ◌≤◌, arith, pow_mono}
use Rattle.grid.proofs.bytes.live_bytes.Goals as goal

pub returns-clause-small : goal.returns-clause-small
returns-clause-small c =
    let most : 2 ^ c.args.width ≤ 4096 = pow_mono c.requires in
    omega arith
