use Rattle.std.proofs.Common.{◌+◌, arith, length}
use Rattle.b3_core.specs.ExtendedOutput.{blocks_touched}
use Rattle.b3_c.proofs.hashers.b3_hasher_extended.Goals as goal

pub returns-clause-count : goal.returns-clause-count
returns-clause-count c p x (is, mode, holds) done =
    let (made, more, count) = c.in-Some.ensures.count x holds in
    (made + blocks_touched c.args.position (length c.args.out.now), omega (arith, more), omega (arith, count, c.read_output.ensures.count))
