use Rattle.std.proofs.Common.{arith}
use Rattle.std.proofs.Math.Pow.{pow_mono}
use Rattle.b3_core.proofs.kept.Kept.next_level.Goals as goal

pub returns-in-Some-clause-fits : goal.returns-in-Some-clause-fits
returns-in-Some-clause-fits c = let less = pow_mono {i = c.min.result} {j = c.ilog2-most.result} (omega (arith, c.min.ensures)) in omega (arith, less, c.ilog2-most.ensures.power_le)
