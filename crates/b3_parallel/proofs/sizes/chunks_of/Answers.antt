use Rattle.std.proofs.Common.{◌≤◌, ◌^◌, arith}
use Rattle.std.proofs.Math.Pow.{pow_mono}
use Rattle.b3_parallel.proofs.sizes.chunks_of.Goals as goal

fits : (c : goal.Start) → 2 ^ c.args.level ≤ 2 ^ 52
fits c = pow_mono {i = c.args.level} {j = 52} (omega (arith, c.requires))

pub returns-clause-value : goal.returns-clause-value
returns-clause-value c = omega (arith, fits c)

pub returns-clause-below : goal.returns-clause-below
returns-clause-below c = omega (arith, fits c)
