use Rattle.std.proofs.Common.{arith}
use Rattle.b3_core.proofs.Nodes.{eight}
use Rattle.b3_core.proofs.wide.lanes.keys.Goals as goal

pub returns : goal.returns
returns g c j h =
    rw (
      c.splat-k0.ensures j h,
      c.splat-k1.ensures j h,
      c.splat-k2.ensures j h,
      c.splat-k3.ensures j h,
      c.splat-k4.ensures j h,
      c.splat-k5.ensures j h,
      c.splat-k6.ensures j h,
      c.splat-k7.ensures j h,
    ) (eight c.args.key (omega arith))
