use Rattle.std.proofs.Common.{arith}
use Rattle.b3_core.proofs.EachLane.{lane_word}
use Rattle.b3_core.proofs.wide.lanes.start_states.Goals as goal

pub returns : goal.returns
returns g c j t h low high =
    simp (
      low,
      high,
      c.splat-b.ensures j h,
      c.splat-f.ensures j h,
      c.splat-i0.ensures j h,
      c.splat-i1.ensures j h,
      c.splat-i2.ensures j h,
      c.splat-i3.ensures j h,
      lane_word g.V.Words.word j c.args.h 8 (omega arith),
    )
