use Rattle.std.proofs.Common.{arith}
use Rattle.b3_core.proofs.EachLane.{lane_word}
use Rattle.b3_core.proofs.wide.lanes.halves.Goals as goal

pub returns : goal.returns
returns g c j h below =
    simp (
      c.xor-w0.ensures j below,
      c.xor-w1.ensures j below,
      c.xor-w2.ensures j below,
      c.xor-w3.ensures j below,
      c.xor-w4.ensures j below,
      c.xor-w5.ensures j below,
      c.xor-w6.ensures j below,
      c.xor-w7.ensures j below,
      lane_word g.V.Words.word j c.args.v 16 (omega arith),
    )
