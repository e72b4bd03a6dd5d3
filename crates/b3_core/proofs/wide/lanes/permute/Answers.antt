use Rattle.std.proofs.Common.{arith}
use Rattle.b3_core.proofs.EachLane.{lane_word}
use Rattle.b3_core.proofs.wide.lanes.permute.Goals as goal

pub returns : goal.returns
returns g c j h = simp (lane_word g.V.Words.word j c.args.m 16 (omega arith))
