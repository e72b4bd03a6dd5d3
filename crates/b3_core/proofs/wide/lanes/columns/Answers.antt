use Rattle.std.proofs.Common.{arith}
use Rattle.b3_core.specs.Compression.{columns}
use Rattle.b3_core.proofs.EachLane.{lane_word}
use Rattle.b3_core.proofs.wide.lanes.columns.Goals as goal

pub returns : goal.returns
unfolding columns
returns g c j h =
    let v = lane_word g.V.Words.word j c.args.v 16 (omega arith) in
    let m = lane_word g.V.Words.word j c.args.m 16 (omega arith) in
    let q0 = simp (v, m) at (c.g_two-v0.ensures.first j h) in
    let q1 = simp (v, m) at (c.g_two-v0.ensures.second j h) in
    let q2 = simp (v, m) at (c.g_two-v2.ensures.first j h) in
    let q3 = simp (v, m) at (c.g_two-v2.ensures.second j h) in
    rw (← q0, ← q1, ← q2, ← q3)
