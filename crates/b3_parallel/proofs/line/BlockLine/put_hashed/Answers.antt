use Rattle.std.proofs.Common.{◌^◌, ◌<◌, length, arith}
use Rattle.b3_parallel.proofs.Carrying.{carries_ready, ready_carries}
use Rattle.b3_parallel.proofs.line.BlockLine.put_hashed.Goals as goal

pub returns-clause-carries : goal.returns-clause-carries
returns-clause-carries g c p x mine is len hashed few =
    let line = c.settle_all.new.self in
    let short : length x < 2 ^ 64 = omega (arith, few) in
    let settled = carries_ready p line.level line.front x (rw c.settle_all.ensures.empty at c.settle_all.ensures.carries p x short is) in
    rw c.settle_all.ensures.empty (ready_carries p line.level c.append.new.self _ (c.append.ensures p x mine settled (rw c.settle_all.ensures.level len) hashed few))
