use Rattle.std.proofs.Common.{arith}
use Rattle.b3_core.proofs.Nodes.{eight}
use Rattle.b3_core.proofs.wide.pairs.keys.Goals as goal

pub returns : goal.returns
returns c i h =
    let front = c.of_row-front.ensures i h in
    let back = c.of_row-back.ensures i h in
    rw (front.0, front.1, front.2, front.3, back.0, back.1, back.2, back.3) (eight c.args.key (omega arith))
