use Rattle.std.proofs.Common.{arith}
use Rattle.b3_core.proofs.WholeChunks.{level_fits}
use Rattle.b3_core.proofs.wide.eighth_level.Goals as goal

pub overflow_add-level : goal.overflow_add-level
overflow_add-level c =
    let fits = level_fits c.loop-whole.level c.loop-whole.whole c.loop-whole.invariant (omega (arith, c.loop-whole.auto.whole-fits)) in
    omega (arith, fits)
