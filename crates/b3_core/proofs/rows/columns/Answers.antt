use Rattle.std.proofs.Common.{◌+◌, ◌*◌, arith}
use Rattle.b3_core.specs.Compression.{columns}
use Rattle.b3_core.proofs.rows.columns.Goals as goal

pub returns : goal.returns
unfolding columns
returns g c i h =
    let q = c.g.ensures in
    rw (← q (4 * i) (omega arith), ← q (4 * i + 1) (omega arith), ← q (4 * i + 2) (omega arith), ← q (4 * i + 3) h)
