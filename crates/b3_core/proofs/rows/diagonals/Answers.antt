use Rattle.std.proofs.Common.{◌+◌, ◌*◌, arith}
use Rattle.b3_core.specs.Compression.{diagonals}
use Rattle.b3_core.proofs.rows.diagonals.Goals as goal

pub returns : goal.returns
unfolding diagonals
returns g c i h =
    let b0 = c.down_one-b0.ensures i h in
    let c0 = c.down_two-c0.ensures i h in
    let d0 = c.down_three-d0.ensures i h in
    let b = c.down_three-b.ensures i h in
    let x = c.down_two-c.ensures i h in
    let d = c.down_one-d.ensures i h in
    let q0 = rw (b0.0, c0.0, d0.0) at (c.g-a.ensures (4 * i) (omega arith)) in
    let q1 = rw (b0.1, c0.1, d0.1) at (c.g-a.ensures (4 * i + 1) (omega arith)) in
    let q2 = rw (b0.2, c0.2, d0.2) at (c.g-a.ensures (4 * i + 2) (omega arith)) in
    let q3 = rw (b0.3, c0.3, d0.3) at (c.g-a.ensures (4 * i + 3) h) in
    rw (b.0, b.1, b.2, b.3, x.0, x.1, x.2, x.3, d.0, d.1, d.2, d.3, ← q0, ← q1, ← q2, ← q3)
