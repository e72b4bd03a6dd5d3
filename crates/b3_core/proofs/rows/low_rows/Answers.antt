use Rattle.std.proofs.Common.{◌+◌, ◌*◌, arith, refl}
use Rattle.b3_core.proofs.rows.low_rows.Goals as goal

pub returns : goal.returns
returns g c i h below =
    let front = c.xor-front.ensures in
    let back = c.xor-back.ensures in
    let turn = c.turn.ensures.turns in
    rw (
      front (4 * i) (omega arith),
      front (4 * i + 1) (omega arith),
      front (4 * i + 2) (omega arith),
      front (4 * i + 3) below,
      back (4 * i) (omega arith),
      back (4 * i + 1) (omega arith),
      back (4 * i + 2) (omega arith),
      back (4 * i + 3) below,
      turn (4 * i) (omega arith),
      turn (4 * i + 1) (omega arith),
      turn (4 * i + 2) (omega arith),
      turn (4 * i + 3) below,
    ) refl
