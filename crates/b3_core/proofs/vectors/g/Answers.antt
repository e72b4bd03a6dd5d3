use Rattle.std.proofs.Common.{refl}
use Rattle.b3_core.specs.Compression.{g}
use Rattle.b3_core.proofs.vectors.g.Goals as goal

pub returns : goal.returns
unfolding g
returns types c j h =
    rw (
      c.xor_turn-b2.ensures j h,
      c.add-c2.ensures j h,
      c.turn.ensures.turns j h,
      c.xor-d2.ensures j h,
      c.add-a2.ensures j h,
      c.add-a3.ensures j h,
      c.xor_turn-b1.ensures j h,
      c.add-c1.ensures j h,
      c.first_turn-d1.ensures j h,
      c.add-a1.ensures j h,
      c.add-a0.ensures j h,
    ) refl
