use Rattle.std.proofs.Common.{refl}
use Rattle.b3_core.specs.Compression.{g}
use Rattle.b3_core.proofs.wide.mixing.g_two.Goals as goal

pub returns-clause-first : goal.returns-clause-first
unfolding g
returns-clause-first types c j h =
    rw (
      c.xor_turn-b2.ensures j h,
      c.add-c2.ensures j h,
      c.xor_turn_8-d2.ensures j h,
      c.add-a3.ensures j h,
      c.add-a2.ensures j h,
      c.xor_turn-b1.ensures j h,
      c.add-c1.ensures j h,
      c.xor_turn_16-d1.ensures j h,
      c.add-a1.ensures j h,
      c.add-a0.ensures j h,
    ) refl

pub returns-clause-second : goal.returns-clause-second
unfolding g
returns-clause-second types c j h =
    rw (
      c.xor_turn-f2.ensures j h,
      c.add-g2.ensures j h,
      c.xor_turn_8-h2.ensures j h,
      c.add-e3.ensures j h,
      c.add-e2.ensures j h,
      c.xor_turn-f1.ensures j h,
      c.add-g1.ensures j h,
      c.xor_turn_16-h1.ensures j h,
      c.add-e1.ensures j h,
      c.add-e0.ensures j h,
    ) refl
