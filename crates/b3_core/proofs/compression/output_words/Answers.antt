use Rattle.std.proofs.Common.{arith, refl}
use Rattle.b3_core.proofs.compression.output_words.Goals as goal

pub returns : goal.returns
returns c =
    rw (
      c.low_words.ensures c.args.h,
      c.turn.ensures.turns 0 (omega arith),
      c.turn.ensures.turns 1 (omega arith),
      c.turn.ensures.turns 2 (omega arith),
      c.turn.ensures.turns 3 (omega arith),
    ) refl
