use Rattle.std.proofs.Common.{◌*◌, refl}
use Rattle.b3_core.proofs.EachLane.{block_words_in, lane_within}
use Rattle.b3_core.proofs.wide.lanes.blocks_at.Goals as goal

pub returns : goal.returns
returns g c j h =
    rw (
      c.words_at-w0.ensures.first j h,
      c.words_at-w0.ensures.second j h,
      c.words_at-w0.ensures.third j h,
      c.words_at-w0.ensures.fourth j h,
      c.words_at-w4.ensures.first j h,
      c.words_at-w4.ensures.second j h,
      c.words_at-w4.ensures.third j h,
      c.words_at-w4.ensures.fourth j h,
      c.words_at-w8.ensures.first j h,
      c.words_at-w8.ensures.second j h,
      c.words_at-w8.ensures.third j h,
      c.words_at-w8.ensures.fourth j h,
      c.words_at-w12.ensures.first j h,
      c.words_at-w12.ensures.second j h,
      c.words_at-w12.ensures.third j h,
      c.words_at-w12.ensures.fourth j h,
      block_words_in c.args.bytes.now (g.row.STEP * j) c.args.k (lane_within g.row.STEP j g.V.Words.LANES _ h c.requires.len) c.requires.block,
    ) refl
