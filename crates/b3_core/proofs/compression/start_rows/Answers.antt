use Rattle.std.proofs.Common.{◌≡◌, ◌∙◌, ◌/◌, ◌%◌, ◌^◌, arith, refl, ap, slice_index}
use Rattle.b3_core.specs.inner.Compression.{turned}
use Rattle.b3_core.proofs.WordTurns.{turned_whole}
use Rattle.b3_core.proofs.compression.start_rows.Goals as goal

pub returns : goal.returns
returns c =
    let low : turned 8 (slice_index c.turn-d.result 0) ≡ c.args.counter % 2 ^ 32 =
    ap (turned 8) (c.turn-d.ensures.turns 0 (omega arith)) ∙ turned_whole c.low.result c.low.type_inv ∙ c.low.ensures in
    let high : turned 8 (slice_index c.turn-d.result 1) ≡ c.args.counter / 2 ^ 32 =
    ap (turned 8) (c.turn-d.ensures.turns 1 (omega arith)) ∙ turned_whole c.high.result c.high.type_inv ∙ c.high.ensures in
    let len : turned 8 (slice_index c.turn-d.result 2) ≡ c.args.block_len =
    ap (turned 8) (c.turn-d.ensures.turns 2 (omega arith)) ∙ turned_whole c.args.block_len c.ranges.block_len.fits in
    let flags : turned 8 (slice_index c.turn-d.result 3) ≡ c.args.flags =
    ap (turned 8) (c.turn-d.ensures.turns 3 (omega arith)) ∙ turned_whole c.args.flags c.ranges.flags.fits in
    rw (low, high, len, flags) refl
