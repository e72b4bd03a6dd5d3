use Rattle.std.proofs.Common.{◌≡◌, ◌+◌, ◌-◌, ◌*◌, drop, length, arith, ap, refl, ◌∙◌}
use Rattle.std.proofs.lemmas.List.{length-drop, length-take-le}
use Rattle.b3_core.specs.Lanes.{chunk_bytes}
use Rattle.b3_core.proofs.EachLane.{lane_within}
use Rattle.b3_core.proofs.Nodes.{whole_chunk_value}
use Rattle.b3_core.proofs.wide.lanes.chunk_values.Goals as goal

pub returns-clause-values : goal.returns-clause-values
returns-clause-values g c j h =
    let x = c.args.bytes.now in
    let i = g.row.STEP * j in
    let within = lane_within g.row.STEP j g.V.Words.LANES (length x) h c.requires.len in
    let rest = drop (1024 * i) x in
    let rest_len : length rest ≡ length x - 1024 * i = length-drop (1024 * i) x in
    let len : length (chunk_bytes x i) ≡ 1024 = length-take-le 1024 rest (omega (arith, within, rest_len)) in
    c.compress_block.ensures.values j (c.args.number + i) h (c.low_words-t_low.ensures j h) (c.high_words-t_high.ensures j h)
    ∙ whole_chunk_value (chunk_bytes x i) (c.args.number + i) c.args.mode.now _ _ _ len (c.chains-values.ensures.values j h)
    refl
    (ap (λ n. n + 2) c.flag-d.ensures.value)

pub compress_block-requires : goal.compress_block-requires
compress_block-requires g c =
    let small = g.met.V.Chunks.is_small in
    (omega arith, (c.requires.len, omega arith))
