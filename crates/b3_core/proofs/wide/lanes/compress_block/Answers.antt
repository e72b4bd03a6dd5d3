use Rattle.std.proofs.Common.{List, ℕ, ◌∙◌, ap, take, arith}
use Rattle.b3_core.specs.Compression.{compress_of}
use Rattle.b3_core.specs.inner.Lanes.{lane}
use Rattle.b3_core.proofs.wide.lanes.compress_block.Goals as goal

pub returns-clause-values : goal.returns-clause-values
returns-clause-values g c j t h low high =
    c.compress.ensures.values j t h low high
    ∙ ap (λ (m : List ℕ). take 8 (compress_of (lane g.V.Words.word j c.args.h.now) m t 64 c.args.d)) (c.blocks_at-m.ensures j h)

pub blocks_at-m-requires : goal.blocks_at-m-requires
blocks_at-m-requires g c =
    let small = g.met.V.Chunks.is_small in
    (omega arith, (c.requires.len, omega arith))

pub compress-requires : goal.compress-requires
compress-requires g c =
    let small = g.met.V.Chunks.is_small in
    (omega arith, omega arith)
