use Rattle.std.proofs.Common.{arith}
use Rattle.b3_forest.proofs.Merging.{alone_forest, merged_forest}
use Rattle.b3_forest.proofs.subtrees.+settle.Goals as goal

pub halves_at-requires : goal.halves_at-requires
halves_at-requires t c = (c.requires.1.chunks, c.requires.1.forest.pieces)

pub settle-requires : goal.settle-requires
settle-requires t c =
    let w = c.requires.1 in
    let forest = merged_forest w.len w.chunks c.requires.0 c.args.subtrees.now.entries c.merge.new.subtrees.entries c.args.first c.in-Some.halves c.merge.ensures.join w.whole w.forest c.in-Some.ensures.pair c.merge.ensures.merged in
    (omega arith, (c.requires.0, record { len = w.len; chunks = w.chunks; whole = w.whole; forest = forest }))

pub returns-in_default-clause-forest : goal.returns-in_default-clause-forest
returns-in_default-clause-forest t c n x ds chunks forest = alone_forest x ds c.args.subtrees.now.entries c.args.first forest c.in_default.ensures.alone

pub returns-clause-forest : goal.returns-clause-forest
returns-clause-forest t c n x ds chunks forest =
    c.settle.ensures.forest n x ds chunks
    (merged_forest n x ds c.args.subtrees.now.entries c.merge.new.subtrees.entries c.args.first c.in-Some.halves c.merge.ensures.join chunks forest c.in-Some.ensures.pair c.merge.ensures.merged)
