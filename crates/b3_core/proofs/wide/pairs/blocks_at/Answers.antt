use Rattle.std.proofs.Common.{◌∙◌, ◌*◌, arith, sym}
use Rattle.b3_core.proofs.EachLane.{block_words_in}
use Rattle.b3_core.proofs.EachRow.{two_blocks}
use Rattle.b3_core.proofs.wide.pairs.blocks_at.Goals as goal

pub returns : goal.returns
returns c i h =
    c.message.ensures i h
    ∙ two_blocks c.args.bytes.now _ _ _ _ (64 * c.args.k) (c.two_rows-a.ensures.front, c.two_rows-a.ensures.back) (c.two_rows-b.ensures.front, c.two_rows-b.ensures.back)
    (c.two_rows-c.ensures.front, c.two_rows-c.ensures.back) (c.two_rows-d.ensures.front, c.two_rows-d.ensures.back) i h
    ∙ sym (block_words_in c.args.bytes.now i c.args.k (omega (arith, h)) c.requires.block)
