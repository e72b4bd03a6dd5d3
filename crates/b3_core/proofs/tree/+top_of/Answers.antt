use Rattle.std.proofs.Common.{arith, ◌∙◌, sym}
use Rattle.b3_core.proofs.Nodes.{top_short, top_cut}
use Rattle.b3_core.proofs.tree.+top_of.Goals as goal

pub returns-then-bytes-le-CHUNK_LEN-clause-node : goal.returns-then-bytes-le-CHUNK_LEN-clause-node
returns-then-bytes-le-CHUNK_LEN-clause-node t c = c.of_chunk.ensures.node ∙ sym (top_short _ _ _ (omega arith))

pub returns-clause-node : goal.returns-clause-node
returns-clause-node t c =
    c.parent.ensures.node
    ∙ top_cut c.args.bytes.now c.args.number c.args.mode.now _ _ c.left_len-middle.result (omega arith) c.left_len-middle.ensures.value
    (rw c.split_at.ensures.front at c.top_of-left_top.ensures.node)
    (rw c.split_at.ensures.back at c.top_of-right_top.ensures.node)
