use Rattle.std.proofs.Common.{◌∙◌}
use Rattle.b3_core.proofs.WholeChunks.{two_chunks_join}
use Rattle.b3_core.proofs.wide.two_top.Goals as goal

pub returns-clause-node : goal.returns-clause-node
returns-clause-node c =
    c.of_children.ensures _ _ c.pair_values.ensures.first c.pair_values.ensures.second ∙ two_chunks_join c.args.bytes.now c.args.number c.args.mode.now c.requires.len
