use Rattle.std.proofs.Common.{arith, ◌∙◌}
use Rattle.b3_core.proofs.Nodes.{block_filled}
use Rattle.b3_core.proofs.words.words_of_short_block.Goals as goal

pub returns : goal.returns
returns c = c.words_of_block.ensures ∙ block_filled c.args.bytes.now c.padded-block.result (omega arith) c.padded-block.ensures
