use Rattle.std.proofs.Common.{◌∙◌, arith}
use Rattle.b3_core.specs.Lanes.{chunk_at}
use Rattle.b3_core.proofs.WholeChunks.{four_chunks_join}
use Rattle.b3_core.proofs.wide.four_top.Goals as goal

pub returns-clause-node : goal.returns-clause-node
returns-clause-node c =
    let chunk = chunk_at c.args.bytes.now c.args.number c.args.mode.now in
    let values = c.chunk_values-values.ensures.values in
    let left = c.lane_pairs.ensures.first (chunk 0) (chunk 1) (values 0 (omega arith)) (values 1 (omega arith)) in
    let right = c.lane_pairs.ensures.second (chunk 2) (chunk 3) (values 2 (omega arith)) (values 3 (omega arith)) in
    c.of_children.ensures _ _ left right ∙ four_chunks_join c.args.bytes.now c.args.number c.args.mode.now c.requires.len
