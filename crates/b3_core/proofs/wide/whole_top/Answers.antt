use Rattle.std.proofs.Common.{ℕ, ◌^◌, ◌∙◌, arith}
use Rattle.b3_core.specs.inner.Lanes.{group_top}
use Rattle.b3_core.specs.Tree.{ModelTop}
use Rattle.b3_core.proofs.WholeChunks.{eighths_join}
use Rattle.b3_core.proofs.wide.whole_top.Goals as goal

pub returns-clause-node : goal.returns-clause-node
returns-clause-node c =
    let eighth : ℕ → ModelTop = group_top (2 ^ c.args.level) c.args.bytes.now c.args.number c.args.mode.now in
    let values = c.eighth_values-values.ensures.values in
    let first = c.lane_pairs.ensures.first (eighth 0) (eighth 1) (values 0 (omega arith)) (values 1 (omega arith)) in
    let second = c.lane_pairs.ensures.second (eighth 2) (eighth 3) (values 2 (omega arith)) (values 3 (omega arith)) in
    let third = c.lane_pairs-2.ensures.first (eighth 4) (eighth 5) (values 4 (omega arith)) (values 5 (omega arith)) in
    let fourth = c.lane_pairs-2.ensures.second (eighth 6) (eighth 7) (values 6 (omega arith)) (values 7 (omega arith)) in
    let left = c.pair_parents.ensures.first _ _ first second in
    let right = c.pair_parents.ensures.second _ _ third fourth in
    c.of_children.ensures _ _ left right ∙ eighths_join c.args.bytes.now c.args.number c.args.level c.args.mode.now c.requires.len
