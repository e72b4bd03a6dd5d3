use Rattle.std.proofs.Common.{◌++◌, slice_index, arith, ap₂}
use Rattle.b3_core.proofs.EachLane.{lane_word, eight_words}
use Rattle.b3_core.proofs.wide.lanes.stacked.Goals as goal

pub returns : goal.returns
returns c j h =
    simp (
      lane_word slice_index j c.args.left 8 (omega arith),
      lane_word slice_index j c.args.right 8 (omega arith),
    ) (ap₂ (λ a b. a ++ b) (eight_words slice_index j c.args.left (omega arith)) (eight_words slice_index j c.args.right (omega arith)))
