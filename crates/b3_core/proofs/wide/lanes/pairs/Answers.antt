use Rattle.std.proofs.Common.{◌+◌, ◌*◌, ◌++◌, slice_index, arith, ap₂}
use Rattle.b3_core.proofs.EachLane.{lane_word, eight_words}
use Rattle.b3_core.proofs.wide.lanes.pairs.Goals as goal

pub returns-clause-front : goal.returns-clause-front
returns-clause-front c j h =
    simp (
      (c.parted.ensures.front j h).0,
      (c.parted.ensures.front j h).1,
      (c.parted-2.ensures.front j h).0,
      (c.parted-2.ensures.front j h).1,
      (c.parted-3.ensures.front j h).0,
      (c.parted-3.ensures.front j h).1,
      (c.parted-4.ensures.front j h).0,
      (c.parted-4.ensures.front j h).1,
      (c.parted-5.ensures.front j h).0,
      (c.parted-5.ensures.front j h).1,
      (c.parted-6.ensures.front j h).0,
      (c.parted-6.ensures.front j h).1,
      (c.parted-7.ensures.front j h).0,
      (c.parted-7.ensures.front j h).1,
      (c.parted-8.ensures.front j h).0,
      (c.parted-8.ensures.front j h).1,
      lane_word slice_index (2 * j) c.args.left 8 (omega arith),
      lane_word slice_index (2 * j + 1) c.args.left 8 (omega arith),
    ) (ap₂ (λ a b. a ++ b) (eight_words slice_index (2 * j) c.args.left (omega arith)) (eight_words slice_index (2 * j + 1) c.args.left (omega arith)))

pub returns-clause-back : goal.returns-clause-back
returns-clause-back c j h =
    simp (
      (c.parted.ensures.back j h).0,
      (c.parted.ensures.back j h).1,
      (c.parted-2.ensures.back j h).0,
      (c.parted-2.ensures.back j h).1,
      (c.parted-3.ensures.back j h).0,
      (c.parted-3.ensures.back j h).1,
      (c.parted-4.ensures.back j h).0,
      (c.parted-4.ensures.back j h).1,
      (c.parted-5.ensures.back j h).0,
      (c.parted-5.ensures.back j h).1,
      (c.parted-6.ensures.back j h).0,
      (c.parted-6.ensures.back j h).1,
      (c.parted-7.ensures.back j h).0,
      (c.parted-7.ensures.back j h).1,
      (c.parted-8.ensures.back j h).0,
      (c.parted-8.ensures.back j h).1,
      lane_word slice_index (2 * j) c.args.right 8 (omega arith),
      lane_word slice_index (2 * j + 1) c.args.right 8 (omega arith),
    ) (ap₂ (λ a b. a ++ b) (eight_words slice_index (2 * j) c.args.right (omega arith)) (eight_words slice_index (2 * j + 1) c.args.right (omega arith)))
