use Rattle.b3_forest.proofs.Pairs.{after_left, before_right}
use Rattle.b3_forest.proofs.subtrees.other_half.Goals as goal

pub returns-then-is_left_half : goal.returns-then-is_left_half
returns-then-is_left_half c l q wide is = after_left c.args.first c.args.width l q wide is (c.is_left_half.ensures.yes c.if-is_left_half.true)

pub returns-else-is_left_half : goal.returns-else-is_left_half
returns-else-is_left_half c l q wide is = before_right c.args.first c.args.width l q wide is (c.is_left_half.ensures.no c.if-is_left_half.false)
