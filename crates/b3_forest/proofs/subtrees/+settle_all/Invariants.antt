use Rattle.std.specs.Prelude.{length}
use Rattle.b3_forest.proofs.subtrees.+settle_all.Given as goal

abbrev pub decreases-settle_all : goal.decreases-settle_all
decreases-settle_all l = length l.pieces.now
