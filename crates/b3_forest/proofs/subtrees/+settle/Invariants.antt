use Rattle.std.specs.Prelude.{length}
use Rattle.b3_forest.proofs.subtrees.+settle.Given as goal

abbrev pub decreases-settle : goal.decreases-settle
decreases-settle l = length l.subtrees.now.entries
