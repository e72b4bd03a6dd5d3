use Rattle.std.specs.Prelude.{length}
use Rattle.b3_forest.proofs.subtrees.+put_in.Given as goal

abbrev pub decreases-put_in : goal.decreases-put_in
decreases-put_in l = length l.pieces.now
