use Rattle.std.specs.Prelude.{◌-◌}
use Rattle.b3_forest.specs.Pieces.{max_chunks}
use Rattle.b3_forest.proofs.subtrees.+first_gap.Given as goal

abbrev pub decreases-first_gap : goal.decreases-first_gap
decreases-first_gap l = max_chunks - l.next
