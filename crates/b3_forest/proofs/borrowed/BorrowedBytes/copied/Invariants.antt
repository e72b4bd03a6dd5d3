use Rattle.std.proofs.Common.{◌-◌, ◌≤◌, vec_len}
use Rattle.b3_forest.specs.Borrowed.{borrowed_bytes}
use Rattle.b3_forest.specs.Stretches.{StandsAt}
use Rattle.b3_forest.proofs.borrowed.BorrowedBytes.copied.Given as goal

abbrev pub invariant-loop-self : goal.invariant-loop-self
invariant-loop-self l = (vec_len l.copy ≤ l.len) × StandsAt (borrowed_bytes l.self) l.at l.copy.items

abbrev pub decreases-loop-self : goal.decreases-loop-self
decreases-loop-self l = l.len - vec_len l.copy
