use Rattle.std.proofs.Common.{◌+◌, ◌≤◌, length}
use Rattle.std.specs.Prelude.{◌↔◌}
use Rattle.b3_forest.specs.Borrowed.{borrowed_bytes}
use Rattle.b3_forest.specs.Stretches.{StandsAt}
use Rattle.b3_forest.proofs.borrowed.BorrowedBytes.has.Given as goal

abbrev pub invariant-loop-rest : goal.invariant-loop-rest
invariant-loop-rest l = record {
  within : l.at + length l.rest ≤ length (borrowed_bytes l.self);
  same : StandsAt (borrowed_bytes l.self) l.fn.at l.fn.bytes ↔ StandsAt (borrowed_bytes l.self) l.at l.rest;
}

abbrev pub decreases-loop-rest : goal.decreases-loop-rest
decreases-loop-rest l = length l.rest
