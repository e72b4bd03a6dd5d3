use Rattle.std.proofs.Common.{◌-◌, ◌≤◌}
use Rattle.b3_parallel.specs.inner.Rounds.{HasFront}
use Rattle.b3_parallel.proofs.sourcing.hash_rounds.Given as goal

abbrev pub invariant-loop-first : goal.invariant-loop-first
invariant-loop-first g l = record {
  most : l.first ≤ l.all.end;
  front : HasFront l.all.mode (g.S.Source.bytes l.source) l.all.level l.fn.front l.all.first → HasFront l.all.mode (g.S.Source.bytes l.source) l.all.level l.front l.first;
}

abbrev pub decreases-loop-first : goal.decreases-loop-first
decreases-loop-first g l = l.all.end - l.first
