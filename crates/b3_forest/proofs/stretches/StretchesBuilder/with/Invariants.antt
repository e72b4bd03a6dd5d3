use Rattle.std.proofs.Common.{◌≡◌, ◌≤◌, ◌++◌, length, vec_len}
use Rattle.b3_forest.specs.Stretches.{AreFull, stretched}
use Rattle.b3_forest.proofs.stretches.StretchesBuilder.with.Given as goal

abbrev pub invariant-loop-rest : goal.invariant-loop-rest
invariant-loop-rest l = record {
  full : AreFull l.stretch_len l.full.items;
  short : vec_len l.last ≤ l.stretch_len;
  bytes : (stretched l.stretch_len l.full.items l.last.items).bytes ++ l.rest ≡ l.fn.self.bytes ++ l.bytes;
}

abbrev pub decreases-loop-rest : goal.decreases-loop-rest
decreases-loop-rest l = length l.rest
