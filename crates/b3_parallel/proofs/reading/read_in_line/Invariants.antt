use Rattle.std.proofs.Common.{◌≡◌, ℕ, ◌*◌, ◌^◌, List, length}
use Rattle.b3_core.specs.Tree.{ModelMode}
use Rattle.b3_parallel.specs.inner.Lines.{Carries}
use Rattle.b3_parallel.proofs.Lining.{LineHas}
use Rattle.b3_parallel.proofs.reading.read_in_line.Given as goal

abbrev pub invariant-loop-place : goal.invariant-loop-place
invariant-loop-place g l = record {
  level : l.line.level ≡ l.fn.line.level;
  has : (p : ModelMode) (x : List ℕ) → Carries p l.fn.line x → length x ≡ 1024 * 2 ^ l.fn.line.level
      → LineHas p l.fn.line.level l.line x l.place (g.R.Read.remaining l.fn.reader) (g.R.Read.remaining l.reader);
}
