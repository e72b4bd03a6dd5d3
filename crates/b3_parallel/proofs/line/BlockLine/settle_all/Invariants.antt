use Rattle.std.proofs.Common.{◌≡◌, ℕ, ◌^◌, ◌<◌, List, length}
use Rattle.b3_core.specs.Tree.{ModelMode}
use Rattle.b3_parallel.specs.inner.Lines.{Carries}
use Rattle.b3_parallel.proofs.line.BlockLine.settle_all.Given as goal

abbrev pub invariant-loop-bytes : goal.invariant-loop-bytes
invariant-loop-bytes g l = record {
  level : l.self.level ≡ l.fn.self.level;
  carries : (p : ModelMode) (x : List ℕ) → length x < 2 ^ 64 → Carries p l.fn.self x → Carries p l.self x;
}

abbrev pub decreases-loop-bytes : goal.decreases-loop-bytes
decreases-loop-bytes g l = length l.self.handles.items
