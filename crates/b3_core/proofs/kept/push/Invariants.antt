use Rattle.std.proofs.Common.{ℕ, List, ◌∷◌, ◌^◌, ◌<◌, ◌≤◌, length, reverse}
use Rattle.b3_core.specs.Hashers.{CountsRest, kept_work}
use Rattle.b3_core.specs.inner.Hashers.{IsNext}
use Rattle.b3_core.specs.Kept.{nodes_of}
use Rattle.b3_core.specs.Work.{NeverFalls}
use Rattle.b3_core.proofs.kept.push.Given as goal

abbrev pub invariant-loop-last : goal.invariant-loop-last
invariant-loop-last l = record {
  keeps : (x : List ℕ) → IsNext l.mode (reverse (nodes_of l.fn.subtrees)) l.fn.next x → length x < 2 ^ 64
      → IsNext l.mode (reverse (nodes_of l.subtrees)) l.next x
      × CountsRest (kept_work (l.fn.next ∷ reverse (nodes_of l.fn.subtrees))) (kept_work (l.next ∷ reverse (nodes_of l.subtrees))) l.fn.work l.work;
  rises : l.fn.next.0 ≤ l.next.0;
  never_falls : NeverFalls l.fn.work l.work;
  fits : l.fn.subtrees.len ≤ 54 → l.subtrees.len ≤ 54;
}

abbrev pub decreases-loop-last : goal.decreases-loop-last
decreases-loop-last l = length (nodes_of l.subtrees)
