use Rattle.std.proofs.Common.{◌≡◌, ℕ, List, Option, length}
use Rattle.std.specs.Vec.Iter.{into_iter_items, into_iter_len}
use Rattle.b3_core.specs.Tree.{ModelMode}
use Rattle.b3_parallel.specs.inner.Rounds.{AreTaken}
use Rattle.b3_parallel.specs.inner.Takers.{AreTaking}
use Rattle.b3_parallel.proofs.takers.join_all.Given as goal

abbrev pub invariant-loop-handle : goal.invariant-loop-handle
invariant-loop-handle g l = record {
  len : into_iter_len l.rest ≡ length (into_iter_items l.rest);
  taking : (p : ModelMode) (known : Option (List ℕ)) (k : ℕ) → AreTaking g.S.Source.bytes p known k l.fn.handles.items → AreTaking g.S.Source.bytes p known k (into_iter_items l.rest);
  taken : (p : ModelMode) (known : Option (List ℕ)) (k : ℕ) → AreTaking g.S.Source.bytes p known k l.fn.handles.items → AreTaken p known k l.fn.lists.items → AreTaken p known k l.lists.items;
}

abbrev pub decreases-loop-handle : goal.decreases-loop-handle
decreases-loop-handle g l = length (into_iter_items l.rest)
