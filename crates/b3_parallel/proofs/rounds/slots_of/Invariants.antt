use Rattle.std.proofs.Common.{◌≡◌, ℕ, List, Option, length}
use Rattle.std.specs.Vec.Iter.{into_iter_items, into_iter_len}
use Rattle.b3_core.specs.Tree.{ModelMode}
use Rattle.b3_parallel.specs.inner.Rounds.{AreSlots, AreTaken}
use Rattle.b3_parallel.proofs.rounds.slots_of.Given as goal

abbrev pub invariant-loop-list : goal.invariant-loop-list
invariant-loop-list l = record {
  len : into_iter_len l.rest ≡ length (into_iter_items l.rest);
  taken : (p : ModelMode) (known : Option (List ℕ)) (k : ℕ) → AreTaken p known k l.fn.lists.items → AreTaken p known k (into_iter_items l.rest);
  slots : (p : ModelMode) (known : Option (List ℕ)) (k : ℕ) → AreTaken p known k l.fn.lists.items → AreSlots p known k l.slots.items;
}

abbrev pub decreases-loop-list : goal.decreases-loop-list
decreases-loop-list l = length (into_iter_items l.rest)
