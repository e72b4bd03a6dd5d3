use Rattle.std.proofs.Common.{◌≡◌, ℕ, List, Option, length}
use Rattle.std.specs.Vec.Iter.{into_iter_items, into_iter_len}
use Rattle.b3_core.specs.Tree.{ModelMode}
use Rattle.b3_parallel.specs.inner.Rounds.{ArePlaced, AreSlots}
use Rattle.b3_parallel.proofs.rounds.put_in_slots.Given as goal

abbrev pub invariant-loop-placed : goal.invariant-loop-placed
invariant-loop-placed l = record {
  len : into_iter_len l.rest ≡ length (into_iter_items l.rest);
  placed : (p : ModelMode) (known : Option (List ℕ)) (k : ℕ) → ArePlaced p known k l.fn.taken.items → ArePlaced p known k (into_iter_items l.rest);
  slots : (p : ModelMode) (known : Option (List ℕ)) (k : ℕ) → ArePlaced p known k l.fn.taken.items → AreSlots p known k l.fn.slots.items → AreSlots p known k l.slots.items;
}

abbrev pub decreases-loop-placed : goal.decreases-loop-placed
decreases-loop-placed l = length (into_iter_items l.rest)
