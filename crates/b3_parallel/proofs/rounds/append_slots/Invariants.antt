use Rattle.std.proofs.Common.{◌≡◌, ℕ, List, Option, length}
use Rattle.std.specs.Vec.Iter.{into_iter_items, into_iter_len}
use Rattle.b3_parallel.specs.inner.Rounds.{AreSlots, HasFront}
use Rattle.b3_parallel.proofs.rounds.append_slots.Given as goal

abbrev pub invariant-loop-slot : goal.invariant-loop-slot
invariant-loop-slot l = record {
  len : into_iter_len l.rest ≡ length (into_iter_items l.rest);
  slots : (known : Option (List ℕ)) → AreSlots l.round.mode known l.round.level l.fn.slots.items → AreSlots l.round.mode known l.round.level (into_iter_items l.rest);
  front : (known : Option (List ℕ)) → AreSlots l.round.mode known l.round.level l.fn.slots.items → HasFront l.round.mode known l.round.level l.fn.front l.round.first
      → HasFront l.round.mode known l.round.level l.front l.place;
}

abbrev pub decreases-loop-slot : goal.decreases-loop-slot
decreases-loop-slot l = length (into_iter_items l.rest)
