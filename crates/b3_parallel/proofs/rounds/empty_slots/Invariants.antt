use Rattle.std.proofs.Common.{ℕ, List, Option}
use Rattle.b3_core.specs.Tree.{ModelMode}
use Rattle.b3_parallel.specs.inner.Rounds.{AreSlots}
use Rattle.b3_parallel.proofs.rounds.empty_slots.Given as goal

abbrev pub invariant-loop : goal.invariant-loop
invariant-loop l = (p : ModelMode) (known : Option (List ℕ)) (k : ℕ) → AreSlots p known k l.slots.items
