use Rattle.std.proofs.Common.{◌≡◌, ℕ, ◌*◌, ◌^◌, ◌++◌, List, drop, length, take}
use Rattle.std.specs.Vec.Iter.{into_iter_items, into_iter_len}
use Rattle.b3_core.specs.Hashers.{HasRoomFor, HasInput, CountsRest, kept_work}
use Rattle.b3_core.specs.Work.{NeverFalls}
use Rattle.b3_parallel.specs.inner.Parts.{AreAfter}
use Rattle.b3_parallel.proofs.parts.append_all.Given as goal

abbrev pub invariant-loop-part : goal.invariant-loop-part
invariant-loop-part l =
    (l.hasher.mode ≡ l.fn.hasher.mode) × NeverFalls l.fn.work l.work × (into_iter_len l.rest ≡ length (into_iter_items l.rest))
    × (i : ℕ) × (drop i l.fn.parts.items ≡ into_iter_items l.rest)
    × ((x bytes : List ℕ) → AreAfter l.fn.hasher l.fn.level l.fn.parts.items x bytes
    → HasInput l.hasher (x ++ take (i * (1024 * 2 ^ l.fn.level)) bytes) × HasRoomFor l.fn.level l.hasher
    × CountsRest (kept_work l.fn.hasher.subtrees) (kept_work l.hasher.subtrees) l.fn.work l.work)

abbrev pub decreases-loop-part : goal.decreases-loop-part
decreases-loop-part l = length (into_iter_items l.rest)
