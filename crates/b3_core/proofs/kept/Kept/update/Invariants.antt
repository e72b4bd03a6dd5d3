use Rattle.std.proofs.Common.{ℕ, ◌+◌, ◌^◌, ◌<◌, List, length}
use Rattle.b3_core.specs.Hashers.{HasInput}
use Rattle.b3_core.specs.inner.Hashers.{IsLeft}
use Rattle.b3_core.specs.Kept.{FitsItsPlaces, kept_of}
use Rattle.b3_core.specs.Work.{NeverFalls}
use Rattle.b3_core.proofs.kept.Kept.update.Given as goal

abbrev pub invariant-loop-rest : goal.invariant-loop-rest
invariant-loop-rest l = record {
  short : length l.rest < 2 ^ 64;
  left : (x : List ℕ) → HasInput (kept_of l.mode l.fn.self) x → length x + length l.bytes < 2 ^ 64
      → IsLeft (kept_of l.mode l.fn.self) x l.bytes l.fn.work (kept_of l.mode l.self) l.rest l.work;
  never_falls : NeverFalls l.fn.work l.work;
  within : FitsItsPlaces l.fn.self → FitsItsPlaces l.self;
}

abbrev pub decreases-loop-rest : goal.decreases-loop-rest
decreases-loop-rest l = length l.rest
