use Rattle.std.proofs.Common.{◌≡◌, ◌*◌, length, reverse}
use Rattle.b3_core.specs.inner.Hashers.{joined}
use Rattle.b3_core.specs.Work.{counted}
use Rattle.b3_core.proofs.kept.joined.Given as goal

abbrev pub invariant-loop-left : goal.invariant-loop-left
invariant-loop-left l =
    (joined l.mode (reverse l.rest) l.top ≡ joined l.mode (reverse l.subtrees) l.fn.following)
    × (counted l.work (2 * length l.rest) ≡ counted l.fn.work (2 * length l.subtrees))

abbrev pub decreases-loop-left : goal.decreases-loop-left
decreases-loop-left l = length l.rest
