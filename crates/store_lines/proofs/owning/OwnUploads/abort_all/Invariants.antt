use Rattle.std.proofs.Common.{◌≡◌, ◌++◌, List, ℕ, length, []}
use Rattle.store_lines.specs.inner.Reporting.{AbortsOver}
use Rattle.store_lines.proofs.owning.OwnUploads.abort_all.Given as goal

-- these are aborted
abbrev pub invariant-loop-upload : goal.invariant-loop-upload
invariant-loop-upload g l = ((done : List ℕ) × ((l.fn.self.numbers.items ≡ done ++ l.self.numbers.items) × AbortsOver g.A.Access.reach (g.A.Access.stands l.fn.access) (g.A.Access.stands l.access) done)) × (l.fn.self.numbers.items ≡ [] → l.access ≡ l.fn.access)

abbrev pub decreases-loop-upload : goal.decreases-loop-upload
decreases-loop-upload g l = length l.self.numbers.items
