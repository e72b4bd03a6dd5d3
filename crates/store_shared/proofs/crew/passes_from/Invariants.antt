use Rattle.std.specs.Prelude.{◌≡◌, ◌++◌, length, map}
use Rattle.std.specs.Vec.Iter.{into_iter_items}
use Rattle.store_shared.proofs.crew.passes_from.Given as goal

abbrev pub invariant-loop-report : goal.invariant-loop-report
invariant-loop-report l = l.passes.items ++ map (λ r. r.worker.pass) (into_iter_items l.rest) ≡ map (λ r. r.worker.pass) l.fn.reports.items

abbrev pub decreases-loop-report : goal.decreases-loop-report
decreases-loop-report l = length (into_iter_items l.rest)
