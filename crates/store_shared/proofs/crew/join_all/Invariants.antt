use Rattle.std.specs.Prelude.{◌≡◌, ◌+◌, ◌≤◌, All, length, vec_capacity, vec_len}
use Rattle.std.specs.Vec.Iter.{into_iter_items}
use Rattle.store_shared.specs.inner.Workers.{IsReportOf, IsThreadOf}
use Rattle.store_shared.proofs.crew.join_all.Given as goal

abbrev pub invariant-loop-handle : goal.invariant-loop-handle
invariant-loop-handle g l = All (IsThreadOf l.job.cut l.job.gate.now l.job.exchange) (into_iter_items l.rest)
    × (vec_len l.reports + length (into_iter_items l.rest) ≤ vec_capacity l.reports)
    × All (λ r. IsReportOf l.job.exchange (g.G.Gate.rule l.job.gate.now) l.job.cut r) l.reports.items
    × (vec_len l.reports + length (into_iter_items l.rest) ≡ vec_len l.fn.handles)

abbrev pub decreases-loop-handle : goal.decreases-loop-handle
decreases-loop-handle g l = length (into_iter_items l.rest)
