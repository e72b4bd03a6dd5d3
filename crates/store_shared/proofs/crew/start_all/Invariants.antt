use Rattle.std.specs.Prelude.{◌≡◌, ◌+◌, ◌≤◌, All, vec_capacity, vec_len}
use Rattle.store_shared.specs.inner.Workers.{AreWorkersOf, IsThreadOf}
use Rattle.store_shared.proofs.crew.start_all.Given as goal

abbrev pub invariant-loop-worker : goal.invariant-loop-worker
invariant-loop-worker g l = AreWorkersOf l.job.exchange l.workers.items × All (IsThreadOf l.job.cut l.job.gate.now l.job.exchange) l.handles.items
    × (vec_len l.handles + vec_len l.workers ≤ vec_capacity l.reports) × (vec_len l.handles + vec_len l.workers ≡ vec_len l.fn.workers)

abbrev pub decreases-loop-worker : goal.decreases-loop-worker
decreases-loop-worker g l = vec_len l.workers
