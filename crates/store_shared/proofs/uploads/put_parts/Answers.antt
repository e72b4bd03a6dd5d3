use Rattle.std.proofs.Common.{◌<◌, ℕ, OnOk, subst}
use Rattle.store_shared.specs.Uploading.{cut_count}
use Rattle.store_shared.specs.inner.Uploading.{IsCollected}
use Rattle.store_shared.proofs.uploads.put_parts.Goals as goal

pub returns-clause-collected : goal.returns-clause-collected
returns-clause-collected g c =
    let gate = c.args.request.now.gate.now in
    subst (λ cut. IsCollected (g.G.Gate.rule gate) cut c.args.share c.work_together.result.0 c.work_together.result.1) c.new-cut.ensures c.work_together.ensures.collected

pub returns-clause-passed : goal.returns-clause-passed
returns-clause-passed g c =
    let gate = c.args.request.now.gate.now in
    subst (λ cut. OnOk c.work_together.result.1 ((k : ℕ) → k < cut_count cut → (g.G.Gate.rule gate).has_passed k)) c.new-cut.ensures c.work_together.ensures.passed
