use Rattle.std.proofs.Common.{◌∙◌, ap, subst, sym}
use Rattle.std.specs.Prelude.{IfSome}
use Rattle.store_shared.specs.inner.Gates.{IsFaultOf}
use Rattle.store_shared.specs.Uploading.{cut_count}
use Rattle.store_shared.specs.inner.Uploading.{IsCollected, IsCollecting, parts_in}
use Rattle.store_shared.specs.inner.Workers.{fault_of_first}
use Rattle.store_shared.proofs.Noting.{collected, collecting_begun}
use Rattle.store_shared.proofs.Passing.{collected_passed, reports_fault, reports_passed}
use Rattle.store_shared.proofs.uploads.gather.Goals as goal

pub returns-clause-collected : goal.returns-clause-collected
returns-clause-collected g c =
    let job = c.args.job.now in
    let rule = g.G.Gate.rule job.gate.now in
    let fresh = c.args.collector in
    let unstarted = c.args.crew.unstarted in
    let begun = subst (λ taken. IsCollecting job.cut fresh.share fresh.follow fresh.share (parts_in taken) unstarted) (sym c.requires.taker.1) (collecting_begun job.cut fresh.share fresh.follow unstarted c.requires.fresh) in
    let has = c.collect_rest.ensures.collected fresh.share (c.collect.ensures.kept fresh.share begun) in
    let end = c.collect_rest.new.self in
    subst (λ share. IsCollected rule job.cut fresh.share share c.address.result.1) (sym c.address.ensures.share)
    (collected rule job.cut fresh.share end.share end.follow (parts_in has.taken) end.fault c.first_fault-workers_fault.result c.address.result.1 c.requires.positive has.collecting c.collect_rest.ensures.own
    (subst (λ o. IfSome o (IsFaultOf rule (cut_count job.cut))) (sym (c.first_fault-workers_fault.ensures ∙ ap fault_of_first c.as_slice.ensures.value))
    (reports_fault job.exchange rule job.cut c.join_all-reports.result.items c.join_all-reports.ensures.reports))
    c.address.ensures.address c.address.ensures.fault)

pub returns-clause-passed : goal.returns-clause-passed
returns-clause-passed g c =
    let job = c.args.job.now in
    let rule = g.G.Gate.rule job.gate.now in
    let fresh = c.args.collector in
    let unstarted = c.args.crew.unstarted in
    let begun = subst (λ taken. IsCollecting job.cut fresh.share fresh.follow fresh.share (parts_in taken) unstarted) (sym c.requires.taker.1) (collecting_begun job.cut fresh.share fresh.follow unstarted c.requires.fresh) in
    let has = c.collect_rest.ensures.collected fresh.share (c.collect.ensures.kept fresh.share begun) in
    let end = c.collect_rest.new.self in
    collected_passed rule job.cut fresh.share end.share end.follow end.fault _ c.address.result.1 c.requires.positive has
    (reports_passed job.exchange rule job.cut c.join_all-reports.result.items c.join_all-reports.ensures.reports) c.address.ensures.address
