use Rattle.std.proofs.Common.{All, ap, arith, length, subst, sym}
use Rattle.std.proofs.lemmas.List.Elements.{All-head, All-push, All-rest}
use Rattle.std.specs.declared.thread.PromisedHandle.{PromisedHandle}
use Rattle.store_shared.specs.inner.Workers.{IsReportOf, IsThreadOf}
use Rattle.store_shared.specs.declared.worker.Report.{Report}
use Rattle.store_shared.specs.declared.worker.ReportOf.{ReportOf}
use Rattle.store_shared.proofs.crew.join_all.Goals as goal

pub join_one-requires : goal.join_one-requires
join_one-requires g c =
    let job = c.args.job.now in
    let H : PromisedHandle Report (ReportOf g.row.G.Denot) → Type 0 = IsThreadOf job.cut job.gate.now job.exchange in
    All-head H _ _ (subst (All H) c.in-Some.ensures.items c.loop-handle.invariant.0)

pub loop-handle-preserved : goal.loop-handle-preserved
loop-handle-preserved g c =
    let job = c.args.job.now in
    let i = c.loop-handle.invariant in
    let H : PromisedHandle Report (ReportOf g.row.G.Denot) → Type 0 = IsThreadOf job.cut job.gate.now job.exchange in
    let P : Report → Type 0 = λ r. IsReportOf job.exchange (g.G.Gate.rule job.gate.now) job.cut r in
    let less = ap length c.in-Some.ensures.items in
    let held = c.push_reserved.ensures in
    let room = i.1 in (
      All-rest H _ _ _ c.in-Some.ensures.items i.0,
      omega (arith, less, held.len, held.capacity, room),
      subst (All P) (sym held.items) (All-push P _ _ i.2 c.join_one.ensures),
      (let count = i.3 in omega (arith, less, held.len, count)),
    )
