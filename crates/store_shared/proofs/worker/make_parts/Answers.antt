use Rattle.std.proofs.Common.{◌<◌, ◌∙◌, ap, sym, subst}
use Rattle.store_shared.specs.inner.Gates.{IsFaultOf, fault_for}
use Rattle.store_shared.specs.Uploading.{cut_count}
use Rattle.store_shared.proofs.Noting.{gate_reported}
use Rattle.store_shared.proofs.worker.make_parts.Goals as goal

pub returns-in-Err-clause-fault : goal.returns-in-Err-clause-fault
returns-in-Err-clause-fault g c =
    let below = subst (λ n. c.in-Some-claim.draw.number < n) c.requires.parts c.in-Some-claim.ensures.found.0 in
    subst (λ kind. IsFaultOf (g.G.Gate.rule c.args.gate.now) (cut_count c.args.cut.now) kind) (sym (c.fault_at.ensures ∙ ap (λ n. fault_for n c.in-Err.answer) c.number-number.ensures))
    (gate_reported (g.G.Gate.rule c.args.gate.now) (cut_count c.args.cut.now) c.in-Some-claim.draw.number c.in-Err.answer below c.in-Err.ensures.err)
