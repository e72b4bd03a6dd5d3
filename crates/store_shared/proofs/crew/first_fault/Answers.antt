use Rattle.std.proofs.Common.{◌≡◌, ◌+◌, ◌∙◌, ◌++◌, ◌∷◌, [], ap, refl, sym, take}
use Rattle.std.proofs.lemmas.List.{take_more}
use Rattle.std.specs.Option.{option_or}
use Rattle.store_shared.specs.inner.Workers.{fault_of_first}
use Rattle.store_shared.proofs.Passing.{fault_push}
use Rattle.store_shared.proofs.crew.first_fault.Goals as goal

pub loop-report-init : goal.loop-report-init
unfolding fault_of_first
loop-report-init c = refl

pub loop-report-preserved : goal.loop-report-preserved
loop-report-preserved c =
    let reports = c.args.reports.now in
    let at = c.loop-report.report-index in
    let report = c.report-item.result in
    let more : take (at + 1) reports ≡ take at reports ++ report ∷ [] = take_more reports at report c.loop-report-test.true ∙ ap (λ x. take at reports ++ x ∷ []) (sym c.report-item.is) in
    c.or-first.ensures ∙ (ap (λ o. option_or o report.fault) c.loop-report.invariant ∙ sym (ap fault_of_first more ∙ fault_push (take at reports) report))
