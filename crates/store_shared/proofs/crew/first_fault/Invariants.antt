use Rattle.std.specs.Prelude.{◌≡◌, take}
use Rattle.store_shared.specs.inner.Workers.{fault_of_first}
use Rattle.store_shared.proofs.crew.first_fault.Given as goal

abbrev pub invariant-loop-report : goal.invariant-loop-report
invariant-loop-report l = l.first ≡ fault_of_first (take l.report-index l.reports)
