use Rattle.std.proofs.Common.{rules, ◌≡◌}
use Rattle.store_core.specs.Runs.{answer_in}
use Rattle.store_core.proofs.store.Store.step.Goals as goal

pub returns-in_err-fix-in-Fix-clause-step : goal.returns-in_err-fix-in-Fix-clause-step
returns-in_err-fix-in-Fix-clause-step c = rw c.in-Fix.is (search rules)

pub returns-in_err-sealed-in-SealAs-clause-step : goal.returns-in_err-sealed-in-SealAs-clause-step
returns-in_err-sealed-in-SealAs-clause-step c = rw c.in-SealAs.is (search rules)

pub returns-in_err-forget-in-Forget-clause-step : goal.returns-in_err-forget-in-Forget-clause-step
returns-in_err-forget-in-Forget-clause-step c = rw c.in-Forget.is (search rules)
