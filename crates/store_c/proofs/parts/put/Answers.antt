use Rattle.std.proofs.Common.{refl}
use Rattle.std.specs.Prelude.{Ok, Err}
use Rattle.store_c.proofs.OnParts.{on_part}
use Rattle.store_c.proofs.parts.put.Goals as goal

pub returns-in-Ok-clause-step : goal.returns-in-Ok-clause-step
returns-in-Ok-clause-step c = on_part _ _ c.in-Some.ensures.part.0 (Ok c.in-Ok.now, c.in-Ok.ensures.step, (refl, c.upload_progress.ensures, refl))

pub returns-in-Err-clause-step : goal.returns-in-Err-clause-step
returns-in-Err-clause-step c = on_part _ _ c.in-Some.ensures.part.0 (Err c.in-Err.refused.reason, c.in-Err.ensures.step, (c.refuse.ensures.number, refl, c.refuse.ensures.why))
