use Rattle.store_engines.specs.Uploads.{failed_text}
use Rattle.store_engines.proofs.Writes.{stopped_none}
use Rattle.store_engines.proofs.uploading.refuse.Goals as goal

pub returns-in_err-text-clause-failed : goal.returns-in_err-text-clause-failed
returns-in_err-text-clause-failed g c = stopped_none c.from_residual.result (g.W.Write.contents c.args.writer.now) (failed_text c.args.kind)
