use Rattle.std.proofs.Common.{refl}
use Rattle.store_engines.proofs.UploadTexts.{no_memory}
use Rattle.store_engines.proofs.uploading.upload_input.Goals as goal

pub returns-in_err-bytes-clause-memory : goal.returns-in_err-bytes-clause-memory
returns-in_err-bytes-clause-memory g c = λ _. no_memory _ _ refl
