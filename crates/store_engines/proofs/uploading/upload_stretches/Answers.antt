use Rattle.std.proofs.Common.{refl}
use Rattle.store_engines.proofs.UploadTexts.{no_memory, reported, reported_memory, reported_some}
use Rattle.store_engines.proofs.uploading.upload_stretches.Goals as goal

-- ---- an upload that failed

pub returns-in-Err-clause-refused : goal.returns-in-Err-clause-refused
returns-in-Err-clause-refused g c = reported c.args.options c.refuse.result c.in-Err.kind _ _ c.in-Err.ensures.fault c.refuse.ensures.reported c.refuse.ensures.memory

pub returns-in-Err-clause-memory : goal.returns-in-Err-clause-memory
returns-in-Err-clause-memory g c = reported_memory c.refuse.result c.in-Err.kind _ _ c.refuse.ensures.failed c.refuse.ensures.other

pub returns-in-Err-clause-failed : goal.returns-in-Err-clause-failed
returns-in-Err-clause-failed g c =
    reported_some c.args.options c.refuse.result c.in-Err.kind _ _ c.args.input.now.bytes c.in-Err.ensures.fault c.refuse.ensures.failed c.refuse.ensures.memory

-- ---- one that was filed

pub returns-in_err-text-clause-memory : goal.returns-in_err-text-clause-memory
returns-in_err-text-clause-memory g c = λ _. no_memory _ _ refl
