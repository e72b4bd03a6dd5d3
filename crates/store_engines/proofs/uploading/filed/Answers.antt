use Rattle.std.proofs.Common.{rules, ◌∙◌}
use Rattle.store_engines.specs.Uploads.{MayFail}
use Rattle.store_engines.proofs.UploadTexts.{never_bad, own_may}
use Rattle.store_engines.proofs.uploading.filed.Goals as goal

pub returns-in_err-held-clause-fault : goal.returns-in_err-held-clause-fault
returns-in_err-held-clause-fault g c =
    let kind = c.in_err-held.field-0.0 in
    let never = never_bad c.args.options _ _ c.in-Ok-uploaded.sealed _ _ (c.new-shared.ensures.workers ∙ c.full.ensures.2) c.upload-share.ensures.bad_cut c.in-Ok-uploaded.is in
    let may : MayFail c.args.options kind = own_may c.args.options kind c.in_err-held.ensures.own (λ bad. absurd (never bad)) in
    search (rules, may)
