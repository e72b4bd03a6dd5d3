use Rattle.std.proofs.Common.{rules, ◌≡◌, ◌∙◌, codes}
use Rattle.std.proofs.lemmas.Result.{IfOk-weaker}
use Rattle.b3_check.specs.Lines.{written_line}
use Rattle.store_engines.specs.Audits.{accepted_text}
use Rattle.store_engines.specs.Uploads.{journal_part}
use Rattle.store_engines.proofs.UploadTexts.{in_a_row}
use Rattle.store_engines.proofs.uploading.uploaded_text.Goals as goal

pub returns : goal.returns
returns g =
    let line : g.in_ok-line.line.items ≡ written_line (record { digest = g.args.address; name = codes "-" }) = search rules in
    let reported : g.as_bytes.result.now ≡ accepted_text g.args.accepted.bytes g.args.accepted.calls = search rules in
    let journal : g.as_slice.result.now ≡ journal_part g.args.journal g.args.entries.now = search rules in
    IfOk-weaker g.joined.result _ _ (λ text is. is ∙ in_a_row _ _ _ _ _ _ line reported journal) g.joined.ensures
