use Rattle.std.proofs.Common.{rules, ◌≡◌, ◌∙◌, ap, sym, subst}
use Rattle.std.proofs.lemmas.Result.{IfOk-weaker}
use Rattle.store_core.specs.Carried.{IsCarried, replayed_of}
use Rattle.store_engines.proofs.UploadTexts.{has_object}
use Rattle.store_engines.proofs.uploading.report_of.Goals as goal

pub returns : goal.returns
returns g c =
    let store = c.args.locked.store in
    let share = c.args.share in
    let same : c.store.result.now ≡ store = search rules in
    let carried = subst IsCarried same c.journal.ensures.carried in
    let entries : c.journal.result.now ≡ store.journal = c.journal.ensures.entries ∙ ap (λ s. s.journal) same in
    let agrees = c.in-Ok.ensures.ok.1 in
    IfOk-weaker c.uploaded_text.result _ _ (λ text is. record {
      left = replayed_of store.state;
      legal = carried.replayed;
      filed = has_object store.state c.args.address share.bytes c.requires.filed;
      bytes = sym agrees.0;
      calls = sym agrees.1;
      text_is = is ∙ search (rules, entries, agrees);
    }) c.uploaded_text.ensures
