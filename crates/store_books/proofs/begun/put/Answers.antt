use Rattle.std.proofs.Common.{◌∙◌, ℕ, List, ap, sym}
use Rattle.std.specs.Map.{set_value}
use Rattle.std.proofs.lemmas.Map.Steps.{set_value_same}
use Rattle.store_books.specs.Books.{ModelOwnedUpload, is_number}
use Rattle.store_upload.specs.Uploads.{ModelUpload}
use Rattle.store_books.proofs.begun.put.Goals as goal

pub returns-in-Err-clause-unchanged : goal.returns-in-Err-clause-unchanged
returns-in-Err-clause-unchanged g c =
    let set : ModelOwnedUpload g.row.H-Part.Denot → List (ℕ × ModelOwnedUpload g.row.H-Part.Denot) = set_value (is_number c.args.number) c.args.uploads.now.entries in
    let with : ModelUpload g.row.H-Part.Denot → ModelOwnedUpload g.row.H-Part.Denot = λ u. record { tenant = c.begun.inside.tenant; upload = u } in
    (c.get_mut.follows.holds (with c.put.new.self)).0 ∙ ap set (ap with c.in-Err.ensures.unchanged ∙ c.begun.view_is) ∙ set_value_same (is_number c.args.number) c.args.uploads.now.entries c.in-Some.begun.now (sym c.in-Some.ensures.value)
