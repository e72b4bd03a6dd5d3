use Rattle.std.proofs.Common.{◌∙◌, ap, sym}
use Rattle.std.specs.BTreeMap.{is_at}
use Rattle.std.specs.Map.{lookup}
use Rattle.std.specs.Ordering.{nat_cmp}
use Rattle.store_upload.specs.Uploads.{ModelUpload}
use Rattle.store_upload.proofs.Ends.{not_begun, upload_with}
use Rattle.store_upload.proofs.upload.Upload.place_fault.Goals as goal

pub returns-in-None-past_last-clause-absent : goal.returns-in-None-past_last-clause-absent
returns-in-None-past_last-clause-absent g c =
    let old = c.self.inside in
    let len = g.H.Part.Length.len in
    let u = upload_with len old.plan old.end (g.H.HeldParts.parts old.parts) in
    ap (λ (v : ModelUpload g.row.H-Part.Denot). lookup (is_at (nat_cmp c.args.offset)) v.parts) (sym c.self.view_is)
    ∙ not_begun len u c.args.offset c.args.len c.self.invariant.0 c.requires.some (sym c.overlap.ensures ∙ c.in-None.is)
