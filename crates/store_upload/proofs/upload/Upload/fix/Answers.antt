use Rattle.std.proofs.Common.{◌∙◌, ap}
use Rattle.store_upload.specs.Uploads.{ModelUpload, fix_fault}
use Rattle.store_upload.proofs.Ends.{fixes, upload_with}
use Rattle.store_upload.proofs.upload.Upload.fix.Goals as goal

pub invariant_of-self : goal.invariant_of-self
invariant_of-self g c =
    let old = c.self.inside in
    let len = g.H.Part.Length.len in
    let u = upload_with len old.plan old.end (g.H.HeldParts.parts old.parts) in
    (fixes len u c.args.len c.self.invariant.0 (ap (λ (v : ModelUpload g.row.H-Part.Denot). fix_fault len v c.args.len) c.self.view_is ∙ c.requires), c.self.invariant.1)
