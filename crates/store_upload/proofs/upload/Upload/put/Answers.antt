use Rattle.std.proofs.Common.{◌≡◌, ◌∙◌, ◌+◌, ap, arith, subst, sym, ℕ, List, Option}
use Rattle.std.specs.BTreeMap.{insert_entry}
use Rattle.std.specs.Ordering.{nat_cmp}
use Rattle.store_upload.specs.Uploads.{Fits, IsUpload, ModelUpload, end_with, held_bytes, place_fault}
use Rattle.store_upload.proofs.Ends.{grown, upload_with}
use Rattle.store_upload.proofs.upload.Upload.put.Goals as goal

pub add-requires : goal.add-requires
add-requires g c =
    let old = c.self.inside in
    let len = g.H.Part.Length.len in
    let u = upload_with len old.plan old.end (g.H.HeldParts.parts old.parts) in
    let offset = g.H.HeldParts.start c.args.part in
    let part = g.H.HeldParts.kept c.args.part in
    (grown len u offset part c.self.invariant.0 (ap (λ (v : ModelUpload g.row.H-Part.Denot). place_fault len v offset (len part)) c.self.view_is ∙ c.requires.free)
    (subst (λ (v : ModelUpload g.row.H-Part.Denot). Fits v.plan offset (len part)) (sym c.self.view_is) c.requires.fits)).may

pub overflow_add-self : goal.overflow_add-self
overflow_add-self g c =
    let old = c.self.inside in
    let len = g.H.Part.Length.len in
    let u = upload_with len old.plan old.end (g.H.HeldParts.parts old.parts) in
    let offset = g.H.HeldParts.start c.args.part in
    let part = g.H.HeldParts.kept c.args.part in
    let grow = grown len u offset part c.self.invariant.0 (ap (λ (v : ModelUpload g.row.H-Part.Denot). place_fault len v offset (len part)) c.self.view_is ∙ c.requires.free)
    (subst (λ (v : ModelUpload g.row.H-Part.Denot). Fits v.plan offset (len part)) (sym c.self.view_is) c.requires.fits) in
    omega (arith, grow.within, c.self.invariant.0.within, c.self.invariant.0.most, c.self.invariant.1, c.len_of-len.ensures)

pub invariant_of-self-2 : goal.invariant_of-self-2
invariant_of-self-2 g c =
    let old = c.self.inside in
    let len = g.H.Part.Length.len in
    let ps = g.H.HeldParts.parts old.parts in
    let u = upload_with len old.plan old.end ps in
    let offset = g.H.HeldParts.start c.args.part in
    let part = g.H.HeldParts.kept c.args.part in
    let grow = grown len u offset part c.self.invariant.0 (ap (λ (v : ModelUpload g.row.H-Part.Denot). place_fault len v offset (len part)) c.self.view_is ∙ c.requires.free)
    (subst (λ (v : ModelUpload g.row.H-Part.Denot). Fits v.plan offset (len part)) (sym c.self.view_is) c.requires.fits) in
    let end : end_with old.end offset (len part) ≡ c.end_with-end.result =
    ap (λ (k : ℕ). end_with old.end k (len part)) (sym c.offset_of-offset.ensures) ∙ ap (end_with old.end c.offset_of-offset.result) (sym c.len_of-len.ensures) ∙ sym c.end_with-end.ensures in
    let added : g.H.HeldParts.parts c.add.new.self ≡ insert_entry nat_cmp ps offset part = c.in_default.ensures.added in
    let bytes : old.held + c.len_of-len.result ≡ held_bytes len (insert_entry nat_cmp ps offset part) = omega (arith, grow.bytes, c.self.invariant.1, c.len_of-len.ensures) in
    subst (λ (qs : List (ℕ × g.row.H-Part.Denot)). IsUpload len (upload_with len old.plan c.end_with-end.result qs) × (old.held + c.len_of-len.result ≡ held_bytes len qs)) (sym added)
    (subst (λ (e : Option ℕ). IsUpload len (upload_with len old.plan e (insert_entry nat_cmp ps offset part))) end grow.lawful, bytes)
