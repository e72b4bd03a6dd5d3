-- Parts that are not refused.
use Rattle.std.proofs.Common.{◌≡◌, ◌∙◌, ℕ, Option, Some, None, refl, sym, length, inl, inr, true}
use Rattle.std.proofs.lemmas.Bool.{cases_Bool}
use Rattle.b3_forest.specs.Parts.{ModelPrepared}
use Rattle.store_books.specs.declared.refusal.Refusal.TheVariants.{NoUpload, WrongPlan}
use Rattle.store_books.specs.Books.{upload_at}
use Rattle.store_books.specs.Commands.{put_refusal}
use Rattle.store_core.specs.Commands.{part_refused}
use Rattle.store_core.specs.Model.{ModelStoreBooks}
use Rattle.store_core.specs.inner.Model.{ModelStoreUpload}
use Rattle.store_upload.specs.Uploads.{same_plan}
use Rattle.store_upload.proofs.Places.{not_some}

-- a part for the upload's plan is refused as its bytes are
pub for_plan : (s : ModelStoreBooks) (number : ℕ) (p : ModelPrepared) (u : ModelStoreUpload) → upload_at s number ≡ Some u → same_plan p.plan u.upload.plan ≡ true → part_refused s number p ≡ put_refusal length s number p.part.offset (length p.part.bytes)
for_plan s number p u found same = rw (found, same) refl

-- a part that is not refused was made for the upload's plan
pub record IsForPlan (s : ModelStoreBooks) (number : ℕ) (p : ModelPrepared) : Type 0 where
  pub upload : ModelStoreUpload
  pub found : upload_at s number ≡ Some upload
  pub same : same_plan p.plan upload.upload.plan ≡ true
  pub free : put_refusal length s number p.part.offset (length p.part.bytes) ≡ None

pub is_for_plan : (s : ModelStoreBooks) (number : ℕ) (p : ModelPrepared) → part_refused s number p ≡ None → IsForPlan s number p
is_for_plan s number p free = by (upload_at s number) refl
  where
    by : (found : Option ModelStoreUpload) → upload_at s number ≡ found → IsForPlan s number p
    by None is = let removed : part_refused s number p ≡ Some NoUpload = rw is refl in absurd (not_some NoUpload (sym free ∙ removed))
    by (Some u) is = elim (cases_Bool (same_plan p.plan u.upload.plan)) [
      | inr other ↦ let wrong : part_refused s number p ≡ Some WrongPlan = rw (is, other) refl in absurd (not_some WrongPlan (sym free ∙ wrong))
      | inl same ↦ record { upload = u; found = is; same = same; free = sym (for_plan s number p u is same) ∙ free }
    ]
