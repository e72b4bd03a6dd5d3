-- The invariants of books hold after each command that is not refused.
use Rattle.std.specs.Prelude.{◌≡◌, ℕ, List, None, Some}
use Rattle.store_books.specs.Books.{AreSound, ModelOwnedUpload, ModelBooks, object_at, upload_at}
use Rattle.store_books.specs.Commands.{abort_refusal, begin_refusal, fix_refusal, file_refusal, forget_refusal, limit_refusal, put_refusal, ready_refusal, tenant_refusal, with_begun, with_filed, with_fixed, with_forgotten, with_joined, with_limit, with_put, with_tenant, without_upload}
use Rattle.store_upload.specs.Uploads.{Fits, UploadPlan, length_of}

module _ {P O : Type 0} (len : P → ℕ) (size : O → ℕ) (address : O → List ℕ) where
  -- each command that is not refused keeps sound books sound
  pub record StaysSound (b : ModelBooks P O) : Type 0 where
    pub tenant : (limit : ℕ) → tenant_refusal b limit ≡ None → AreSound len size address (with_tenant b limit)
    pub limit : (tenant limit : ℕ) → limit_refusal size b tenant limit ≡ None → AreSound len size address (with_limit b tenant limit)
    pub begin : (tenant : ℕ) (plan : UploadPlan) → begin_refusal size b tenant plan.bound ≡ None → AreSound len size address (with_begun b tenant plan)
    pub put : (number offset : ℕ) (part : P) → ((u : ModelOwnedUpload P) → upload_at b number ≡ Some u → Fits u.upload.plan offset (len part)) → put_refusal len b number offset (len part) ≡ None → AreSound len size address (with_put len b number offset part)
    pub fix : (number n : ℕ) → fix_refusal len b number n ≡ None → AreSound len size address (with_fixed b number n)
    pub new : (number : ℕ) (content : O) → ready_refusal len b number ≡ None → file_refusal size address b number (address content) ≡ None → object_at address b (address content) ≡ None
        → ((u : ModelOwnedUpload P) → upload_at b number ≡ Some u → size content ≡ length_of u.upload) → AreSound len size address (with_filed b number content)
    pub known : (number : ℕ) (at : List ℕ) → file_refusal size address b number at ≡ None → AreSound len size address (with_joined address b number at)
    pub abort : (number : ℕ) → abort_refusal b number ≡ None → AreSound len size address (without_upload b number)
    pub forget : (tenant : ℕ) (at : List ℕ) → forget_refusal address b tenant at ≡ None → AreSound len size address (with_forgotten address b tenant at)

  abbrev pub StaySound : Type 0
  StaySound = (b : ModelBooks P O) → AreSound len size address b → StaysSound b
