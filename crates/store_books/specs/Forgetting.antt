-- Books reduced to lengths and labels: of parts their lengths remain, of objects their addresses and their lengths.
use Rattle.std.specs.Prelude.{◌≡◌, ℕ, List, map}
use Rattle.store_books.specs.declared.content.ObjectLabel.{ObjectLabel}
use Rattle.store_books.specs.Books.{ModelOwnedUpload, ModelBooks, Filed, totals_of}
use Rattle.store_books.specs.Commands.{abort_refusal, begin_refusal, fix_refusal, file_refusal, forget_refusal, limit_refusal, put_refusal, ready_refusal, tenant_refusal, with_begun, with_filed, with_fixed, with_forgotten, with_joined, with_limit, with_put, with_tenant, without_upload}
use Rattle.store_books.specs.Bare.{Bare, as_it_is, label_address, label_len}
use Rattle.store_upload.specs.Uploads.{ModelUpload, UploadPlan}

module _ {P : Type 0} (len : P → ℕ) where
  abbrev pub bare_upload : ModelUpload P → ModelUpload ℕ
  bare_upload u = record { plan = u.plan; end = u.end; parts = map (λ p. (p.0, len p.1)) u.parts }

  abbrev pub bare_begun : ModelOwnedUpload P → ModelOwnedUpload ℕ
  bare_begun u = record { tenant = u.tenant; upload = bare_upload u.upload }

module _ {O : Type 0} (size : O → ℕ) (address : O → List ℕ) where
  abbrev pub label_of : O → ObjectLabel
  label_of o = record { address = address o; len = size o }

  abbrev pub bare_object : Filed O → Filed ObjectLabel
  bare_object o = record { content = label_of o.content; holders = o.holders; number = o.number }

module _ {P O : Type 0} (len : P → ℕ) (size : O → ℕ) (address : O → List ℕ) where
  abbrev pub bare : ModelBooks P O → Bare
  bare b = record {
    max_tenants = b.max_tenants;
    max_entries = b.max_entries;
    max_workers = b.max_workers;
    tenant_limits = b.tenant_limits;
    begun = b.begun;
    uploads = map (λ e. (e.0, bare_begun len e.1)) b.uploads;
    objects = map (bare_object size address) b.objects;
    entry_count = b.entry_count;
  }

  -- each refusal can be determined without parts and objects
  pub record SeesRefusals (b : ModelBooks P O) : Type 0 where
    pub tenant : (limit : ℕ) → tenant_refusal (bare b) limit ≡ tenant_refusal b limit
    pub limit : (tenant limit : ℕ) → limit_refusal label_len (bare b) tenant limit ≡ limit_refusal size b tenant limit
    pub begin : (tenant bound : ℕ) → begin_refusal label_len (bare b) tenant bound ≡ begin_refusal size b tenant bound
    pub put : (number offset n : ℕ) → put_refusal as_it_is (bare b) number offset n ≡ put_refusal len b number offset n
    pub fix : (number n : ℕ) → fix_refusal as_it_is (bare b) number n ≡ fix_refusal len b number n
    pub ready : (number : ℕ) → ready_refusal as_it_is (bare b) number ≡ ready_refusal len b number
    pub file : (number : ℕ) (at : List ℕ) → file_refusal label_len label_address (bare b) number at ≡ file_refusal size address b number at
    pub abort : (number : ℕ) → abort_refusal (bare b) number ≡ abort_refusal b number
    pub forget : (tenant : ℕ) (at : List ℕ) → forget_refusal label_address (bare b) tenant at ≡ forget_refusal address b tenant at

  -- and so can the result of each command
  pub record SeesCommands (b : ModelBooks P O) : Type 0 where
    pub tenant : (limit : ℕ) → bare (with_tenant b limit) ≡ with_tenant (bare b) limit
    pub limit : (tenant limit : ℕ) → bare (with_limit b tenant limit) ≡ with_limit (bare b) tenant limit
    pub begin : (tenant : ℕ) (plan : UploadPlan) → bare (with_begun b tenant plan) ≡ with_begun (bare b) tenant plan
    pub put : (number offset : ℕ) (part : P) → bare (with_put len b number offset part) ≡ with_put as_it_is (bare b) number offset (len part)
    pub fix : (number n : ℕ) → bare (with_fixed b number n) ≡ with_fixed (bare b) number n
    pub new : (number : ℕ) (content : O) → bare (with_filed b number content) ≡ with_filed (bare b) number (label_of size address content)
    pub known : (number : ℕ) (at : List ℕ) → bare (with_joined address b number at) ≡ with_joined label_address (bare b) number at
    pub abort : (number : ℕ) → bare (without_upload b number) ≡ without_upload (bare b) number
    pub forget : (tenant : ℕ) (at : List ℕ) → bare (with_forgotten address b tenant at) ≡ with_forgotten label_address (bare b) tenant at

  -- refusals, results and totals can be determined without parts and objects
  pub record Forgets : Type 0 where
    pub refusals : (b : ModelBooks P O) → SeesRefusals b
    pub commands : (b : ModelBooks P O) → SeesCommands b
    pub totals : (b : ModelBooks P O) → totals_of as_it_is label_len (bare b) ≡ totals_of len size b
