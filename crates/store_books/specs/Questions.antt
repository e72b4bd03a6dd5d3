-- What questions report about the books.
use Rattle.std.specs.Prelude.{◌==◌, ℕ, List, [], Result, Ok, Err, filter, length, map, if◌then◌else◌}
use Rattle.std.specs.List.{range_with_len}
use Rattle.std.specs.Option.{option_map_or}
use Rattle.store_books.specs.declared.books.UploadStatus.{UploadStatus}
use Rattle.store_books.specs.declared.books.Usage.{Usage}
use Rattle.store_books.specs.declared.refusal.Refusal.{Refusal}
use Rattle.store_books.specs.declared.refusal.Refusal.TheVariants.{NoTenant}
use Rattle.store_books.specs.Books.{ModelOwnedUpload, ModelBooks, Filed, is_absent, is_held_by, limit_of, object_among, reserved_of, use_of}
use Rattle.store_upload.specs.Uploads.{held_bytes}

module _ {P O : Type 0} (size : O → ℕ) where
  -- a tenant's use, reservation and limit
  abbrev pub usage_of : ModelBooks P O → ℕ → Usage
  usage_of b tenant = record { used = use_of size b tenant; reserved = reserved_of b tenant; limit = limit_of b tenant }

  abbrev pub usage_in : ModelBooks P O → ℕ → Result Usage Refusal
  usage_in b tenant = if is_absent b tenant then Err NoTenant else Ok (usage_of b tenant)

  -- those of all tenants, by number
  abbrev pub usages_of : ModelBooks P O → List Usage
  usages_of b = map (usage_of b) (range_with_len 0 (length b.tenant_limits))

module _ {P : Type 0} (len : P → ℕ) where
  -- what is reported about an open upload
  abbrev pub open_upload_of : ℕ × ModelOwnedUpload P → UploadStatus
  open_upload_of e = record { upload = e.0; bound = e.1.upload.plan.bound; end = e.1.upload.end; held = held_bytes len e.1.upload.parts }

  -- the tenant's among open uploads, in their order
  abbrev pub open_uploads : ℕ → List (ℕ × ModelOwnedUpload P) → List UploadStatus
  open_uploads tenant uploads = map open_upload_of (filter (λ e. e.1.tenant == tenant) uploads)

module _ {O : Type 0} (size : O → ℕ) (address : O → List ℕ) where
  -- the addresses and lengths of the objects that the tenant holds, in their order
  abbrev pub listed : ℕ → List (Filed O) → List (List ℕ × ℕ)
  listed tenant objects = map (λ o. (address o.content, size o.content)) (filter (is_held_by tenant) objects)

module _ {O : Type 0} (address : O → List ℕ) where
  -- the tenants that hold the object at the address, by number
  abbrev pub holders_at : List (Filed O) → List ℕ → List ℕ
  holders_at objects at = option_map_or (λ o. o.holders) (object_among address objects at) []
