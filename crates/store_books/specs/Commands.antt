-- Commands on the books: why each is refused, the first matching reason, and its result if it is accepted.
use Rattle.std.specs.Prelude.{◌+◌, ◌==◌, ◌&&◌, ℕ, Bool, true, false, not, List, [], ◌∷◌, ◌++◌, Option, Some, None, length, if◌then◌else◌, nat_le, nat_lt, option_map, slice_set}
use Rattle.std.specs.Map.{remove_entry, set_value, values_of}
use Rattle.std.specs.Option.{option_map_or, option_or}
use Rattle.std.specs.Str.{bytes_eq}
use Rattle.store_books.specs.declared.refusal.Refusal.{Refusal}
use Rattle.store_books.specs.declared.refusal.Refusal.TheVariants.{BelowUse, Incomplete, JournalFull, LimitTooLarge, NoTenant, NoUpload, NotFixed, NotHeld, OverQuota, Overlap, PastLast, TenantsFull, TooLong, WrongPlan, NoMemory}
use Rattle.store_upload.specs.declared.refusal.AddFault.{AddFault}
use Rattle.store_upload.specs.declared.refusal.AddFault.TheVariants as add
use Rattle.store_upload.specs.declared.refusal.FinishFault.{FinishFault}
use Rattle.store_upload.specs.declared.refusal.FinishFault.TheVariants as finish
use Rattle.store_upload.specs.declared.refusal.FixFault.{FixFault}
use Rattle.store_upload.specs.declared.refusal.FixFault.TheVariants as fix
use Rattle.store_upload.specs.Uploads.{UploadPlan, finish_fault, fix_fault, fixed_at, length_of, max_bytes, new_upload, place_fault, with_more}
use Rattle.store_books.specs.Books.{ModelOwnedUpload, ModelBooks, Filed, addressed, free_of, in_use, is_absent, is_full, is_held_by, is_number, limit_of, max_limit, object_at, upload_at}

-- the store's refusals for those of an upload
abbrev pub add_refused : AddFault → Refusal
add_refused add.WrongPlan = WrongPlan
add_refused (add.Overlap at) = Overlap at
add_refused (add.PastLast end) = PastLast end
add_refused add.NoMemory = NoMemory

abbrev pub fix_refused : FixFault → Refusal
fix_refused fix.TooLong = TooLong
fix_refused (fix.PastLast end) = PastLast end

abbrev pub finish_refused : FinishFault → Refusal
finish_refused finish.NotFixed = NotFixed
finish_refused (finish.Incomplete missing) = Incomplete missing

module _ {P O : Type 0} where
  -- the last reason of each command
  abbrev pub full_refusal : ModelBooks P O → Option Refusal
  full_refusal b = if is_full b then Some JournalFull else None

  -- why a command on the open upload of the number is refused
  abbrev pub on_upload : ModelBooks P O → ℕ → (ModelOwnedUpload P → Option Refusal) → Option Refusal
  on_upload b number rest = option_map_or rest (upload_at b number) (Some NoUpload)

  -- ---- tenants

  abbrev pub tenant_refusal : ModelBooks P O → ℕ → Option Refusal
  tenant_refusal b limit =
      if nat_le b.max_tenants (length b.tenant_limits) then Some TenantsFull
      else if nat_lt max_limit limit then Some LimitTooLarge
      else full_refusal b

  -- one more tenant, under the next number
  abbrev pub with_tenant : ModelBooks P O → ℕ → ModelBooks P O
  with_tenant b limit = record b { tenant_limits = b.tenant_limits ++ limit ∷ []; entry_count = b.entry_count + 1 }

  abbrev pub with_limit : ModelBooks P O → ℕ → ℕ → ModelBooks P O
  with_limit b tenant limit = record b { tenant_limits = slice_set b.tenant_limits tenant limit; entry_count = b.entry_count + 1 }

module _ {P O : Type 0} (size : O → ℕ) where
  abbrev pub limit_refusal : ModelBooks P O → ℕ → ℕ → Option Refusal
  limit_refusal b tenant limit =
      if is_absent b tenant then Some NoTenant
      else if nat_lt max_limit limit then Some LimitTooLarge
      else if nat_lt limit (in_use size b tenant) then Some (BelowUse (in_use size b tenant))
      else full_refusal b

  -- ---- uploads

  -- of an upload with that bound
  abbrev pub begin_refusal : ModelBooks P O → ℕ → ℕ → Option Refusal
  begin_refusal b tenant bound =
      if is_absent b tenant then Some NoTenant
      else if nat_lt max_bytes bound then Some TooLong
      else if nat_lt (limit_of b tenant) (in_use size b tenant + bound) then Some (OverQuota (free_of size b tenant))
      else full_refusal b

module _ {P O : Type 0} where
  -- one more upload, under the next number
  abbrev pub with_begun : ModelBooks P O → ℕ → UploadPlan → ModelBooks P O
  with_begun b tenant plan = record b {
    begun = b.begun + 1;
    uploads = b.uploads ++ (b.begun, record { tenant = tenant; upload = new_upload plan }) ∷ [];
    entry_count = b.entry_count + 1;
  }

  -- the upload of the number is replaced
  abbrev pub with_upload : ModelBooks P O → ℕ → ModelOwnedUpload P → ModelBooks P O
  with_upload b number u = record b { uploads = set_value (is_number number) b.uploads u; entry_count = b.entry_count + 1 }

  -- the upload of the number is removed
  abbrev pub without_upload : ModelBooks P O → ℕ → ModelBooks P O
  without_upload b number = record b { uploads = remove_entry (is_number number) b.uploads; entry_count = b.entry_count + 1 }

  abbrev pub abort_refusal : ModelBooks P O → ℕ → Option Refusal
  abort_refusal b number = on_upload b number (λ u. full_refusal b)

  -- the end of the upload of the number is fixed
  abbrev pub with_end : ModelBooks P O → ℕ → ℕ → Option (ModelOwnedUpload P) → ModelBooks P O
  with_end b number n None = b
  with_end b number n (Some u) = with_upload b number (record u { upload = fixed_at u.upload n })

  abbrev pub with_fixed : ModelBooks P O → ℕ → ℕ → ModelBooks P O
  with_fixed b number n = with_end b number n (upload_at b number)

module _ {P O : Type 0} (len : P → ℕ) where
  -- of n bytes that fit the upload's plan
  abbrev pub put_refusal : ModelBooks P O → ℕ → ℕ → ℕ → Option Refusal
  put_refusal b number offset n = on_upload b number (λ u. option_or (option_map add_refused (place_fault len u.upload offset n)) (full_refusal b))

  -- the part is added to the upload of the number
  abbrev pub with_part : ModelBooks P O → ℕ → ℕ → P → Option (ModelOwnedUpload P) → ModelBooks P O
  with_part b number offset part None = b
  with_part b number offset part (Some u) = with_upload b number (record u { upload = with_more len u.upload offset part })

  abbrev pub with_put : ModelBooks P O → ℕ → ℕ → P → ModelBooks P O
  with_put b number offset part = with_part b number offset part (upload_at b number)

  abbrev pub fix_refusal : ModelBooks P O → ℕ → ℕ → Option Refusal
  fix_refusal b number n = on_upload b number (λ u. option_or (option_map fix_refused (fix_fault len u.upload n)) (full_refusal b))

  -- ---- objects

  -- of a seal, before its content is read: the upload is not open, its end is not fixed, or it is not complete
  abbrev pub ready_refusal : ModelBooks P O → ℕ → Option Refusal
  ready_refusal b number = on_upload b number (λ u. option_map finish_refused (finish_fault len u.upload))

-- the tenant inserted among the holders, by number
unfoldable pub with_holder : ℕ → List ℕ → List ℕ
with_holder tenant [] = tenant ∷ []
with_holder tenant (h ∷ holders) =
    elim (nat_lt tenant h) [
      | true ↦ tenant ∷ h ∷ holders
      | false ↦ elim (tenant == h) [ true ↦ h ∷ holders | false ↦ h ∷ with_holder tenant holders ]
    ]

-- the holders without the tenant
unfoldable pub without_holder : ℕ → List ℕ → List ℕ
without_holder tenant [] = []
without_holder tenant (h ∷ holders) = elim (tenant == h) [ true ↦ holders | false ↦ h ∷ without_holder tenant holders ]

module _ {O : Type 0} (address : O → List ℕ) where
  -- the objects with these holders of the object at the address, or without it if there are none; the others keep their order
  abbrev pub with_holders : List (Filed O) → List ℕ → Filed O → List ℕ → List (Filed O)
  with_holders objects at object [] = values_of (remove_entry (bytes_eq at) (addressed address objects))
  with_holders objects at object (h ∷ holders) = values_of (set_value (bytes_eq at) (addressed address objects) (record object { holders = h ∷ holders }))

module _ {P O : Type 0} (size : O → ℕ) (address : O → List ℕ) where
  -- the filed object is not held by the tenant yet, and is longer than the upload's length and the free bytes together
  abbrev pub is_over : ModelBooks P O → ModelOwnedUpload P → Filed O → Bool
  is_over b u object = not (is_held_by u.tenant object) && nat_lt (length_of u.upload + free_of size b u.tenant) (size object.content)

  -- of a complete upload, if this is filed at its content's address
  abbrev pub join_refusal : ModelBooks P O → ModelOwnedUpload P → Option (Filed O) → Option Refusal
  join_refusal b u None = full_refusal b
  join_refusal b u (Some object) = if is_over b u object then Some (OverQuota (free_of size b u.tenant)) else full_refusal b

  -- of the seal of a complete upload whose content has this address
  abbrev pub file_refusal : ModelBooks P O → ℕ → List ℕ → Option Refusal
  file_refusal b number at = on_upload b number (λ u. join_refusal b u (object_at address b at))

module _ {P O : Type 0} where
  -- the upload is removed, and its content is filed last
  abbrev pub with_new : ModelBooks P O → ℕ → O → Option (ModelOwnedUpload P) → ModelBooks P O
  with_new b number content None = b
  with_new b number content (Some u) = record (without_upload b number) { objects = b.objects ++ record { content = content; holders = u.tenant ∷ []; number = b.entry_count } ∷ [] }

  abbrev pub with_filed : ModelBooks P O → ℕ → O → ModelBooks P O
  with_filed b number content = with_new b number content (upload_at b number)

module _ {P O : Type 0} (address : O → List ℕ) where
  -- the upload is removed, and its tenant joins the holders of the object at the address
  abbrev pub with_known : ModelBooks P O → ℕ → List ℕ → Option (ModelOwnedUpload P) → Option (Filed O) → ModelBooks P O
  with_known b number at None object = b
  with_known b number at (Some u) None = b
  with_known b number at (Some u) (Some object) = record (without_upload b number) { objects = with_holders address b.objects at object (with_holder u.tenant object.holders) }

  abbrev pub with_joined : ModelBooks P O → ℕ → List ℕ → ModelBooks P O
  with_joined b number at = with_known b number at (upload_at b number) (object_at address b at)

  -- the tenant is removed from the holders of the object at the address; an object without holders is removed
  abbrev pub with_left : ModelBooks P O → ℕ → List ℕ → Option (Filed O) → ModelBooks P O
  with_left b tenant at None = b
  with_left b tenant at (Some object) = record b { objects = with_holders address b.objects at object (without_holder tenant object.holders); entry_count = b.entry_count + 1 }

  abbrev pub with_forgotten : ModelBooks P O → ℕ → List ℕ → ModelBooks P O
  with_forgotten b tenant at = with_left b tenant at (object_at address b at)

  -- why a question on the object at the address that the tenant holds is refused
  abbrev pub holding_refusal : ModelBooks P O → ℕ → List ℕ → Option Refusal
  holding_refusal b tenant at =
      if is_absent b tenant then Some NoTenant
      else option_map_or (λ o. if is_held_by tenant o then None else Some NotHeld) (object_at address b at) (Some NotHeld)

  abbrev pub forget_refusal : ModelBooks P O → ℕ → List ℕ → Option Refusal
  forget_refusal b tenant at = option_or (holding_refusal b tenant at) (full_refusal b)
