-- The books of a store: tenants, open uploads and objects, for parts and objects of any type. `len` is the number of bytes of a part,
-- `size` that of an object, and `address` is the address of an object.
use Rattle.std.specs.Prelude.{◌≡◌, ◌+◌, ◌-◌, ◌*◌, ◌^◌, ◌<◌, ◌≤◌, ◌==◌, ℕ, Bool, false, List, [], ◌∷◌, Option, length, map, if◌then◌else◌, nat_le, sum_by}
use Rattle.std.specs.BTreeMap.{is_at}
use Rattle.std.specs.List.{AllByRecursion, list_any, slice_index_or}
use Rattle.std.specs.Map.{keys_of, lookup, values_of}
use Rattle.std.specs.Ordering.{nat_cmp}
use Rattle.std.specs.Str.{bytes_eq}
use Rattle.store_books.specs.declared.totals.Totals.{Totals}
use Rattle.store_upload.specs.Uploads.{IsUpload, ModelUpload, held_bytes, length_of, max_part_bytes}

-- the maximum limit of a tenant in bytes, and the maximum numbers of tenants, entries, and workers of an upload
abbrev pub max_limit : ℕ
max_limit = 2 ^ 46

abbrev pub max_tenants : ℕ
max_tenants = 2 ^ 16

abbrev pub max_entries : ℕ
max_entries = 2 ^ 32

abbrev pub max_workers : ℕ
max_workers = 16

-- an open upload, and the tenant that began it
pub record ModelOwnedUpload (P : Type 0) : Type 0 where
  pub tenant : ℕ
  pub upload : ModelUpload P

-- An object, the tenants that hold it, by number, and how many commands were accepted before it was filed: that is the number of the seal's
-- entry in the journal.
pub record Filed (O : Type 0) : Type 0 where
  pub content : O
  pub holders : List ℕ
  pub number : ℕ

pub record ModelBooks (P O : Type 0) : Type 0 where
  -- the maximum numbers of tenants, entries, and workers of an upload
  pub max_tenants : ℕ
  pub max_entries : ℕ
  pub max_workers : ℕ
  -- the tenants' limits, by number
  pub tenant_limits : List ℕ
  -- the number of uploads begun
  pub begun : ℕ
  -- the open uploads with their numbers, by number
  pub uploads : List (ℕ × ModelOwnedUpload P)
  -- the objects, in filing order
  pub objects : List (Filed O)
  -- the number of commands accepted, each of which has an entry in the journal
  pub entry_count : ℕ

-- empty books
abbrev pub empty_books : {P O : Type 0} → ℕ → ℕ → ℕ → ModelBooks P O
empty_books tenants entries workers = record { max_tenants = tenants; max_entries = entries; max_workers = workers; tenant_limits = []; begun = 0; uploads = []; objects = []; entry_count = 0 }

-- the test of an upload's number
abbrev pub is_number : ℕ → ℕ → Bool
is_number number = is_at (nat_cmp number)

-- the bytes that a tenant reserves by an open upload, and that it uses by an object
abbrev pub reserved_by : {P : Type 0} → ℕ → ModelOwnedUpload P → ℕ
reserved_by tenant u = if u.tenant == tenant then length_of u.upload else 0

abbrev pub is_held_by : {O : Type 0} → ℕ → Filed O → Bool
is_held_by tenant o = list_any (λ h. h == tenant) o.holders

abbrev pub use_by : {O : Type 0} → (O → ℕ) → ℕ → Filed O → ℕ
use_by size tenant o = if is_held_by tenant o then size o.content else 0

module _ {P O : Type 0} where
  abbrev pub upload_at : ModelBooks P O → ℕ → Option (ModelOwnedUpload P)
  upload_at b number = lookup (is_number number) b.uploads

  abbrev pub limit_of : ModelBooks P O → ℕ → ℕ
  limit_of b tenant = slice_index_or b.tenant_limits tenant 0

  abbrev pub is_absent : ModelBooks P O → ℕ → Bool
  is_absent b tenant = nat_le (length b.tenant_limits) tenant

  abbrev pub is_full : ModelBooks P O → Bool
  is_full b = nat_le b.max_entries b.entry_count

  -- the sum of the lengths of the tenant's open uploads
  abbrev pub reserved_of : ModelBooks P O → ℕ → ℕ
  reserved_of b tenant = sum_by (reserved_by tenant) (values_of b.uploads)

  -- the number of parts that open uploads hold
  abbrev pub parts_of : ModelBooks P O → ℕ
  parts_of b = sum_by (λ u. length u.upload.parts) (values_of b.uploads)

module _ {P O : Type 0} (size : O → ℕ) where
  -- the sum of the lengths of the objects that the tenant holds
  abbrev pub use_of : ModelBooks P O → ℕ → ℕ
  use_of b tenant = sum_by (use_by size tenant) b.objects

  abbrev pub in_use : ModelBooks P O → ℕ → ℕ
  in_use b tenant = use_of b tenant + reserved_of b tenant

  -- the limit minus use and reservation
  abbrev pub free_of : ModelBooks P O → ℕ → ℕ
  free_of b tenant = limit_of b tenant - in_use b tenant

  abbrev pub object_bytes_of : ModelBooks P O → ℕ
  object_bytes_of b = sum_by (λ o. size o.content) b.objects

module _ {P O : Type 0} (len : P → ℕ) where
  abbrev pub held_bytes_of : ModelBooks P O → ℕ
  held_bytes_of b = sum_by (λ u. held_bytes len u.upload.parts) (values_of b.uploads)

module _ {P O : Type 0} (len : P → ℕ) (size : O → ℕ) where
  abbrev pub totals_of : ModelBooks P O → Totals
  totals_of b = record {
    objects = length b.objects;
    object_bytes = object_bytes_of size b;
    uploads = length b.uploads;
    held_bytes = held_bytes_of len b;
    parts = parts_of b;
  }

module _ {O : Type 0} (address : O → List ℕ) where
  -- the objects with their addresses
  abbrev pub addressed : List (Filed O) → List (List ℕ × Filed O)
  addressed objects = map (λ o. (address o.content, o)) objects

  -- their addresses
  abbrev pub addresses : List (Filed O) → List (List ℕ)
  addresses objects = keys_of (addressed objects)

  -- the object at the address
  abbrev pub object_among : List (Filed O) → List ℕ → Option (Filed O)
  object_among objects at = lookup (bytes_eq at) (addressed objects)

module _ {P O : Type 0} (address : O → List ℕ) where
  abbrev pub object_at : ModelBooks P O → List ℕ → Option (Filed O)
  object_at b at = object_among address b.objects at

-- ---- invariants of books

-- an open upload among n tenants and b uploads begun
pub record IsOwnedUpload {P : Type 0} (len : P → ℕ) (n b : ℕ) (e : ℕ × ModelOwnedUpload P) : Type 0 where
  pub number : e.0 < b
  pub tenant : e.1.tenant < n
  pub upload : IsUpload len e.1.upload

-- ascending numbers, from the first on
abbrev pub IsRisingFrom : ℕ → List ℕ → Type 0
IsRisingFrom least [] = Unit {0}
IsRisingFrom least (n ∷ others) = (least ≤ n) × IsRisingFrom (n + 1) others

-- an object among n tenants: its holders are tenants, each once, by number
pub record IsFiledAmong {O : Type 0} (n : ℕ) (o : Filed O) : Type 0 where
  pub tenants : AllByRecursion (λ h. h < n) o.holders
  pub rising : IsRisingFrom 0 o.holders

-- no two addresses are equal
abbrev pub AreDistinct : List (List ℕ) → Type 0
AreDistinct [] = Unit {0}
AreDistinct (a ∷ others) = AllByRecursion (λ b. bytes_eq b a ≡ false) others × AreDistinct others

pub record AreSound {P O : Type 0} (len : P → ℕ) (size : O → ℕ) (address : O → List ℕ) (b : ModelBooks P O) : Type 0 where
  pub few_tenants : b.max_tenants ≤ max_tenants
  pub few_entries : b.max_entries ≤ max_entries
  pub tenants : length b.tenant_limits ≤ b.max_tenants
  pub entry_count : b.entry_count ≤ b.max_entries
  pub begun : b.begun ≤ b.entry_count
  pub uploads : AllByRecursion (IsOwnedUpload len (length b.tenant_limits) b.begun) b.uploads
  -- each number occurs once, in order
  pub sorted : IsRisingFrom 0 (keys_of b.uploads)
  pub objects : AllByRecursion (IsFiledAmong (length b.tenant_limits)) b.objects
  pub apart : AreDistinct (addresses address b.objects)
  -- use and reservation are within the limit, which is at most `max_limit`
  pub within : (n : ℕ) → n < length b.tenant_limits → in_use size b n ≤ limit_of b n
  pub limited : (n : ℕ) → n < length b.tenant_limits → limit_of b n ≤ max_limit
  -- no more is stored than was put
  pub stored : object_bytes_of size b + held_bytes_of len b ≤ max_part_bytes * b.entry_count
  pub parts : parts_of b ≤ b.entry_count
