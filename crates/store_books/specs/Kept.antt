-- The books as the code keeps them: with running sums.
use Rattle.std.specs.Prelude.{◌≡◌, ◌<◌, ◌≤◌, ℕ, List, length, map}
use Rattle.std.specs.List.{slice_index_or}
use Rattle.store_books.specs.declared.accounts.Accounts.{Accounts}
use Rattle.store_books.specs.declared.limits.Limits.{Limits}
use Rattle.store_books.specs.declared.tenant.Tenant.{Tenant}
use Rattle.store_books.specs.Books.{AreSound, ModelOwnedUpload, ModelBooks, Filed, held_bytes_of, object_bytes_of, parts_of, reserved_of, use_of}

abbrev pub limits_of : List Tenant → List ℕ
limits_of tenants = map (λ t. t.limit) tenants

abbrev pub no_tenant : Tenant
no_tenant = record { limit = 0; used = 0; reserved = 0 }

abbrev pub tenant_at : List Tenant → ℕ → Tenant
tenant_at tenants n = slice_index_or tenants n no_tenant

abbrev pub books_of : {P O : Type 0} → Limits → List Tenant → ℕ → List (ℕ × ModelOwnedUpload P) → List (Filed O) → ℕ → ModelBooks P O
books_of most tenants begun uploads objects entry_count = record {
  max_tenants = most.tenants;
  max_entries = most.entries;
  max_workers = most.workers;
  tenant_limits = limits_of tenants;
  begun = begun;
  uploads = uploads;
  objects = objects;
  entry_count = entry_count;
}

-- the tenant's running sums are the sums
pub record IsSummed {P O : Type 0} (size : O → ℕ) (b : ModelBooks P O) (n : ℕ) (t : Tenant) : Type 0 where
  pub used : t.used ≡ use_of size b n
  pub reserved : t.reserved ≡ reserved_of b n

pub record AreKept {P O : Type 0} (len : P → ℕ) (size : O → ℕ) (address : O → List ℕ) (b : ModelBooks P O) (tenants : List Tenant) (filed object_bytes held parts : ℕ) : Type 0 where
  pub sound : AreSound len size address b
  pub sums : (n : ℕ) → n < length tenants → IsSummed size b n (tenant_at tenants n)
  -- a filing has the number of its seal
  pub filings : filed ≤ b.entry_count
  pub object_bytes_is : object_bytes ≡ object_bytes_of size b
  pub held_is : held ≡ held_bytes_of len b
  pub parts_is : parts ≡ parts_of b

-- objects in filing order, and a number above those of all filings so far
pub record ModelCatalog (O : Type 0) : Type 0 where
  pub objects : List (Filed O)
  pub filings : ℕ

-- the tenants, and the running sums
pub record ModelAccounts : Type 0 where
  pub tenants : List Tenant
  pub object_bytes : ℕ
  pub held : ℕ
  pub parts : ℕ
  pub entry_count : ℕ

abbrev pub accounts_of : Accounts → ModelAccounts
accounts_of a = record { tenants = a.tenants.items; object_bytes = a.object_bytes; held = a.held; parts = a.parts; entry_count = a.entry_count }

-- the books as the code keeps them
pub record KeptBooks (P O : Type 0) : Type 0 where
  pub limits : Limits
  pub accounts : ModelAccounts
  pub begun : ℕ
  pub uploads : List (ℕ × ModelOwnedUpload P)
  pub catalog : ModelCatalog O

abbrev pub view_of : {P O : Type 0} → KeptBooks P O → ModelBooks P O
view_of k = books_of k.limits k.accounts.tenants k.begun k.uploads k.catalog.objects k.accounts.entry_count

-- they are sound, and the sums are those of the uploads and the objects
pub record IsKept {P O : Type 0} (len : P → ℕ) (size : O → ℕ) (address : O → List ℕ) (k : KeptBooks P O) : Type 0 where
  pub all : AreKept len size address (view_of k) k.accounts.tenants k.catalog.filings k.accounts.object_bytes k.accounts.held k.accounts.parts
