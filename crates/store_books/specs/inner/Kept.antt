-- Definitions for private functions, in addition to specs/Kept.
use Rattle.std.specs.Prelude.{◌+◌, ◌-◌, ◌^◌, ◌<◌, ◌≤◌, ℕ, length, slice_set}
use Rattle.store_books.specs.declared.accounts.Amounts.{Amounts}
use Rattle.store_books.specs.declared.tenant.Tenant.{Tenant}
use Rattle.store_books.specs.Kept.{ModelAccounts, tenant_at}
use Rattle.store_upload.specs.Uploads.{ModelUpload, held_bytes, length_of}

-- a tenant whose sums change
abbrev pub changed_tenant : Tenant → Amounts → Amounts → Tenant
changed_tenant t less more = record { limit = t.limit; used = t.used - less.used + more.used; reserved = t.reserved - less.reserved + more.reserved }

-- the accounts after a command of the tenant
abbrev pub changed : ModelAccounts → ℕ → Amounts → Amounts → ModelAccounts
changed a t less more = record {
  tenants = slice_set a.tenants t (changed_tenant (tenant_at a.tenants t) less more);
  object_bytes = a.object_bytes - less.object_bytes + more.object_bytes;
  held = a.held - less.held + more.held;
  parts = a.parts - less.parts + more.parts;
  entry_count = a.entry_count + 1;
}

-- an amount is subtracted from one that is no smaller, and then one is added, with a sum below 2 ^ 64
pub record CanChange (n less more : ℕ) : Type 0 where
  pub low : less ≤ n
  pub most : n - less + more < 2 ^ 64

pub record HasRoom (a : ModelAccounts) (t : ℕ) (less more : Amounts) : Type 0 where
  pub there : t < length a.tenants
  pub used : CanChange (tenant_at a.tenants t).used less.used more.used
  pub reserved : CanChange (tenant_at a.tenants t).reserved less.reserved more.reserved
  pub object_bytes : CanChange a.object_bytes less.object_bytes more.object_bytes
  pub held : CanChange a.held less.held more.held
  pub parts : CanChange a.parts less.parts more.parts
  pub entry_count : a.entry_count + 1 < 2 ^ 64

-- what an open upload adds to the sums
abbrev pub held_by : {P : Type 0} → (P → ℕ) → ModelUpload P → Amounts
held_by len u = record { used = 0; reserved = length_of u; object_bytes = 0; held = held_bytes len u.parts; parts = length u.parts }
