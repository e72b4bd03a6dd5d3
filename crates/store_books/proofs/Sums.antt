-- What the books keep after a command of one tenant.
use Rattle.std.proofs.Common.{◌≡◌, ◌∙◌, ◌+◌, ◌^◌, ◌<◌, ◌≤◌, ℕ, List, refl, sym, arith, inl, inr, length, get_or, subst}
use Rattle.std.specs.Prelude.{sum_by}
use Rattle.std.specs.List.{AllByRecursion}
use Rattle.std.specs.Map.{keys_of, values_of}
use Rattle.std.proofs.Math.Seq.{map-set_same}
use Rattle.std.proofs.Math.ListN.{get_or-map}
use Rattle.std.proofs.lemmas.Bool.{cases_eq}
use Rattle.std.proofs.lemmas.List.{get_or-set_other, get_or-set_same, length-map, length-set}
use Rattle.store_books.specs.declared.accounts.Amounts.{Amounts}
use Rattle.store_books.specs.declared.tenant.Tenant.{Tenant}
use Rattle.store_books.specs.Books.{AreDistinct, AreSound, ModelOwnedUpload, ModelBooks, Filed, IsOwnedUpload, IsFiledAmong, IsRisingFrom, addresses, held_bytes_of, in_use, limit_of, max_limit, object_bytes_of, parts_of, reserved_by, reserved_of, use_by, use_of}
use Rattle.store_books.specs.Kept.{IsKept, IsSummed, KeptBooks, ModelAccounts, ModelCatalog, limits_of, no_tenant, tenant_at, view_of}
use Rattle.store_books.specs.inner.Kept.{HasRoom, changed, changed_tenant}
use Rattle.store_upload.specs.Uploads.{held_bytes}

-- ---- tenants

limit_at : (tenants : List Tenant) (t : ℕ) → get_or (limits_of tenants) t 0 ≡ (tenant_at tenants t).limit
limit_at tenants t = get_or-map (λ (t : Tenant). t.limit) tenants t no_tenant

pub count_is : (tenants : List Tenant) → length (limits_of tenants) ≡ length tenants
count_is tenants = length-map tenants (λ (t : Tenant). t.limit)

-- ---- sums

-- a sum from which `less` is subtracted, and to which `more` is added
pub record Changes (less more before after : ℕ) : Type 0 where
  pub is : after + less ≡ before + more
  pub low : less ≤ before

pub same : {n : ℕ} → Changes 0 0 n n
same = record { is = refl; low = omega arith }

module _ {P O : Type 0} (len : P → ℕ) where
  -- the open uploads after a command of the tenant t
  pub record MovesUploads (t : ℕ) (less more : Amounts) (b : ModelBooks P O) (begun : ℕ) (us : List (ℕ × ModelOwnedUpload P)) : Type 0 where
    pub few : begun ≤ b.begun + 1
    pub uploads : AllByRecursion (IsOwnedUpload len (length b.tenant_limits) begun) us
    pub sorted : IsRisingFrom 0 (keys_of us)
    pub reserved : Changes less.reserved more.reserved (reserved_of b t) (sum_by (reserved_by t) (values_of us))
    pub others : (q : ℕ) → (t ≡ q → ⊥) → sum_by (reserved_by q) (values_of us) ≡ reserved_of b q
    pub held : Changes less.held more.held (held_bytes_of len b) (sum_by (λ u. held_bytes len u.upload.parts) (values_of us))
    pub parts : Changes less.parts more.parts (parts_of b) (sum_by (λ u. length u.upload.parts) (values_of us))

module _ {P O : Type 0} (size : O → ℕ) (address : O → List ℕ) where
  -- the objects after a command of the tenant t
  pub record MovesObjects (t : ℕ) (less more : Amounts) (b : ModelBooks P O) (os : List (Filed O)) : Type 0 where
    pub objects : AllByRecursion (IsFiledAmong (length b.tenant_limits)) os
    pub apart : AreDistinct (addresses address os)
    pub used : Changes less.used more.used (use_of size b t) (sum_by (use_by size t) os)
    pub others : (q : ℕ) → (t ≡ q → ⊥) → sum_by (use_by size q) os ≡ use_of size b q
    pub bytes : Changes less.object_bytes more.object_bytes (object_bytes_of size b) (sum_by (λ o. size o.content) os)

module _ {P O : Type 0} (len : P → ℕ) (size : O → ℕ) (address : O → List ℕ) where
  -- the books b after a command of one tenant that leaves the uploads and the objects of c
  abbrev pub next : ModelBooks P O → ModelBooks P O → ModelBooks P O
  next b c = record b { begun = c.begun; uploads = c.uploads; objects = c.objects; entry_count = b.entry_count + 1 }

  pub record Moves (t : ℕ) (less more : Amounts) (b c : ModelBooks P O) : Type 0 where
    pub room : b.entry_count < b.max_entries
    pub there : t < length b.tenant_limits
    pub uploads : MovesUploads len t less more b c.begun c.uploads
    pub objects : MovesObjects size address t less more b c.objects
    pub fits : in_use size c t ≤ limit_of b t
    pub stored : more.object_bytes + more.held ≤ less.object_bytes + less.held + 2 ^ 24
    pub few : more.parts ≤ less.parts + 1

  pub sound_after : {t : ℕ} {less more : Amounts} {b c : ModelBooks P O} → Moves t less more b c → AreSound len size address b → AreSound len size address (next b c)
  sound_after {t} {less} {more} {b} {c} m old = record {
    few_tenants = old.few_tenants;
    few_entries = old.few_entries;
    tenants = old.tenants;
    entry_count = omega (arith, m.room);
    begun = omega (arith, m.uploads.few, old.begun);
    uploads = m.uploads.uploads;
    sorted = m.uploads.sorted;
    objects = m.objects.objects;
    apart = m.objects.apart;
    within = λ q there. elim (cases_eq t q) [
      | inl same ↦ subst (λ (n : ℕ). in_use size c n ≤ limit_of b n) same m.fits
      | inr apart ↦ let before = old.within q there in let uses = m.objects.others q apart in let reserves = m.uploads.others q apart in omega (arith, uses, reserves, before)
    ];
    limited = old.limited;
    stored = let bytes = m.objects.bytes.is in let held = m.uploads.held.is in omega (arith, m.stored, bytes, held, old.stored);
    parts = let parts = m.uploads.parts.is in omega (arith, m.few, parts, old.parts);
  }

  -- what a tenant's running sums say
  pub record IsAt (b : ModelBooks P O) (t : ℕ) (x : Tenant) : Type 0 where
    pub limit : x.limit ≡ limit_of b t
    pub used : x.used ≡ use_of size b t
    pub reserved : x.reserved ≡ reserved_of b t
    pub within : x.used + x.reserved ≤ x.limit
    pub most : x.limit ≤ max_limit

  pub tenant_is : (k : KeptBooks P O) (t : ℕ) → t < length k.accounts.tenants → IsKept len size address k → IsAt (view_of k) t (tenant_at k.accounts.tenants t)
  tenant_is k t there is =
      let kept = is.all in
      let sums = kept.sums t there in
      let limit = limit_at k.accounts.tenants t in
      let low : t < length (limits_of k.accounts.tenants) = omega (arith, there, count_is k.accounts.tenants) in
      let within = kept.sound.within t low in
      let most = kept.sound.limited t low in
      record { limit = sym limit; used = sums.used; reserved = sums.reserved; within = omega (arith, limit, within, sums.used, sums.reserved); most = omega (arith, limit, most) }

  -- such a command has room in the accounts, and what it leaves is kept
  pub record Takes (k : KeptBooks P O) (t : ℕ) (less more : Amounts) (c : ModelBooks P O) : Type 0 where
    pub room : HasRoom k.accounts t less more
    pub kept : {accounts : ModelAccounts} {us : List (ℕ × ModelOwnedUpload P)} {catalog : ModelCatalog O} {filings : ℕ} → accounts ≡ changed k.accounts t less more → us ≡ c.uploads → catalog ≡ record { objects = c.objects; filings = filings }
        → (k.catalog.filings ≤ k.accounts.entry_count → filings ≤ k.accounts.entry_count + 1)
        → IsKept len size address (record { limits = k.limits; accounts = accounts; begun = c.begun; uploads = us; catalog = catalog })

  room_for : {t : ℕ} {less more : Amounts} {c : ModelBooks P O} (k : KeptBooks P O) → IsKept len size address k → Moves t less more (view_of k) c → HasRoom k.accounts t less more
  room_for {t} {less} {more} {c} k is m =
      let kept = is.all in
      let there : t < length k.accounts.tenants = omega (arith, m.there, count_is k.accounts.tenants) in
      let at = tenant_is k t there is in
      let sound = sound_after m kept.sound in
      let used = m.objects.used in
      let reserved = m.uploads.reserved in
      let bytes = m.objects.bytes in
      let held = m.uploads.held in
      let parts = m.uploads.parts in
      record {
        there = there;
        used = record { low = omega (arith, at.used, used.low); most = omega (arith, at.used, at.limit, at.most, used.is, used.low, m.fits) };
        reserved = record { low = omega (arith, at.reserved, reserved.low); most = omega (arith, at.reserved, at.limit, at.most, reserved.is, reserved.low, m.fits) };
        object_bytes = record { low = omega (arith, kept.object_bytes_is, bytes.low); most = omega (arith, kept.object_bytes_is, bytes.is, bytes.low, sound.stored, sound.entry_count, sound.few_entries) };
        held = record { low = omega (arith, kept.held_is, held.low); most = omega (arith, kept.held_is, held.is, held.low, sound.stored, sound.entry_count, sound.few_entries) };
        parts = record { low = omega (arith, kept.parts_is, parts.low); most = omega (arith, kept.parts_is, parts.is, parts.low, sound.parts, sound.entry_count, sound.few_entries) };
        entry_count = omega (arith, sound.entry_count, sound.few_entries);
      }

  -- the sums after it
  summed_after : {t : ℕ} {less more : Amounts} {c : ModelBooks P O} (k : KeptBooks P O) → IsKept len size address k → Moves t less more (view_of k) c
      → (n : ℕ) → n < length (changed k.accounts t less more).tenants → IsSummed size c n (tenant_at (changed k.accounts t less more).tenants n)
  summed_after {t} {less} {more} {c} k is m n within =
      let ts = k.accounts.tenants in
      let x = changed_tenant (tenant_at ts t) less more in
      let there : t < length ts = omega (arith, m.there, count_is ts) in
      let at = tenant_is k t there is in
      let used = m.objects.used in
      let reserved = m.uploads.reserved in
      let mine : IsSummed size c t x = record { used = omega (arith, at.used, used.is, used.low); reserved = omega (arith, at.reserved, reserved.is, reserved.low) } in
      elim (cases_eq t n) [
        | inl same ↦
            subst (λ (q : ℕ). IsSummed size c q (tenant_at (changed k.accounts t less more).tenants q)) same
            (subst (λ (y : Tenant). IsSummed size c t y) (sym (get_or-set_same ts t x no_tenant there)) mine)
        | inr apart ↦
            let before = is.all.sums n (omega (arith, within, length-set ts t x)) in
            subst (λ (y : Tenant). IsSummed size c n y) (sym (get_or-set_other ts t n x no_tenant (λ same. apart (sym same)))) (record { used = before.used ∙ sym (m.objects.others n apart); reserved = before.reserved ∙ sym (m.uploads.others n apart) })
      ]

  pub takes : {t : ℕ} {less more : Amounts} {c : ModelBooks P O} (k : KeptBooks P O) → IsKept len size address k → Moves t less more (view_of k) c → Takes k t less more c
  takes {t} {less} {more} {c} k is m =
      let kept = is.all in
      let sound = sound_after m kept.sound in
      let limits : limits_of (changed k.accounts t less more).tenants ≡ limits_of k.accounts.tenants = map-set_same (λ (x : Tenant). x.limit) k.accounts.tenants t _ no_tenant refl in
      let bytes = m.objects.bytes in
      let held = m.uploads.held in
      let parts = m.uploads.parts in
      record {
        room = room_for k is m;
        kept = λ {accounts} {us} {catalog} {filings} accounts_are uploads_are catalog_is few.
            let with : ModelAccounts → List (ℕ × ModelOwnedUpload P) → ModelCatalog O → KeptBooks P O = λ a vs x. record { limits = k.limits; accounts = a; begun = c.begun; uploads = vs; catalog = x } in
            subst (λ (a : ModelAccounts). IsKept len size address (with a us catalog)) (sym accounts_are)
            (subst (λ (vs : List (ℕ × ModelOwnedUpload P)). IsKept len size address (with (changed k.accounts t less more) vs catalog)) (sym uploads_are)
            (subst (λ (x : ModelCatalog O). IsKept len size address (with (changed k.accounts t less more) c.uploads x)) (sym catalog_is) (record {
              all = record {
                sound = subst (λ (ls : List ℕ). AreSound len size address (record (next (view_of k) c) { tenant_limits = ls })) (sym limits) sound;
                sums = λ n within. let sums = summed_after k is m n within in record { used = sums.used; reserved = sums.reserved };
                filings = few kept.filings;
                object_bytes_is = omega (arith, kept.object_bytes_is, bytes.is, bytes.low);
                held_is = omega (arith, kept.held_is, held.is, held.low);
                parts_is = omega (arith, kept.parts_is, parts.is, parts.low);
              };
            })));
      }
