-- Books under the widest limits: what is not refused is not refused there, and what a command leaves is the same.
use Rattle.std.proofs.Common.{◌≡◌, ◌≤◌, ℕ, Bool, true, false, List, Option, Some, None, refl, sym, arith, length}
use Rattle.std.specs.Prelude.{◌+◌, if◌then◌else◌, nat_le, nat_lt, option_map}
use Rattle.std.specs.Option.{option_map_or, option_or}
use Rattle.std.proofs.lemmas.Bool.{leb-false, lt-leb}
use Rattle.store_books.specs.declared.content.ObjectLabel.{ObjectLabel}
use Rattle.store_books.specs.declared.refusal.Refusal.{Refusal}
use Rattle.store_books.specs.declared.refusal.Refusal.TheVariants.{BelowUse, LimitTooLarge, NoTenant, NoUpload, OverQuota, TenantsFull, TooLong}
use Rattle.store_books.specs.Books.{ModelOwnedUpload, ModelBooks, Filed, free_of, in_use, is_absent, limit_of, max_entries, max_limit, max_tenants, object_at, upload_at}
use Rattle.store_books.specs.Commands.{abort_refusal, add_refused, begin_refusal, fix_refusal, file_refusal, fix_refused, forget_refusal, full_refusal, holding_refusal, join_refusal, limit_refusal, put_refusal, tenant_refusal, with_end, with_fixed, with_forgotten, with_joined, with_known, with_left, with_new, with_filed, with_part, with_put}
use Rattle.store_books.specs.Bare.{Bare, as_it_is, label_address, label_len}
use Rattle.store_upload.specs.Uploads.{fix_fault, max_bytes, place_fault}
use Rattle.store_upload.proofs.Places.{not_some}
use Rattle.store_books.proofs.Commands.{passed, room}
use Rattle.store_core.specs.Carried.{widest}

-- ---- another last reason

last : {X : Type 0} (test : Bool) (x : X) (rest other : Option X) → (rest ≡ None → other ≡ None) → (if test then Some x else rest) ≡ None → (if test then Some x else other) ≡ None
last true x rest other go free = absurd (not_some x (sym free))
last false x rest other go free = go free

last_of : {X : Type 0} (o rest other : Option X) → (rest ≡ None → other ≡ None) → option_or o rest ≡ None → option_or o other ≡ None
last_of None rest other go free = go free
last_of (Some x) rest other go free = absurd (not_some x (sym free))

last_on : {X : Type 0} (rest other : X → Option Refusal) → ((x : X) → rest x ≡ None → other x ≡ None) → (o : Option X) → option_map_or rest o (Some NoUpload) ≡ None → option_map_or other o (Some NoUpload) ≡ None
last_on rest other go None free = free
last_on rest other go (Some x) free = go x free

-- ---- refusals

-- books within the widest limits
pub record IsWithin {P O : Type 0} (b : ModelBooks P O) : Type 0 where
  pub tenants : b.max_tenants ≤ max_tenants
  pub entries : b.max_entries ≤ max_entries

module _ (b : Bare) (within : IsWithin b) where
  wide_full : full_refusal b ≡ None → full_refusal (widest b) ≡ None
  wide_full free = let few = room b free in let most = within.entries in rw (lt-leb max_entries b.entry_count (omega (arith, few, most))) refl

  pub wide_tenant : (limit : ℕ) → tenant_refusal b limit ≡ None → tenant_refusal (widest b) limit ≡ None
  wide_tenant limit free =
      let first = passed (nat_le b.max_tenants (length b.tenant_limits)) TenantsFull _ free in
      let few = leb-false b.max_tenants (length b.tenant_limits) first.0 in
      let most = within.tenants in
      rw (lt-leb max_tenants (length b.tenant_limits) (omega (arith, few, most))) (last _ _ (full_refusal b) (full_refusal (widest b)) wide_full first.1)

  pub wide_limit : (tenant limit : ℕ) → limit_refusal label_len b tenant limit ≡ None → limit_refusal label_len (widest b) tenant limit ≡ None
  wide_limit tenant limit =
      last (is_absent b tenant) NoTenant _ _ (last (nat_lt max_limit limit) LimitTooLarge _ _ (last (nat_lt limit (in_use label_len b tenant)) (BelowUse (in_use label_len b tenant)) (full_refusal b) (full_refusal (widest b)) wide_full))

  pub wide_begin : (tenant bound : ℕ) → begin_refusal label_len b tenant bound ≡ None → begin_refusal label_len (widest b) tenant bound ≡ None
  wide_begin tenant bound =
      last (is_absent b tenant) NoTenant _ _
      (last (nat_lt max_bytes bound) TooLong _ _ (last (nat_lt (limit_of b tenant) (in_use label_len b tenant + bound)) (OverQuota (free_of label_len b tenant)) (full_refusal b) (full_refusal (widest b)) wide_full))

  pub wide_put : (number offset n : ℕ) → put_refusal as_it_is b number offset n ≡ None → put_refusal as_it_is (widest b) number offset n ≡ None
  wide_put number offset n = last_on
      (λ (u : ModelOwnedUpload ℕ). option_or (option_map add_refused (place_fault as_it_is u.upload offset n)) (full_refusal b))
      (λ (u : ModelOwnedUpload ℕ). option_or (option_map add_refused (place_fault as_it_is u.upload offset n)) (full_refusal (widest b)))
      (λ u. last_of _ (full_refusal b) (full_refusal (widest b)) wide_full) (upload_at b number)

  pub wide_fix : (number n : ℕ) → fix_refusal as_it_is b number n ≡ None → fix_refusal as_it_is (widest b) number n ≡ None
  wide_fix number n = last_on
      (λ (u : ModelOwnedUpload ℕ). option_or (option_map fix_refused (fix_fault as_it_is u.upload n)) (full_refusal b))
      (λ (u : ModelOwnedUpload ℕ). option_or (option_map fix_refused (fix_fault as_it_is u.upload n)) (full_refusal (widest b)))
      (λ u. last_of _ (full_refusal b) (full_refusal (widest b)) wide_full) (upload_at b number)

  wide_join : (u : ModelOwnedUpload ℕ) (known : Option (Filed ObjectLabel)) → join_refusal label_len label_address b u known ≡ None → join_refusal label_len label_address (widest b) u known ≡ None
  wide_join u None = wide_full
  wide_join u (Some object) = last _ _ (full_refusal b) (full_refusal (widest b)) wide_full

  pub wide_file : (number : ℕ) (at : List ℕ) → file_refusal label_len label_address b number at ≡ None → file_refusal label_len label_address (widest b) number at ≡ None
  wide_file number at = last_on
      (λ (u : ModelOwnedUpload ℕ). join_refusal label_len label_address b u (object_at label_address b at))
      (λ (u : ModelOwnedUpload ℕ). join_refusal label_len label_address (widest b) u (object_at label_address b at))
      (λ u. wide_join u (object_at label_address b at)) (upload_at b number)

  pub wide_abort : (number : ℕ) → abort_refusal b number ≡ None → abort_refusal (widest b) number ≡ None
  wide_abort number = last_on (λ (u : ModelOwnedUpload ℕ). full_refusal b) (λ (u : ModelOwnedUpload ℕ). full_refusal (widest b)) (λ u. wide_full) (upload_at b number)

  pub wide_forget : (tenant : ℕ) (at : List ℕ) → forget_refusal label_address b tenant at ≡ None → forget_refusal label_address (widest b) tenant at ≡ None
  wide_forget tenant at = last_of (holding_refusal label_address b tenant at) (full_refusal b) (full_refusal (widest b)) wide_full

-- ---- what commands leave

part_wide : (b : Bare) (number offset n : ℕ) (found : Option (ModelOwnedUpload ℕ)) → with_part as_it_is (widest b) number offset n found ≡ widest (with_part as_it_is b number offset n found)
part_wide b number offset n None = refl
part_wide b number offset n (Some u) = refl

pub put_wide : (b : Bare) (number offset n : ℕ) → with_put as_it_is (widest b) number offset n ≡ widest (with_put as_it_is b number offset n)
put_wide b number offset n = part_wide b number offset n (upload_at b number)

end_wide : (b : Bare) (number n : ℕ) (found : Option (ModelOwnedUpload ℕ)) → with_end (widest b) number n found ≡ widest (with_end b number n found)
end_wide b number n None = refl
end_wide b number n (Some u) = refl

pub fixed_wide : (b : Bare) (number n : ℕ) → with_fixed (widest b) number n ≡ widest (with_fixed b number n)
fixed_wide b number n = end_wide b number n (upload_at b number)

new_wide : (b : Bare) (number : ℕ) (label : ObjectLabel) (found : Option (ModelOwnedUpload ℕ)) → with_new (widest b) number label found ≡ widest (with_new b number label found)
new_wide b number label None = refl
new_wide b number label (Some u) = refl

pub filed_wide : (b : Bare) (number : ℕ) (label : ObjectLabel) → with_filed (widest b) number label ≡ widest (with_filed b number label)
filed_wide b number label = new_wide b number label (upload_at b number)

known_wide : (b : Bare) (number : ℕ) (at : List ℕ) (found : Option (ModelOwnedUpload ℕ)) (known : Option (Filed ObjectLabel)) → with_known label_address (widest b) number at found known ≡ widest (with_known label_address b number at found known)
known_wide b number at None known = refl
known_wide b number at (Some u) None = refl
known_wide b number at (Some u) (Some object) = refl

pub joined_wide : (b : Bare) (number : ℕ) (at : List ℕ) → with_joined label_address (widest b) number at ≡ widest (with_joined label_address b number at)
joined_wide b number at = known_wide b number at (upload_at b number) (object_at label_address b at)

left_wide : (b : Bare) (tenant : ℕ) (at : List ℕ) (known : Option (Filed ObjectLabel)) → with_left label_address (widest b) tenant at known ≡ widest (with_left label_address b tenant at known)
left_wide b tenant at None = refl
left_wide b tenant at (Some object) = refl

pub forgotten_wide : (b : Bare) (tenant : ℕ) (at : List ℕ) → with_forgotten label_address (widest b) tenant at ≡ widest (with_forgotten label_address b tenant at)
forgotten_wide b tenant at = left_wide b tenant at (object_at label_address b at)
