-- What a new tenant leaves.
use Rattle.std.proofs.Common.{◌≡◌, ◌∙◌, ◌+◌, ◌<◌, ◌≤◌, ℕ, List, [], ◌∷◌, ◌++◌, None, refl, ap, ap₂, sym, arith, cond, inl, inr, length, get_or, subst, length-append, Bool, false}
use Rattle.std.specs.Prelude.{◌==◌, nat_le, nat_lt, sum_by}
use Rattle.std.specs.List.{AllByRecursion, list_any}
use Rattle.std.specs.Map.{values_of}
use Rattle.std.proofs.Math.ListN.{get_or-append}
use Rattle.std.proofs.Math.Seq.{get_or-append_seam}
use Rattle.std.proofs.lemmas.Bool.{cases_lt, leb-false, ltb-false, ne_eqb, or_from}
use Rattle.std.proofs.lemmas.List.{map-append}
use Rattle.std.proofs.lemmas.List.Sums.{sum_by-cons}
use Rattle.store_books.specs.declared.refusal.Refusal.TheVariants.{LimitTooLarge, TenantsFull}
use Rattle.store_books.specs.declared.tenant.Tenant.{Tenant}
use Rattle.store_books.specs.Books.{AreSound, ModelOwnedUpload, ModelBooks, Filed, IsOwnedUpload, IsFiledAmong, max_limit, reserved_by, reserved_of, use_by, use_of}
use Rattle.store_books.specs.Commands.{tenant_refusal, with_tenant}
use Rattle.store_books.specs.Kept.{IsKept, IsSummed, KeptBooks, limits_of, no_tenant, tenant_at, view_of}
use Rattle.store_upload.specs.Uploads.{length_of}
use Rattle.store_books.proofs.Commands.{passed, room}
use Rattle.store_books.proofs.Lists.{all_weaker}
use Rattle.store_books.proofs.Sums.{count_is}

nothing_reserved : {P : Type 0} (len : P → ℕ) (n b : ℕ) (us : List (ℕ × ModelOwnedUpload P)) → AllByRecursion (IsOwnedUpload len n b) us → sum_by (reserved_by n) (values_of us) ≡ 0
nothing_reserved len n b [] h = refl
nothing_reserved len n b (e ∷ us) h =
    let low = h.0.tenant in
    let none = ap (λ (t : Bool). cond t (length_of e.1.upload) 0) (ne_eqb e.1.tenant n (λ same. absurd (omega (arith, same, low)))) in
    sum_by-cons (reserved_by n) e.1 (values_of us) ∙ ap₂ (λ (x y : ℕ). x + y) none (nothing_reserved len n b us h.1)

not_among : (n : ℕ) (hs : List ℕ) → AllByRecursion (λ h. h < n) hs → list_any (λ h. h == n) hs ≡ false
not_among n [] h = refl
not_among n (x ∷ hs) h = let low = h.0 in or_from _ _ (ne_eqb x n (λ same. absurd (omega (arith, same, low)))) (not_among n hs h.1)

nothing_used : {O : Type 0} (size : O → ℕ) (n : ℕ) (os : List (Filed O)) → AllByRecursion (IsFiledAmong n) os → sum_by (use_by size n) os ≡ 0
nothing_used size n [] h = refl
nothing_used size n (o ∷ os) h =
    sum_by-cons (use_by size n) o os ∙ ap₂ (λ (x y : ℕ). x + y) (ap (λ (t : Bool). cond t (size o.content) 0) (not_among n o.holders h.0.tenants)) (nothing_used size n os h.1)

module _ {P O : Type 0} (len : P → ℕ) (size : O → ℕ) (address : O → List ℕ) where
  pub all_tenants : (b : ModelBooks P O) (limit : ℕ) → tenant_refusal b limit ≡ None → AreSound len size address b → AreSound len size address (with_tenant b limit)
  all_tenants b limit free old =
      let full = passed (nat_le b.max_tenants (length b.tenant_limits)) TenantsFull _ free in
      let large = passed (nat_lt max_limit limit) LimitTooLarge _ full.1 in
      let room = room b large.1 in
      let few = leb-false b.max_tenants (length b.tenant_limits) full.0 in
      let most = ltb-false max_limit limit large.0 in
      let count = length-append b.tenant_limits (limit ∷ []) in
      let n = length b.tenant_limits in
      let last : (k : ℕ) → n ≤ k → k < length (b.tenant_limits ++ limit ∷ []) → k ≡ n = λ k low high. omega (arith, low, high, count) in
      record {
        few_tenants = old.few_tenants;
        few_entries = old.few_entries;
        tenants = omega (arith, count, few);
        entry_count = omega (arith, room);
        begun = omega (arith, old.begun);
        uploads = all_weaker (IsOwnedUpload len n b.begun) (IsOwnedUpload len (length (b.tenant_limits ++ limit ∷ [])) b.begun) b.uploads (λ e is. record { number = is.number; tenant = omega (arith, is.tenant, count); upload = is.upload }) old.uploads;
        sorted = old.sorted;
        objects = all_weaker (IsFiledAmong n) (IsFiledAmong (length (b.tenant_limits ++ limit ∷ []))) b.objects (λ o is. record { tenants = all_weaker (λ h. h < n) (λ h. h < length (b.tenant_limits ++ limit ∷ [])) o.holders (λ h low. omega (arith, low, count)) is.tenants; rising = is.rising }) old.objects;
        apart = old.apart;
        within = λ k there. elim (cases_lt k n) [
          | inl before ↦ let is = get_or-append b.tenant_limits (limit ∷ []) 0 k before in let within = old.within k before in omega (arith, is, within)
          | inr following ↦
              let is = last k following there in
              let used = ap (λ (q : ℕ). use_of size b q) is ∙ nothing_used size n b.objects old.objects in
              let reserved = ap (λ (q : ℕ). reserved_of b q) is ∙ nothing_reserved len n b.begun b.uploads old.uploads in
              omega (arith, used, reserved)
        ];
        limited = λ k there. elim (cases_lt k n) [
          | inl before ↦ let is = get_or-append b.tenant_limits (limit ∷ []) 0 k before in let limited = old.limited k before in omega (arith, is, limited)
          | inr following ↦ let is = ap (λ (q : ℕ). get_or (b.tenant_limits ++ limit ∷ []) q 0) (last k following there) ∙ get_or-append_seam b.tenant_limits limit [] 0 in omega (arith, is, most)
        ];
        stored = omega (arith, old.stored);
        parts = omega (arith, old.parts);
      }

-- the books with a tenant more, as the code keeps them
pub tenant_kept : {P O : Type 0} {len : P → ℕ} {size : O → ℕ} {address : O → List ℕ} {k : KeptBooks P O} {b : ModelBooks P O} {now : List Tenant} (limit : ℕ) → IsKept len size address k → view_of k ≡ b → tenant_refusal b limit ≡ None
    → now ≡ k.accounts.tenants ++ record { limit = limit; used = 0; reserved = 0 } ∷ [] → IsKept len size address (record k { accounts = record k.accounts { tenants = now; entry_count = k.accounts.entry_count + 1 } })
tenant_kept {P = P} {O = O} {len = len} {size} {address} {k} {now = now} limit kept is free now_is =
    let b : ModelBooks P O = view_of k in
    let old = kept.all in
    let tenants = k.accounts.tenants in
    let fresh : Tenant = record { limit = limit; used = 0; reserved = 0 } in
    let count = length-append tenants (fresh ∷ []) in
    let same = count_is tenants in
    let all : limits_of (tenants ++ fresh ∷ []) ≡ b.tenant_limits ++ limit ∷ [] = map-append (λ (t : Tenant). t.limit) tenants (fresh ∷ []) in
    let n = length tenants in
    let used : use_of size b n ≡ 0 = ap (λ (q : ℕ). use_of size b q) (sym same) ∙ nothing_used size (length b.tenant_limits) b.objects old.sound.objects in
    let reserved : reserved_of b n ≡ 0 = ap (λ (q : ℕ). reserved_of b q) (sym same) ∙ nothing_reserved len (length b.tenant_limits) b.begun b.uploads old.sound.uploads in
    let after : List Tenant → KeptBooks P O = λ ts. record k { accounts = record k.accounts { tenants = ts; entry_count = k.accounts.entry_count + 1 } } in
    let sums : (q : ℕ) → q < length (tenants ++ fresh ∷ []) → IsSummed size (view_of (after (tenants ++ fresh ∷ []))) q (tenant_at (tenants ++ fresh ∷ []) q) = λ q there. elim (cases_lt q n) [
      | inl before ↦
          let sum = old.sums q before in
          rw (get_or-append tenants (fresh ∷ []) no_tenant q before) (record { used = sum.used; reserved = sum.reserved })
      | inr following ↦
          let last : q ≡ n = omega (arith, following, there, count) in
          rw (last, get_or-append_seam tenants fresh [] no_tenant) (record { used = sym used; reserved = sym reserved })
    ] in
    subst (λ (ts : List Tenant). IsKept len size address (after ts)) (sym now_is) (record {
      all = record {
        sound = subst (λ (ns : List ℕ). AreSound len size address (record b { tenant_limits = ns; entry_count = b.entry_count + 1 })) (sym all) (all_tenants len size address b limit (ap (λ b. tenant_refusal b limit) is ∙ free) old.sound);
        sums = sums;
        filings = let filings = old.filings in omega (arith, filings);
        object_bytes_is = old.object_bytes_is;
        held_is = old.held_is;
        parts_is = old.parts_is;
      };
    })
