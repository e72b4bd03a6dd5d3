-- What each command on uploads leaves.
use Rattle.std.proofs.Common.{◌≡◌, ◌∙◌, ◌+◌, ◌^◌, ◌<◌, ◌≤◌, ℕ, Bool, true, false, List, [], ◌∷◌, ◌++◌, Option, Some, None, cond, refl, ap, sym, arith, length, subst, inl, inr}
use Rattle.std.specs.Prelude.{if◌then◌else◌, nat_lt, option_map, sum_by, unwrap_or}
use Rattle.std.specs.List.{AllByRecursion}
use Rattle.std.specs.Map.{keys_of, lookup, remove_entry, set_value, values_of}
use Rattle.std.specs.Option.{option_map_or, option_or}
use Rattle.std.proofs.lemmas.Bool.{cases_Bool, eq-eqb, leb-false, ltb-false, ne_eqb}
use Rattle.std.proofs.lemmas.List.Sums.{sum_by_push}
use Rattle.std.proofs.lemmas.Map.{keys-set_value}
use Rattle.std.proofs.lemmas.Map.Entries.{sum_by-remove_entry, sum_by-set_value}
use Rattle.store_books.specs.declared.refusal.Refusal.{Refusal}
use Rattle.store_books.specs.declared.refusal.Refusal.TheVariants.{JournalFull, NoTenant, NoUpload, TooLong}
use Rattle.store_books.specs.declared.accounts.Amounts.{Amounts}
use Rattle.store_books.specs.Books.{AreSound, ModelOwnedUpload, ModelBooks, IsOwnedUpload, IsRisingFrom, in_use, is_absent, is_full, is_number, limit_of, reserved_by, reserved_of, upload_at}
use Rattle.store_books.specs.Commands.{add_refused, begin_refusal, fix_refused, full_refusal, on_upload, with_begun, with_upload, without_upload}
use Rattle.store_books.specs.inner.Kept.{held_by}
use Rattle.store_upload.specs.Uploads.{Fits, IsUpload, ModelUpload, UploadPlan, first_end, fix_fault, fixed_at, held_bytes, length_of, max_bytes, new_upload, place_fault, with_more}
use Rattle.store_upload.proofs.Ends.{fixed_within, fixes, grown, nothing_held}
use Rattle.store_upload.proofs.Places.{not_some}
use Rattle.store_books.proofs.Lists.{all_found, all_push, all_removed, all_set, all_weaker, values_push}
use Rattle.store_books.proofs.Sums.{Moves, MovesObjects, MovesUploads, same}

-- ---- tests

-- what is not refused passed the first test
pub passed : {X : Type 0} (b : Bool) (x : X) (rest : Option X) → (if b then Some x else rest) ≡ None → (b ≡ false) × (rest ≡ None)
passed true x rest h = absurd (not_some x (sym h))
passed false x rest h = (refl, h)

-- nor is what passed both of two
pub both : {X : Type 0} (o rest : Option X) → option_or o rest ≡ None → (o ≡ None) × (rest ≡ None)
both None rest h = (refl, h)
both (Some x) rest h = absurd (not_some x (sym h))

-- and neither of two
pub neither : {X Y : Type 0} (f : X → Y) (o : Option X) (rest : Option Y) → option_or (option_map f o) rest ≡ None → (o ≡ None) × (rest ≡ None)
neither f None rest h = (refl, h)
neither f (Some x) rest h = absurd (not_some (f x) (sym h))

pub none_mapped : {X Y : Type 0} (f : X → Y) (o : Option X) → option_map f o ≡ None → o ≡ None
none_mapped f None h = refl
none_mapped f (Some x) h = absurd (not_some (f x) (sym h))

pub room : {P O : Type 0} (b : ModelBooks P O) → full_refusal b ≡ None → b.entry_count < b.max_entries
room b h = leb-false b.max_entries b.entry_count (passed (is_full b) JournalFull None h).0

-- what a command on the open upload of a number is about
pub on_found : {P O : Type 0} (b : ModelBooks P O) (number : ℕ) (rest : ModelOwnedUpload P → Option Refusal) → on_upload b number rest ≡ None → (u : ModelOwnedUpload P) × (upload_at b number ≡ Some u) × (rest u ≡ None)
on_found {P = P} b number rest = by (upload_at b number) refl
  where
    by : (found : Option (ModelOwnedUpload P)) → upload_at b number ≡ found → option_map_or rest found (Some NoUpload) ≡ None → (u : ModelOwnedUpload P) × (upload_at b number ≡ Some u) × (rest u ≡ None)
    by None is h = absurd (not_some NoUpload (sym h))
    by (Some u) is h = (u, is, h)

-- ---- amounts

-- of an open upload: its reservation, the bytes and the number of its parts
abbrev pub open_amounts : ℕ → ℕ → ℕ → Amounts
open_amounts reserved held parts = record { used = 0; reserved = reserved; object_bytes = 0; held = held; parts = parts }

abbrev pub reserving : ℕ → Amounts
reserving n = open_amounts n 0 0

-- of an object: what a tenant uses by it, and its bytes
abbrev pub object_amounts : ℕ → ℕ → Amounts
object_amounts used bytes = record { used = used; reserved = 0; object_bytes = bytes; held = 0; parts = 0 }

abbrev pub none : Amounts
none = open_amounts 0 0 0

-- ---- numbers

rising_push : (m n : ℕ) (ks : List ℕ) → m ≤ n → AllByRecursion (λ k. k < n) ks → IsRisingFrom m ks → IsRisingFrom m (ks ++ n ∷ [])
rising_push m n [] low all h = (low, tt)
rising_push m n (k ∷ ks) low all h = (h.0, rising_push (k + 1) n ks (let below = all.0 in omega (arith, below)) all.1 h.1)

pub rising_later : (a b : ℕ) (ks : List ℕ) → a ≤ b → IsRisingFrom b ks → IsRisingFrom a ks
rising_later a b [] low h = tt
rising_later a b (k ∷ ks) low h = (omega (arith, h.0), h.1)

pub rising_removed : {X : Type 0} (test : ℕ → Bool) (m : ℕ) (es : List (ℕ × X)) → IsRisingFrom m (keys_of es) → IsRisingFrom m (keys_of (remove_entry test es))
rising_removed test m [] h = tt
rising_removed test m (e ∷ es) h = elim (cases_Bool (test e.0)) [
  | inl t ↦ rw t (rising_later m (e.0 + 1) (keys_of es) (omega (arith, h.0)) h.1)
  | inr f ↦ rw f (h.0, rising_removed test (e.0 + 1) es h.1)
]

keys_push : {X : Type 0} (es : List (ℕ × X)) (e : ℕ × X) → keys_of (es ++ e ∷ []) ≡ keys_of es ++ e.0 ∷ []
keys_push [] e = refl
keys_push (f ∷ es) e = ap (λ ks. f.0 ∷ ks) (keys_push es e)

all_keys : {X : Type 0} (n : ℕ) (es : List (ℕ × X)) → AllByRecursion (λ e. e.0 < n) es → AllByRecursion (λ k. k < n) (keys_of es)
all_keys n [] h = tt
all_keys n (e ∷ es) h = (h.0, all_keys n es h.1)

-- ---- what is reserved

module _ {P : Type 0} where
  pub reserved_mine : (t : ℕ) (u : ModelOwnedUpload P) → u.tenant ≡ t → reserved_by t u ≡ length_of u.upload
  reserved_mine t u mine = rw (eq-eqb u.tenant t mine) refl

  pub reserved_others : (q : ℕ) (u : ModelOwnedUpload P) → (u.tenant ≡ q → ⊥) → reserved_by q u ≡ 0
  reserved_others q u apart = rw (ne_eqb u.tenant q apart) refl

  -- sums with another value in the place of one, and without it
  pub instead : (f : ModelOwnedUpload P → ℕ) (n : ℕ) (us : List (ℕ × ModelOwnedUpload P)) (u w : ModelOwnedUpload P) → lookup (is_number n) us ≡ Some u → sum_by f (values_of (set_value (is_number n) us w)) + f u ≡ sum_by f (values_of us) + f w
  instead f n us u w found = sum_by-set_value f (is_number n) us u w found

  pub less : (f : ModelOwnedUpload P → ℕ) (n : ℕ) (us : List (ℕ × ModelOwnedUpload P)) (u : ModelOwnedUpload P) → lookup (is_number n) us ≡ Some u → sum_by f (values_of (remove_entry (is_number n) us)) + f u ≡ sum_by f (values_of us)
  less f n us u found = ap (λ (o : Option (ModelOwnedUpload P)). sum_by f (values_of (remove_entry (is_number n) us)) + unwrap_or (option_map f o) 0) (sym found) ∙ sum_by-remove_entry f (is_number n) us

  more : (f : ModelOwnedUpload P → ℕ) (us : List (ℕ × ModelOwnedUpload P)) (n : ℕ) (u : ModelOwnedUpload P) → sum_by f (values_of (us ++ (n, u) ∷ [])) ≡ sum_by f (values_of us) + f u
  more f us n u = ap (sum_by f) (values_push us n u) ∙ sum_by_push f (values_of us) u

-- ---- an upload is begun

no_longer_than : (plan : UploadPlan) → unwrap_or (first_end plan) plan.bound ≡ plan.bound
no_longer_than plan = by plan.is_open
  where
    by : (b : Bool) → unwrap_or (cond b None (Some plan.bound)) plan.bound ≡ plan.bound
    by true = refl
    by false = refl

module _ {P O : Type 0} (len : P → ℕ) (size : O → ℕ) (address : O → List ℕ) where
  objects_stay : {t r h p reserved held parts : ℕ} (b : ModelBooks P O) → AreSound len size address b → MovesObjects size address t (open_amounts r h p) (open_amounts reserved held parts) b b.objects
  objects_stay b sound = record { objects = sound.objects; apart = sound.apart; used = same; others = λ q apart. refl; bytes = same }

  pub begins : (b : ModelBooks P O) (t : ℕ) (plan : UploadPlan) (n : ℕ) → n ≡ plan.bound → begin_refusal size b t plan.bound ≡ None → AreSound len size address b → Moves len size address t none (reserving n) b (with_begun b t plan)
  begins b t plan n is free sound =
      let present = passed (is_absent b t) NoTenant _ free in
      let short = passed (nat_lt max_bytes plan.bound) TooLong _ present.1 in
      let fits = passed (nat_lt (limit_of b t) (in_use size b t + plan.bound)) _ _ short.1 in
      let there = leb-false (length b.tenant_limits) t present.0 in
      let u : ModelOwnedUpload P = record { tenant = t; upload = new_upload plan } in
      let within = ltb-false (limit_of b t) (in_use size b t + plan.bound) fits.0 in
      let bound = no_longer_than plan in
      let mine = more (reserved_by t) b.uploads b.begun u in
      let own = reserved_mine t u refl in
      let held = more (λ (v : ModelOwnedUpload P). held_bytes len v.upload.parts) b.uploads b.begun u in
      let parts = more (λ (v : ModelOwnedUpload P). length v.upload.parts) b.uploads b.begun u in
      let among : IsOwnedUpload len (length b.tenant_limits) (b.begun + 1) (b.begun, u) = record { number = omega arith; tenant = there; upload = nothing_held len plan [] (ltb-false max_bytes plan.bound short.0) refl } in
      record {
        room = room b fits.1;
        there = there;
        uploads = record {
          few = omega arith;
          uploads = all_push (IsOwnedUpload len (length b.tenant_limits) (b.begun + 1)) b.uploads (b.begun, u)
              (all_weaker (IsOwnedUpload len (length b.tenant_limits) b.begun) (IsOwnedUpload len (length b.tenant_limits) (b.begun + 1)) b.uploads (λ e is. record { number = omega (arith, is.number); tenant = is.tenant; upload = is.upload }) sound.uploads) among;
          sorted = subst (IsRisingFrom 0) (sym (keys_push b.uploads (b.begun, u)))
              (rising_push 0 b.begun (keys_of b.uploads) (omega arith) (all_keys b.begun b.uploads (all_weaker (IsOwnedUpload len (length b.tenant_limits) b.begun) (λ e. e.0 < b.begun) b.uploads (λ e is. is.number) sound.uploads)) sound.sorted);
          reserved = record { is = omega (arith, mine, own, bound, is); low = omega arith };
          others = λ q apart. let other = reserved_others q u apart in let sum = more (reserved_by q) b.uploads b.begun u in omega (arith, other, sum);
          held = record { is = omega (arith, held); low = omega arith };
          parts = record { is = omega (arith, parts); low = omega arith };
        };
        objects = objects_stay b sound;
        fits = omega (arith, mine, own, bound, within);
        stored = omega arith;
        few = omega arith;
      }

  -- ---- an open upload

  pub found_among : (b : ModelBooks P O) (number : ℕ) (u : ModelOwnedUpload P) → upload_at b number ≡ Some u → AreSound len size address b → (u.tenant < length b.tenant_limits) × IsUpload len u.upload
  found_among b number u found sound =
      all_found (IsOwnedUpload len (length b.tenant_limits) b.begun) (λ v. (v.tenant < length b.tenant_limits) × IsUpload len v.upload) (is_number number) b.uploads u (λ k x is. (is.tenant, is.upload)) found sound.uploads

  reserved_within : (b : ModelBooks P O) (number : ℕ) (u : ModelOwnedUpload P) → upload_at b number ≡ Some u → length_of u.upload ≤ reserved_of b u.tenant
  reserved_within b number u found = let sum = less (reserved_by u.tenant) number b.uploads u found in let own = reserved_mine u.tenant u refl in omega (arith, sum, own)

  -- another in its place is lawful and no longer, with these numbers of bytes and parts more
  pub record Grows (u w : ModelUpload P) (bytes count : ℕ) : Type 0 where
    pub lawful : IsUpload len w
    pub no_longer : length_of w ≤ length_of u
    pub held : held_bytes len w.parts ≡ held_bytes len u.parts + bytes
    pub parts : length w.parts ≡ length u.parts + count
    pub small : bytes ≤ 2 ^ 24
    pub few : count ≤ 1

  -- it is replaced
  pub replaces : {bytes count : ℕ} (b : ModelBooks P O) (number : ℕ) (u : ModelOwnedUpload P) (w : ModelUpload P) → upload_at b number ≡ Some u → AreSound len size address b → b.entry_count < b.max_entries → Grows u.upload w bytes count
      → Moves len size address u.tenant (reserving (length_of u.upload)) (open_amounts (length_of w) bytes count) b (with_upload b number (record u { upload = w }))
  replaces b number u upload found sound room grows =
      let w : ModelOwnedUpload P = record u { upload = upload } in
      let there = (found_among b number u found sound).0 in
      let within = sound.within u.tenant there in
      let reserved = instead (reserved_by u.tenant) number b.uploads u w found in
      let own = reserved_mine u.tenant u refl in
      let now = reserved_mine u.tenant w refl in
      let held = instead (λ (v : ModelOwnedUpload P). held_bytes len v.upload.parts) number b.uploads u w found in
      let parts = instead (λ (v : ModelOwnedUpload P). length v.upload.parts) number b.uploads u w found in
      record {
        room = room;
        there = there;
        uploads = record {
          few = omega arith;
          uploads = all_set (IsOwnedUpload len (length b.tenant_limits) b.begun) (is_number number) b.uploads u w (λ k is. record { number = is.number; tenant = there; upload = grows.lawful }) found sound.uploads;
          sorted = subst (IsRisingFrom 0) (sym (keys-set_value (is_number number) b.uploads w)) sound.sorted;
          reserved = record { is = omega (arith, reserved, own, now); low = reserved_within b number u found };
          others = λ q apart. let before = reserved_others q u apart in let after = reserved_others q w apart in let sum = instead (reserved_by q) number b.uploads u w found in omega (arith, before, after, sum);
          held = record { is = omega (arith, held, grows.held); low = omega arith };
          parts = record { is = omega (arith, parts, grows.parts); low = omega arith };
        };
        objects = objects_stay b sound;
        fits = omega (arith, within, reserved, own, now, grows.no_longer);
        stored = omega (arith, grows.small);
        few = omega (arith, grows.few);
      }

  -- a part is put
  pub puts : (b : ModelBooks P O) (number offset : ℕ) (part : P) (u : ModelOwnedUpload P) → upload_at b number ≡ Some u → AreSound len size address b → Fits u.upload.plan offset (len part)
      → option_or (option_map add_refused (place_fault len u.upload offset (len part))) (full_refusal b) ≡ None
      → Moves len size address u.tenant (reserving (length_of u.upload)) (open_amounts (length_of (with_more len u.upload offset part)) (len part) 1) b (with_upload b number (record u { upload = with_more len u.upload offset part }))
  puts b number offset part u found sound fits free =
      let both = neither add_refused (place_fault len u.upload offset (len part)) (full_refusal b) free in
      let grow = grown len u.upload offset part (found_among b number u found sound).1 both.0 fits in
      let small = fits.small in
      replaces b number u (with_more len u.upload offset part) found sound (room b both.1)
      (record { lawful = grow.lawful; no_longer = grow.no_longer; held = omega (arith, grow.bytes); parts = omega (arith, grow.count); small = omega (arith, small); few = omega arith })

  -- an end is fixed
  pub ends : (b : ModelBooks P O) (number n : ℕ) (u : ModelOwnedUpload P) → upload_at b number ≡ Some u → AreSound len size address b → option_or (option_map fix_refused (fix_fault len u.upload n)) (full_refusal b) ≡ None
      → Moves len size address u.tenant (reserving (length_of u.upload)) (reserving n) b (with_upload b number (record u { upload = fixed_at u.upload n }))
  ends b number n u found sound free =
      let both = neither fix_refused (fix_fault len u.upload n) (full_refusal b) free in
      let was = found_among b number u found sound in
      replaces b number u (fixed_at u.upload n) found sound (room b both.1)
      (record { lawful = fixes len u.upload n was.1 both.0; no_longer = fixed_within len u.upload n was.1 both.0; held = omega arith; parts = omega arith; small = omega arith; few = omega arith })

  -- it is removed
  pub without : (used bytes : ℕ) (b : ModelBooks P O) (number : ℕ) (u : ModelOwnedUpload P) → upload_at b number ≡ Some u → AreSound len size address b
      → MovesUploads len u.tenant (held_by len u.upload) (object_amounts used bytes) b b.begun (remove_entry (is_number number) b.uploads)
  without used bytes b number u found sound =
      let reserved = less (reserved_by u.tenant) number b.uploads u found in
      let own = reserved_mine u.tenant u refl in
      let held = less (λ (v : ModelOwnedUpload P). held_bytes len v.upload.parts) number b.uploads u found in
      let parts = less (λ (v : ModelOwnedUpload P). length v.upload.parts) number b.uploads u found in
      record {
        few = omega arith;
        uploads = all_removed (IsOwnedUpload len (length b.tenant_limits) b.begun) (is_number number) b.uploads sound.uploads;
        sorted = rising_removed (is_number number) 0 b.uploads sound.sorted;
        reserved = record { is = omega (arith, reserved, own); low = omega (arith, reserved, own) };
        others = λ q apart. let other = reserved_others q u apart in let sum = less (reserved_by q) number b.uploads u found in omega (arith, other, sum);
        held = record { is = omega (arith, held); low = omega (arith, held) };
        parts = record { is = omega (arith, parts); low = omega (arith, parts) };
      }

  pub goes : (b : ModelBooks P O) (number : ℕ) (u : ModelOwnedUpload P) → upload_at b number ≡ Some u → AreSound len size address b → b.entry_count < b.max_entries → Moves len size address u.tenant (held_by len u.upload) none b (without_upload b number)
  goes b number u found sound room =
      let there = (found_among b number u found sound).0 in
      let uploads = without 0 0 b number u found sound in
      record { room = room; there = there; uploads = uploads; objects = objects_stay b sound; fits = omega (arith, sound.within u.tenant there, uploads.reserved.is); stored = omega arith; few = omega arith }
