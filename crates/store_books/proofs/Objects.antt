-- What each command on objects leaves.
use Rattle.std.proofs.Common.{◌≡◌, ◌∙◌, ◌+◌, ◌<◌, ◌≤◌, ℕ, Bool, true, false, List, [], ◌∷◌, Option, Some, None, cond, refl, ap, sym, arith, length, inl, inr}
use Rattle.std.specs.Prelude.{◌==◌, ◌&&◌, ◌||◌, if◌then◌else◌, nat_le, nat_lt, not}
use Rattle.std.specs.List.{AllByRecursion}
use Rattle.std.specs.Map.{remove_entry, set_value}
use Rattle.std.specs.Str.{bytes_eq}
use Rattle.std.proofs.lemmas.Bool.{cases_Bool, eq-eqb, ltb-false, ne_eqb}
use Rattle.std.proofs.lemmas.List.Sums.{sum_by_push}
use Rattle.store_books.specs.declared.refusal.Refusal.{Refusal}
use Rattle.store_books.specs.declared.refusal.Refusal.TheVariants.{NotHeld}
use Rattle.store_books.specs.Books.{AreSound, ModelOwnedUpload, ModelBooks, Filed, IsFiledAmong, IsRisingFrom, addressed, free_of, is_held_by, object_among, object_at, upload_at, use_by, use_of}
use Rattle.store_books.specs.Commands.{is_over, with_holder, with_holders, with_known, with_left, with_new, without_holder}
use Rattle.store_books.specs.inner.Kept.{held_by}
use Rattle.store_upload.specs.Uploads.{finish_fault, length_of}
use Rattle.store_upload.proofs.Complete.{whole_is}
use Rattle.store_upload.proofs.Places.{not_some}
use Rattle.store_books.proofs.AddressedObjects.{apart_filed, apart_with, sum_with, weight, weight_some, weight_with}
use Rattle.store_books.proofs.Commands.{found_among, none, object_amounts, without}
use Rattle.store_books.proofs.Lists.{all_found, all_push, all_removed, all_set, all_values}
use Rattle.store_books.proofs.RisingHolders.{alone_without, below_with, below_without, has, has_with, has_without, rising_with, rising_without, several_without}
use Rattle.store_books.proofs.Sums.{Moves, same}

-- ---- what a tenant uses by an object

abbrev pub where_so : Bool → ℕ → ℕ
where_so b n = cond b n 0

has_own : (t : ℕ) (hs : List ℕ) → has t (with_holder t hs) ≡ true
has_own t hs = has_with t t hs ∙ rw (eq-eqb t t refl) refl

has_other : (t q : ℕ) (hs : List ℕ) → (t ≡ q → ⊥) → has q (with_holder t hs) ≡ has q hs
has_other t q hs apart = has_with t q hs ∙ rw (ne_eqb t q apart) refl

freed_own : (t : ℕ) (hs : List ℕ) → IsRisingFrom 0 hs → has t (without_holder t hs) ≡ false
freed_own t hs rising = has_without t t 0 hs rising ∙ rw (eq-eqb t t refl) (none_of (has t hs))
  where
    none_of : (x : Bool) → (x && not true) ≡ false
    none_of true = refl
    none_of false = refl

stays_other : (t q : ℕ) (hs : List ℕ) → IsRisingFrom 0 hs → (t ≡ q → ⊥) → has q (without_holder t hs) ≡ has q hs
stays_other t q hs rising apart = has_without t q 0 hs rising ∙ rw (ne_eqb t q apart) (all_of (has q hs))
  where
    all_of : (x : Bool) → (x && not false) ≡ x
    all_of true = refl
    all_of false = refl

module _ {O : Type 0} (size : O → ℕ) where
  weight_use : (q : ℕ) (o : Filed O) (holders : List ℕ) → weight (use_by size q) o holders ≡ where_so (has q holders) (size o.content)
  weight_use q o [] = refl
  weight_use q o (h ∷ holders) = refl

  used_by : (q : ℕ) (content : O) (t number : ℕ) → use_by size q (record { content = content; holders = t ∷ []; number = number }) ≡ where_so (t == q) (size content)
  used_by q content t number = by (t == q)
    where
      by : (b : Bool) → cond (b || false) (size content) 0 ≡ where_so b (size content)
      by true = refl
      by false = refl

-- a command on what is held
pub is_held : (held : Bool) (rest : Option Refusal) → (if held then rest else Some NotHeld) ≡ None → (held ≡ true) × (rest ≡ None)
is_held true rest h = (refl, h)
is_held false rest h = absurd (not_some NotHeld (sym h))

-- ---- what holds of objects

module _ {O : Type 0} (address : O → List ℕ) where
  all_entries : (Q : Filed O → Type 0) (os : List (Filed O)) → AllByRecursion Q os → AllByRecursion (λ e. Q e.1) (addressed address os)
  all_entries Q [] h = tt
  all_entries Q (o ∷ os) h = (h.0, all_entries Q os h.1)

  pub object_found : (Q : Filed O → Type 0) (os : List (Filed O)) (at : List ℕ) (o : Filed O) → object_among address os at ≡ Some o → AllByRecursion Q os → Q o
  object_found Q os at o found all = all_found (λ e. Q e.1) Q (bytes_eq at) (addressed address os) o (λ k x q. q) found (all_entries Q os all)

  all_with : (Q : Filed O → Type 0) (os : List (Filed O)) (at : List ℕ) (o : Filed O) (holders : List ℕ) → object_among address os at ≡ Some o → AllByRecursion Q os → Q (record o { holders = holders }) → AllByRecursion Q (with_holders address os at o holders)
  all_with Q os at o [] found all now =
      all_values (λ e. Q e.1) Q (remove_entry (bytes_eq at) (addressed address os)) (λ k x q. q) (all_removed (λ e. Q e.1) (bytes_eq at) (addressed address os) (all_entries Q os all))
  all_with Q os at o (h ∷ holders) found all now =
      let w : Filed O = record o { holders = h ∷ holders } in
      all_values (λ e. Q e.1) Q (set_value (bytes_eq at) (addressed address os) w) (λ k x q. q) (all_set (λ e. Q e.1) (bytes_eq at) (addressed address os) o w (λ k q. now) found (all_entries Q os all))

module _ {P O : Type 0} (len : P → ℕ) (size : O → ℕ) (address : O → List ℕ) where
  -- ---- a complete upload is filed

  pub files : (b : ModelBooks P O) (number : ℕ) (content : O) (u : ModelOwnedUpload P) (n : ℕ) → n ≡ length_of u.upload → upload_at b number ≡ Some u → AreSound len size address b → b.entry_count < b.max_entries → finish_fault len u.upload ≡ None
      → object_at address b (address content) ≡ None → size content ≡ length_of u.upload → Moves len size address u.tenant (held_by len u.upload) (object_amounts n n) b (with_new b number content (Some u))
  files b number content u n is found sound room ready absent long =
      let was = found_among len size address b number u found sound in
      let uploads = without len size address n n b number u found sound in
      let o : Filed O = record { content = content; holders = u.tenant ∷ []; number = b.entry_count } in
      let whole = whole_is len u.upload was.1 ready in
      let within = sound.within u.tenant was.0 in
      let uses = sum_by_push (use_by size u.tenant) b.objects o in
      let mine : use_by size u.tenant o ≡ length_of u.upload = used_by size u.tenant content u.tenant b.entry_count ∙ ap (λ (x : Bool). where_so x (size content)) (eq-eqb u.tenant u.tenant refl) ∙ long in
      let bytes = sum_by_push (λ (x : Filed O). size x.content) b.objects o in
      let reserved = uploads.reserved in
      record {
        room = room;
        there = was.0;
        uploads = uploads;
        objects = record {
          objects = all_push (IsFiledAmong (length b.tenant_limits)) b.objects o sound.objects (record { tenants = (was.0, tt); rising = (omega arith, tt) });
          apart = apart_filed address b.objects o sound.apart absent;
          used = record { is = omega (arith, uses, mine, is); low = omega arith };
          others = λ q apart.
              let other = used_by size q content u.tenant b.entry_count ∙ ap (λ (x : Bool). where_so x (size content)) (ne_eqb u.tenant q apart) in
              let sum = sum_by_push (use_by size q) b.objects o in
              omega (arith, other, sum);
          bytes = record { is = omega (arith, bytes, long, is); low = omega arith };
        };
        fits = omega (arith, uses, mine, reserved.is, reserved.low, within);
        stored = omega (arith, whole.held, is);
        few = omega arith;
      }

  -- ---- a complete upload's tenant joins

  -- what the tenant uses more
  abbrev pub more_by : ModelOwnedUpload P → Filed O → ℕ
  more_by u o = where_so (not (is_held_by u.tenant o)) (size o.content)

  more_used : (held : Bool) (n now before : ℕ) → now + where_so held n ≡ before + n → now ≡ before + where_so (not held) n
  more_used true n now before sum = omega (arith, sum)
  more_used false n now before sum = omega (arith, sum)

  more_fits : (held : Bool) (n most : ℕ) → (not held && nat_lt most n) ≡ false → where_so (not held) n ≤ most
  more_fits true n most over = omega arith
  more_fits false n most over = ltb-false most n over

  pub joins : (b : ModelBooks P O) (number : ℕ) (at : List ℕ) (u : ModelOwnedUpload P) (o : Filed O) (n : ℕ) → n ≡ more_by u o → upload_at b number ≡ Some u → object_at address b at ≡ Some o → AreSound len size address b → b.entry_count < b.max_entries → is_over size address b u o ≡ false
      → Moves len size address u.tenant (held_by len u.upload) (object_amounts n 0) b (with_known address b number at (Some u) (Some o))
  joins b number at u o n is found known sound room over =
      let t = u.tenant in
      let there = (found_among len size address b number u found sound).0 in
      let uploads = without len size address n 0 b number u found sound in
      let holders = with_holder t o.holders in
      let filed = object_found address (IsFiledAmong (length b.tenant_limits)) b.objects at o known sound.objects in
      let within = sound.within t there in
      let uses = sum_with address (use_by size t) b.objects at o holders known in
      let now = weight_use size t o holders ∙ ap (λ (x : Bool). where_so x (size o.content)) (has_own t o.holders) in
      let more = more_used (is_held_by t o) (size o.content) (use_of size (with_known address b number at (Some u) (Some o)) t) (use_of size b t) (omega (arith, uses, now)) in
      let fits = more_fits (is_held_by t o) (size o.content) (length_of u.upload + free_of size b t) over in
      let bytes = sum_with address (λ (x : Filed O). size x.content) b.objects at o holders known in
      let all = weight_with size o t in
      let reserved = uploads.reserved in
      record {
        room = room;
        there = there;
        uploads = uploads;
        objects = record {
          objects = all_with address (IsFiledAmong (length b.tenant_limits)) b.objects at o holders known sound.objects (record { tenants = below_with (length b.tenant_limits) t o.holders there filed.tenants; rising = rising_with 0 t o.holders (omega arith) filed.rising });
          apart = apart_with address b.objects at o holders known sound.apart;
          used = record { is = omega (arith, more, is); low = omega arith };
          others = λ q apart.
              let sum = sum_with address (use_by size q) b.objects at o holders known in
              let other = weight_use size q o holders ∙ ap (λ (x : Bool). where_so x (size o.content)) (has_other t q o.holders apart) in
              omega (arith, sum, other);
          bytes = record { is = omega (arith, bytes, all); low = omega arith };
        };
        fits = omega (arith, more, fits, reserved.is, reserved.low, within);
        stored = omega arith;
        few = omega arith;
      }

  -- ---- a tenant holds an object no longer

  bytes_left : (t : ℕ) (o : Filed O) → is_held_by t o ≡ true → weight (λ x. size x.content) o (without_holder t o.holders) + where_so (nat_le (length o.holders) 1) (size o.content) ≡ size o.content
  bytes_left t o held = elim (cases_Bool (nat_le (length o.holders) 1)) [
    | inl alone ↦
        let freed = ap (weight (λ (x : Filed O). size x.content) o) (alone_without t o.holders alone held) in
        let all : where_so (nat_le (length o.holders) 1) (size o.content) ≡ size o.content = rw alone refl in
        omega (arith, freed, all)
    | inr several ↦
        let stays = weight_some (λ (x : Filed O). size x.content) o (without_holder t o.holders) (several_without t o.holders several) in
        let none : where_so (nat_le (length o.holders) 1) (size o.content) ≡ 0 = rw several refl in
        omega (arith, stays, none)
  ]

  pub leaves : (b : ModelBooks P O) (t : ℕ) (at : List ℕ) (o : Filed O) (used bytes : ℕ) → used ≡ size o.content → bytes ≡ where_so (nat_le (length o.holders) 1) (size o.content) → object_at address b at ≡ Some o → AreSound len size address b → b.entry_count < b.max_entries
      → t < length b.tenant_limits → is_held_by t o ≡ true → Moves len size address t (object_amounts used bytes) none b (with_left address b t at (Some o))
  leaves b t at o used freed used_is freed_is known sound room there held =
      let holders = without_holder t o.holders in
      let filed = object_found address (IsFiledAmong (length b.tenant_limits)) b.objects at o known sound.objects in
      let within = sound.within t there in
      let uses = sum_with address (use_by size t) b.objects at o holders known in
      let mine : use_by size t o ≡ size o.content = rw held refl in
      let now = weight_use size t o holders ∙ ap (λ (x : Bool). where_so x (size o.content)) (freed_own t o.holders filed.rising) in
      let bytes = sum_with address (λ (x : Filed O). size x.content) b.objects at o holders known in
      let left = bytes_left t o held in
      record {
        room = room;
        there = there;
        uploads = record { few = omega arith; uploads = sound.uploads; sorted = sound.sorted; reserved = same; others = λ q apart. refl; held = same; parts = same };
        objects = record {
          objects = all_with address (IsFiledAmong (length b.tenant_limits)) b.objects at o holders known sound.objects (record { tenants = below_without (length b.tenant_limits) t o.holders filed.tenants; rising = rising_without 0 t o.holders filed.rising });
          apart = apart_with address b.objects at o holders known sound.apart;
          used = record { is = omega (arith, uses, mine, now, used_is); low = omega (arith, uses, mine, now, used_is) };
          others = λ q apart.
              let sum = sum_with address (use_by size q) b.objects at o holders known in
              let other = weight_use size q o holders ∙ ap (λ (x : Bool). where_so x (size o.content)) (stays_other t q o.holders filed.rising apart) in
              omega (arith, sum, other);
          bytes = record { is = omega (arith, bytes, left, freed_is); low = omega (arith, bytes, left, freed_is) };
        };
        fits = omega (arith, uses, mine, now, within);
        stored = omega arith;
        few = omega arith;
      }
