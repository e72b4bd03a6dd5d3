-- An upload is open, with what it holds, until a call seals or aborts it.
use Rattle.std.proofs.Common.{◌≡◌, ◌∙◌, ◌+◌, ◌<◌, ℕ, Bool, true, false, true≢false, List, [], ◌∷◌, Option, Some, None, arith, cond, refl, ap, sym, subst, length}
use Rattle.std.specs.Prelude.{◌==◌, ◌≢◌, if◌then◌else◌, option_map}
use Rattle.std.specs.BTreeMap.{insert_entry}
use Rattle.std.specs.Map.{lookup, remove_entry, set_value}
use Rattle.std.specs.List.{AllByRecursion}
use Rattle.std.specs.Option.{option_map_or, option_or}
use Rattle.std.specs.Ordering.{nat_cmp}
use Rattle.std.proofs.lemmas.Bool.{eq-eqb, eqb-true}
use Rattle.b3_forest.specs.Parts.{ModelPrepared}
use Rattle.b3_forest.proofs.Maps.{at_other, at_same, put_apart, put_here}
use Rattle.store_books.specs.Books.{IsOwnedUpload, ModelOwnedUpload, is_number, object_at, upload_at}
use Rattle.store_books.specs.Commands.{add_refused, full_refusal, with_begun, with_end, with_known, with_left, with_new, with_part, with_upload, without_upload, abort_refusal, begin_refusal, file_refusal, fix_refusal, forget_refusal, limit_refusal, ready_refusal, tenant_refusal}
use Rattle.store_books.specs.declared.refusal.Refusal.{Refusal}
use Rattle.store_books.specs.declared.refusal.Refusal.TheVariants.{NoUpload, WrongPlan}
use Rattle.store_books.proofs.Numbers.{at_is}
use Rattle.store_core.specs.Commands.{address_in, address_refused, content_in, filed_in, part_refused, sealed_by}
use Rattle.store_core.specs.Model.{ModelObject, ModelStore, ModelStoreBooks}
use Rattle.store_core.specs.Runs.{Call, FitsItsPlan, ask, change, put, replied}
use Rattle.store_core.specs.declared.command.Command.TheVariants as commands
use Rattle.store_core.specs.declared.store.questions.Reply.TheVariants as replies
use Rattle.store_upload.specs.Uploads.{UploadPlan, closed_plan, fixed_at, new_upload, open_plan, overlap_at, overlaps, place_fault, same_plan, with_more}
use Rattle.store_upload.specs.declared.refusal.AddFault.{AddFault}
use Rattle.store_upload.specs.declared.refusal.AddFault.TheVariants.{Overlap}
use Rattle.store_upload.proofs.Places.{clear_parts, over_from, some_is}
use Rattle.b3_core.specs.Modes.{hash_of}
use Rattle.store_shared.specs.Made.{IsFitting, advanced_by, after_call}
use Rattle.store_engines.specs.ClientLaws.{HoldsPart, IsOpen, ends}
use Rattle.store_engines.proofs.Along.{if_accepted_keeps, then_keeps}
use Rattle.store_core.proofs.Lookups.{lookup_front, lookup_last, removed_apart, set_apart, set_here}

-- one number is not another one
apart_numbers : (n m : ℕ) → (m == n) ≡ false → (k : ℕ) → is_number m k ≡ true → is_number n k ≡ false
apart_numbers n m apart k is = by (is_number n k) refl
  where
    by : (b : Bool) → is_number n k ≡ b → b ≡ false
    by true same =
        let m_is : m ≡ k = eqb-true m k (sym (at_is m k) ∙ is) in
        let n_is : n ≡ k = eqb-true n k (sym (at_is n k) ∙ same) in
        absurd (true≢false (sym (eq-eqb m n (m_is ∙ sym n_is)) ∙ apart))
    by false same = refl

-- ---- uploads

module _ (upload : ℕ) (u : ModelOwnedUpload (List ℕ)) where
  -- what is found stays found
  still : (b c : ModelStoreBooks) → ((w : ModelOwnedUpload (List ℕ)) → upload_at b upload ≡ Some w → upload_at c upload ≡ Some w) → IsOpen b upload u → IsOpen c upload u
  still b c finds was = record { begun = was.begun; found = finds was.begun was.found; tenant = was.tenant; plan = was.plan; parts = was.parts }

  -- one more is begun
  begun_more : (b : ModelStoreBooks) (tenant : ℕ) (plan : UploadPlan) → IsOpen b upload u → IsOpen (with_begun b tenant plan) upload u
  begun_more b tenant plan was = still b (with_begun b tenant plan) (λ w found. lookup_front (is_number upload) b.uploads _ w found) was

  -- an upload that follows another one keeps its tenant, its plan, and the parts
  record Follows (old new : ModelOwnedUpload (List ℕ)) : Type 0 where
    tenant : new.tenant ≡ old.tenant
    plan : new.upload.plan ≡ old.upload.plan
    parts : (offset : ℕ) (bytes : List ℕ) → lookup (is_number offset) u.upload.parts ≡ Some bytes → lookup (is_number offset) old.upload.parts ≡ Some bytes → lookup (is_number offset) new.upload.parts ≡ Some bytes

  -- one of them changes
  changed : (b : ModelStoreBooks) (m : ℕ) (w new : ModelOwnedUpload (List ℕ)) → upload_at b m ≡ Some w → Follows w new → IsOpen b upload u → IsOpen (with_upload b m new) upload u
  changed b m w new known follows was = by (m == upload) refl
    where
      by : (x : Bool) → (m == upload) ≡ x → IsOpen (with_upload b m new) upload u
      by true is =
          let same : m ≡ upload = eqb-true m upload is in
          let mine : w ≡ was.begun = some_is w was.begun (sym known ∙ (ap (upload_at b) same ∙ was.found)) in
          record {
            begun = new;
            found = subst (λ (n : ℕ). lookup (is_number n) (set_value (is_number m) b.uploads new) ≡ Some new) same (set_here (is_number m) b.uploads w new known);
            tenant = follows.tenant ∙ (ap (λ (v : ModelOwnedUpload (List ℕ)). v.tenant) mine ∙ was.tenant);
            plan = follows.plan ∙ (ap (λ (v : ModelOwnedUpload (List ℕ)). v.upload.plan) mine ∙ was.plan);
            parts = λ offset bytes has. follows.parts offset bytes has (subst (λ (v : ModelOwnedUpload (List ℕ)). lookup (is_number offset) v.upload.parts ≡ Some bytes) (sym mine) (was.parts offset bytes has));
          }
      by false apart = still b (with_upload b m new) (λ v found. set_apart (is_number upload) (is_number m) new (apart_numbers upload m apart) b.uploads ∙ found) was

  -- another one ends
  ended : (b c : ModelStoreBooks) (m : ℕ) → (m == upload) ≡ false → c.uploads ≡ remove_entry (is_number m) b.uploads → IsOpen b upload u → IsOpen c upload u
  ended b c m apart same was = still b c (λ w found. ap (lookup (is_number upload)) same ∙ (removed_apart (is_number upload) (is_number m) (apart_numbers upload m apart) b.uploads ∙ found)) was

  fix_keeps : (b : ModelStoreBooks) (m n : ℕ) (o : Option (ModelOwnedUpload (List ℕ))) → upload_at b m ≡ o → IsOpen b upload u → IsOpen (with_end b m n o) upload u
  fix_keeps b m n None known was = was
  fix_keeps b m n (Some w) known was = changed b m w (record w { upload = fixed_at w.upload n }) known (record { tenant = refl; plan = refl; parts = λ offset bytes mine has. has }) was

  new_keeps : (b : ModelStoreBooks) (m : ℕ) (content : List ℕ) (o : Option (ModelOwnedUpload (List ℕ))) → (m == upload) ≡ false → IsOpen b upload u → IsOpen (with_new b m content o) upload u
  new_keeps b m content None apart was = was
  new_keeps b m content (Some w) apart was = ended b (with_new b m content (Some w)) m apart refl was

  known_keeps : (b : ModelStoreBooks) (m : ℕ) (at : List ℕ) (o : Option (ModelOwnedUpload (List ℕ))) (object : Option ModelObject) → (m == upload) ≡ false → IsOpen b upload u → IsOpen (with_known hash_of b m at o object) upload u
  known_keeps b m at None object apart was = was
  known_keeps b m at (Some w) None apart was = was
  known_keeps b m at (Some w) (Some object) apart was = ended b (with_known hash_of b m at (Some w) (Some object)) m apart refl was

  left_keeps : (b : ModelStoreBooks) (t : ℕ) (at : List ℕ) (object : Option ModelObject) → IsOpen b upload u → IsOpen (with_left hash_of b t at object) upload u
  left_keeps b t at None was = was
  left_keeps b t at (Some object) was = still b (with_left hash_of b t at (Some object)) (λ w found. found) was

  sealed_keeps : (b : ModelStoreBooks) (m : ℕ) (known : Option ModelObject) → (m == upload) ≡ false → IsOpen b upload u → IsOpen (sealed_by b m known).state upload u
  sealed_keeps b m None apart was = new_keeps b m (content_in b m) (upload_at b m) apart was
  sealed_keeps b m (Some object) apart was = known_keeps b m (address_in b m) (upload_at b m) (object_at hash_of b (address_in b m)) apart was

-- ---- a part more

-- what an upload that takes a part holds, lies elsewhere
elsewhere : (at n offset : ℕ) (bytes : List ℕ) (ps : List (ℕ × List ℕ)) → 0 < n → 0 < length bytes → overlap_at length at n ps ≡ None → lookup (is_number offset) ps ≡ Some bytes → offset ≢ at
elsewhere at n offset bytes [] some full none found = absurd (cc)
elsewhere at n offset bytes (p ∷ ps) some full none found = by (is_number offset p.0) refl (λ there. elsewhere at n offset bytes ps some full (clear_parts length at n p ps none).1 there) found
  where
    clear : (overlaps length at n p ≡ false) × (overlap_at length at n ps ≡ None)
    clear = clear_parts length at n p ps none

    by : (x : Bool) → is_number offset p.0 ≡ x → (lookup (is_number offset) ps ≡ Some bytes → offset ≢ at) → cond x (Some p.1) (lookup (is_number offset) ps) ≡ Some bytes → offset ≢ at
    by true is rest here = λ same.
        let p_is : offset ≡ p.0 = eqb-true offset p.0 (sym (at_is offset p.0) ∙ is) in
        let long : length p.1 ≡ length bytes = ap length (some_is p.1 bytes here) in
        true≢false (sym (over_from length at n p (omega (arith, p_is, same, some)) (omega (arith, p_is, same, long, full))) ∙ clear.0)
    by false other rest there = rest there

-- an upload that takes a part has no byte of it
clear_in : (b : ModelStoreBooks) (m : ℕ) (p : ModelPrepared) (w : ModelOwnedUpload (List ℕ)) → upload_at b m ≡ Some w → part_refused b m p ≡ None → overlap_at length p.part.offset (length p.part.bytes) w.upload.parts ≡ None
clear_in b m p w known free = overlap _ _ (place _ _ (plan (same_plan p.plan w.upload.plan) _ (subst (λ (o : Option (ModelOwnedUpload (List ℕ))). refused o ≡ None) known free)))
  where
    n : ℕ
    n = length p.part.bytes

    refused : Option (ModelOwnedUpload (List ℕ)) → Option Refusal
    refused o = option_map_or
        (λ u. if same_plan p.plan u.upload.plan then option_map_or (λ v. option_or (option_map add_refused (place_fault length v.upload p.part.offset n)) (full_refusal b)) o (Some NoUpload) else Some WrongPlan)
        o (Some NoUpload)

    plan : (x : Bool) (rest : Option Refusal) → (if x then rest else Some WrongPlan) ≡ None → rest ≡ None
    plan true rest is = is
    plan false rest is = absurd (cc is)

    place : (fault : Option AddFault) (rest : Option Refusal) → option_or (option_map add_refused fault) rest ≡ None → fault ≡ None
    place None rest is = refl
    place (Some f) rest is = absurd (cc is)

    overlap : (o : Option ℕ) (rest : Option AddFault) → option_or (option_map Overlap o) rest ≡ None → o ≡ None
    overlap None rest is = refl
    overlap (Some at) rest is = absurd (cc is)

-- each part has bytes
abbrev pub HasBytes : ModelOwnedUpload (List ℕ) → Type 0
HasBytes u = (offset : ℕ) (bytes : List ℕ) → lookup (is_number offset) u.upload.parts ≡ Some bytes → 0 < length bytes

module _ (upload : ℕ) (u : ModelOwnedUpload (List ℕ)) (full : HasBytes u) where
  put_keeps : (b : ModelStoreBooks) (m : ℕ) (p : ModelPrepared) → FitsItsPlan p → part_refused b m p ≡ None → (o : Option (ModelOwnedUpload (List ℕ))) → upload_at b m ≡ o → IsOpen b upload u → IsOpen (with_part length b m p.part.offset p.part.bytes o) upload u
  put_keeps b m p fits free None known was = was
  put_keeps b m p fits free (Some w) known was = changed upload u b m w (record w { upload = with_more length w.upload p.part.offset p.part.bytes }) known (record { tenant = refl; plan = refl; parts = stays }) was
    where
      stays : (offset : ℕ) (bytes : List ℕ) → lookup (is_number offset) u.upload.parts ≡ Some bytes → lookup (is_number offset) w.upload.parts ≡ Some bytes → lookup (is_number offset) (insert_entry nat_cmp w.upload.parts p.part.offset p.part.bytes) ≡ Some bytes
      stays offset bytes mine has =
          put_apart w.upload.parts p.part.offset offset p.part.bytes (elsewhere p.part.offset (length p.part.bytes) offset bytes w.upload.parts fits.some (full offset bytes mine) (clear_in b m p w known free) has) ∙ has

  -- a call that doesn't end the upload leaves it
  pub call_keeps : (s : ModelStore) (c : Call) → (ends upload c ≡ false) × IsFitting c → IsOpen s.state upload u → IsOpen (after_call s c).state upload u
  call_keeps s c apart was = by c apart
    where
      b : ModelStoreBooks
      b = s.state

      Keeps : ModelStore → Type 0
      Keeps t = IsOpen t.state upload u

      stay : (d : ModelStoreBooks) → d.uploads ≡ b.uploads → IsOpen d upload u
      stay d same = still upload u b d (λ w found. ap (lookup (is_number upload)) same ∙ found) was

      sealed : (m : ℕ) → (m == upload) ≡ false → Keeps (advanced_by s (replied replies.Sealed (filed_in b m)))
      sealed m apart = if_accepted_keeps _ Keeps s was (file_refusal length hash_of b m (address_in b m)) (sealed_by b m (object_at hash_of b (address_in b m))) (λ none. sealed_keeps upload u b m (object_at hash_of b (address_in b m)) apart was)

      by : (d : Call) → (ends upload d ≡ false) × IsFitting d → Keeps (after_call s d)
      by (change (commands.OpenTenant limit)) apart = if_accepted_keeps _ Keeps s was (tenant_refusal b limit) _ (λ none. stay _ refl)
      by (change (commands.SetLimit t limit)) apart = if_accepted_keeps _ Keeps s was (limit_refusal length b t limit) _ (λ none. stay _ refl)
      by (change (commands.Begin t len)) apart = if_accepted_keeps _ Keeps s was (begin_refusal length b t len) _ (λ none. begun_more upload u b t (closed_plan len) was)
      by (change (commands.BeginOpen t at_most)) apart = if_accepted_keeps _ Keeps s was (begin_refusal length b t at_most) _ (λ none. begun_more upload u b t (open_plan at_most) was)
      by (change (commands.Fix m n)) apart = if_accepted_keeps _ Keeps s was (fix_refusal length b m n) _ (λ none. fix_keeps upload u b m n (upload_at b m) refl was)
      by (change (commands.Seal m)) apart = then_keeps _ Keeps s was (ready_refusal length b m) (filed_in b m) (sealed m apart.0)
      by (change (commands.SealAs m at)) apart = then_keeps _ Keeps s was (ready_refusal length b m) _ (then_keeps _ Keeps s was (address_refused b m at) (filed_in b m) (sealed m apart.0))
      by (change (commands.Abort m)) apart = if_accepted_keeps _ Keeps s was (abort_refusal b m) _ (λ none. ended upload u b (without_upload b m) m apart.0 refl was)
      by (change (commands.Forget t at)) apart = if_accepted_keeps _ Keeps s was (forget_refusal hash_of b t at) _ (λ none. left_keeps upload u b t at (object_at hash_of b at) was)
      by (put m p) apart = if_accepted_keeps _ Keeps s was (part_refused b m p) _ (λ none. put_keeps b m p apart.1 none (upload_at b m) refl was)
      by (ask question) apart = was

-- ---- numbers

module _ (least : ℕ) where
  abbrev Above : ModelStore → Type 0
  Above t = least < t.state.begun

  fix_above : (s : ModelStore) (m n : ℕ) (o : Option (ModelOwnedUpload (List ℕ))) → Above s → least < (with_end s.state m n o).begun
  fix_above s m n None was = was
  fix_above s m n (Some w) was = was

  new_above : (s : ModelStore) (m : ℕ) (content : List ℕ) (o : Option (ModelOwnedUpload (List ℕ))) → Above s → least < (with_new s.state m content o).begun
  new_above s m content None was = was
  new_above s m content (Some w) was = was

  known_above : (s : ModelStore) (m : ℕ) (at : List ℕ) (o : Option (ModelOwnedUpload (List ℕ))) (object : Option ModelObject) → Above s → least < (with_known hash_of s.state m at o object).begun
  known_above s m at None object was = was
  known_above s m at (Some w) None was = was
  known_above s m at (Some w) (Some object) was = was

  left_above : (s : ModelStore) (t : ℕ) (at : List ℕ) (object : Option ModelObject) → Above s → least < (with_left hash_of s.state t at object).begun
  left_above s t at None was = was
  left_above s t at (Some object) was = was

  part_above : (s : ModelStore) (m : ℕ) (p : ModelPrepared) (o : Option (ModelOwnedUpload (List ℕ))) → Above s → least < (with_part length s.state m p.part.offset p.part.bytes o).begun
  part_above s m p None was = was
  part_above s m p (Some w) was = was

  sealed_above : (s : ModelStore) (m : ℕ) (known : Option ModelObject) → Above s → least < (sealed_by s.state m known).state.begun
  sealed_above s m None was = new_above s m (content_in s.state m) (upload_at s.state m) was
  sealed_above s m (Some object) was = known_above s m (address_in s.state m) (upload_at s.state m) (object_at hash_of s.state (address_in s.state m)) was

  -- no call lowers the number of the next upload
  pub begun_rises : (s : ModelStore) (c : Call) → IsFitting c → Above s → Above (after_call s c)
  begun_rises s c fits was = by c
    where
      b : ModelStoreBooks
      b = s.state

      more : least < b.begun + 1
      more = omega (arith, was)

      filed : (m : ℕ) → Above (advanced_by s (replied replies.Sealed (filed_in b m)))
      filed m = if_accepted_keeps _ Above s was (file_refusal length hash_of b m (address_in b m)) (sealed_by b m (object_at hash_of b (address_in b m))) (λ none. sealed_above s m (object_at hash_of b (address_in b m)) was)

      by : (d : Call) → Above (after_call s d)
      by (change (commands.OpenTenant limit)) = if_accepted_keeps _ Above s was (tenant_refusal b limit) _ (λ none. was)
      by (change (commands.SetLimit t limit)) = if_accepted_keeps _ Above s was (limit_refusal length b t limit) _ (λ none. was)
      by (change (commands.Begin t len)) = if_accepted_keeps _ Above s was (begin_refusal length b t len) _ (λ none. more)
      by (change (commands.BeginOpen t at_most)) = if_accepted_keeps _ Above s was (begin_refusal length b t at_most) _ (λ none. more)
      by (change (commands.Fix m n)) = if_accepted_keeps _ Above s was (fix_refusal length b m n) _ (λ none. fix_above s m n (upload_at b m) was)
      by (change (commands.Seal m)) = then_keeps _ Above s was (ready_refusal length b m) (filed_in b m) (filed m)
      by (change (commands.SealAs m at)) = then_keeps _ Above s was (ready_refusal length b m) _ (then_keeps _ Above s was (address_refused b m at) (filed_in b m) (filed m))
      by (change (commands.Abort m)) = if_accepted_keeps _ Above s was (abort_refusal b m) _ (λ none. was)
      by (change (commands.Forget t at)) = if_accepted_keeps _ Above s was (forget_refusal hash_of b t at) _ (λ none. left_above s t at (object_at hash_of b at) was)
      by (put m p) = if_accepted_keeps _ Above s was (part_refused b m p) _ (λ none. part_above s m p (upload_at b m) was)
      by (ask question) = was

-- ---- a begin

-- no upload has the next number
next_free : (n k : ℕ) (es : List (ℕ × ModelOwnedUpload (List ℕ))) → AllByRecursion (IsOwnedUpload length n k) es → lookup (is_number k) es ≡ None
next_free n k [] below = refl
next_free n k (e ∷ es) below = let less = below.0.number in rw (at_other k e.0 (λ same. absurd (omega (arith, same, less)))) (next_free n k es below.1)

-- an upload that was begun is there
pub begun_there : (b : ModelStoreBooks) (tenant : ℕ) (plan : UploadPlan) → AllByRecursion (IsOwnedUpload length (length b.tenant_limits) b.begun) b.uploads → upload_at (with_begun b tenant plan) b.begun ≡ Some (record { tenant = tenant; upload = new_upload plan })
begun_there b tenant plan below = lookup_last (is_number b.begun) b.uploads b.begun _ (at_same b.begun) (next_free (length b.tenant_limits) b.begun b.uploads below)

-- ---- a put

-- a part that was put is there
pub put_there : (b : ModelStoreBooks) (upload : ℕ) (p : ModelPrepared) (o : Option (ModelOwnedUpload (List ℕ))) → upload_at b upload ≡ o → part_refused b upload p ≡ None → HoldsPart (with_part length b upload p.part.offset p.part.bytes o) upload p.part.offset p.part.bytes
put_there b upload p None known free = absurd (cc (known, free))
put_there b upload p (Some w) known free =
    let new = record w { upload = with_more length w.upload p.part.offset p.part.bytes } in
    record { begun = new; found = set_here (is_number upload) b.uploads w new known; part = put_here w.upload.parts p.part.offset p.part.bytes }
