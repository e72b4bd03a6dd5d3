-- What a tenant holds, it holds until a call forgets it for the tenant.
use Rattle.std.proofs.Common.{◌≡◌, ◌≢◌, ◌∙◌, ℕ, Bool, true, false, true≢false, List, [], ◌∷◌, ◌++◌, Option, Some, None, cond, refl, ap, sym, subst, length}
use Rattle.std.specs.Prelude.{◌==◌, ◌&&◌, ◌||◌}
use Rattle.std.specs.Map.{lookup, remove_entry, set_value, values_of}
use Rattle.std.specs.Str.{bytes_eq}
use Rattle.std.proofs.lemmas.Bool.{eq-eqb}
use Rattle.std.proofs.lemmas.Slice.Eq.{bytes_eq-Decides}
use Rattle.b3_core.specs.Modes.{hash_of}
use Rattle.store_books.specs.Books.{ModelOwnedUpload, Filed, addressed, is_held_by, object_among, object_at, upload_at}
use Rattle.store_books.specs.Commands.{abort_refusal, begin_refusal, file_refusal, fix_refusal, forget_refusal, limit_refusal, ready_refusal, tenant_refusal, with_end, with_holder, with_holders, with_known, with_left, with_new, with_part, without_holder}
use Rattle.store_books.specs.inner.Catalog.{IsAddressed}
use Rattle.store_books.proofs.AddressedObjects.{all_addressed, readdressed}
use Rattle.store_books.proofs.Lists.{all_removed, all_set}
use Rattle.store_books.proofs.RisingHolders.{has, has_with, other_without}
use Rattle.store_core.specs.Commands.{address_in, address_refused, content_in, filed_in, part_refused, sealed_by}
use Rattle.store_core.specs.Model.{ModelObject, ModelStore, ModelStoreBooks}
use Rattle.store_core.specs.Runs.{Call, ask, change, put, replied}
use Rattle.store_core.specs.declared.command.Command.TheVariants as commands
use Rattle.store_core.specs.declared.store.questions.Reply.TheVariants as replies
use Rattle.store_core.proofs.Lookups.{apart_keys, found_front, found_last, removed_apart, set_apart, set_here}
use Rattle.store_upload.proofs.Places.{some_is}
use Rattle.store_shared.specs.Made.{advanced_by, after_call}
use Rattle.store_engines.specs.ClientLaws.{forgets}
use Rattle.store_engines.proofs.Along.{if_accepted_keeps, then_keeps}

-- ---- objects

module _ {O : Type 0} (address : O → List ℕ) where
  -- the tenant holds this content at the address
  pub record Among (os : List (Filed O)) (tenant : ℕ) (at : List ℕ) (content : O) : Type 0 where
    pub object : Filed O
    pub found : object_among address os at ≡ Some object
    pub same : object.content ≡ content
    pub held : is_held_by tenant object ≡ true

  held_removed : (os : List (Filed O)) (at other : List ℕ) (tenant : ℕ) (content : O) (b : Bool) → bytes_eq other at ≡ b → (b ≡ true → ⊥) → (b ≡ false → Among os tenant at content) → Among (values_of (remove_entry (bytes_eq other) (addressed address os))) tenant at content
  held_removed os at other tenant content true is never others = absurd (never refl)
  held_removed os at other tenant content false apart never others =
      let was = others refl in
      let back = readdressed address (remove_entry (bytes_eq other) (addressed address os)) (all_removed (IsAddressed address) (bytes_eq other) (addressed address os) (all_addressed address os)) in
      record { object = was.object; found = ap (lookup (bytes_eq at)) back ∙ removed_apart (bytes_eq at) (bytes_eq other) (apart_keys at other apart) (addressed address os) ∙ was.found; same = was.same; held = was.held }

  held_set : (os : List (Filed O)) (at other : List ℕ) (tenant : ℕ) (content : O) (o now : Filed O) → object_among address os other ≡ Some o
      → addressed address (values_of (set_value (bytes_eq other) (addressed address os) now)) ≡ set_value (bytes_eq other) (addressed address os) now
      → (b : Bool) → bytes_eq other at ≡ b → (b ≡ true → (is_held_by tenant now ≡ true) × (now.content ≡ content)) → (b ≡ false → Among os tenant at content) → Among (values_of (set_value (bytes_eq other) (addressed address os) now)) tenant at content
  held_set os at other tenant content o now known back true is mine others =
      let at_is : at ≡ other = sym ((bytes_eq-Decides other at).0 is) in
      record { object = now; found = ap (lookup (bytes_eq at)) back ∙ (ap (λ (k : List ℕ). lookup (bytes_eq k) (set_value (bytes_eq other) (addressed address os) now)) at_is ∙ set_here (bytes_eq other) (addressed address os) o now known); same = (mine refl).1; held = (mine refl).0 }
  held_set os at other tenant content o now known back false apart mine others =
      let was = others refl in
      record { object = was.object; found = ap (lookup (bytes_eq at)) back ∙ (set_apart (bytes_eq at) (bytes_eq other) now (apart_keys at other apart) (addressed address os) ∙ was.found); same = was.same; held = was.held }

  -- the holders of an object change: the tenant still holds its own
  held_with : (os : List (Filed O)) (at other : List ℕ) (tenant : ℕ) (content : O) (o : Filed O) (holders : List ℕ) → object_among address os other ≡ Some o
      → (bytes_eq other at ≡ true → (has tenant holders ≡ true) × (o.content ≡ content)) → (bytes_eq other at ≡ false → Among os tenant at content) → Among (with_holders address os other o holders) tenant at content
  held_with os at other tenant content o [] known mine others = held_removed os at other tenant content (bytes_eq other at) refl (λ is. true≢false (sym (mine is).0)) others
  held_with os at other tenant content o (h ∷ holders) known mine others =
      let now : Filed O = record o { holders = h ∷ holders } in
      let back = readdressed address (set_value (bytes_eq other) (addressed address os) now) (all_set (IsAddressed address) (bytes_eq other) (addressed address os) o now (λ k is. is) known (all_addressed address os)) in
      held_set os at other tenant content o now known back (bytes_eq other at) refl mine others

  -- where the address is the other one, the object that is there is the tenant's
  own : (os : List (Filed O)) (at other : List ℕ) (tenant : ℕ) (content : O) (o : Filed O) → object_among address os other ≡ Some o → Among os tenant at content → bytes_eq other at ≡ true → (is_held_by tenant o ≡ true) × (o.content ≡ content)
  own os at other tenant content o known was is =
      let found : object_among address os other ≡ Some was.object = ap (object_among address os) ((bytes_eq-Decides other at).0 is) ∙ was.found in
      let mine : o ≡ was.object = some_is o was.object (sym known ∙ found) in
      (ap (is_held_by tenant) mine ∙ was.held, ap (λ (f : Filed O). f.content) mine ∙ was.same)

-- ---- calls

-- the tenant holds these bytes at the address
abbrev pub Holds : ModelStoreBooks → ℕ → List ℕ → List ℕ → Type 0
Holds b tenant at bytes = Among hash_of b.objects tenant at bytes

or_known : (a b : Bool) → b ≡ true → (a || b) ≡ true
or_known true b is = refl
or_known false b is = is

has_still : (t u : ℕ) (hs : List ℕ) → has t hs ≡ true → has t (with_holder u hs) ≡ true
has_still t u hs is = has_with u t hs ∙ or_known (u == t) (has t hs) is

eq_apart : (t u : ℕ) → (u == t) ≡ false → u ≢ t
eq_apart t u apart same = true≢false (sym (eq-eqb u t same) ∙ apart)

-- the objects stay as they are
put_same : (b : ModelStoreBooks) (number offset : ℕ) (bytes : List ℕ) (u : Option (ModelOwnedUpload (List ℕ))) → (with_part length b number offset bytes u).objects ≡ b.objects
put_same b number offset bytes None = refl
put_same b number offset bytes (Some u) = refl

fix_same : (b : ModelStoreBooks) (number n : ℕ) (u : Option (ModelOwnedUpload (List ℕ))) → (with_end b number n u).objects ≡ b.objects
fix_same b number n None = refl
fix_same b number n (Some u) = refl

module _ (tenant : ℕ) (at bytes : List ℕ) where
  stay : (b c : ModelStoreBooks) → c.objects ≡ b.objects → Holds b tenant at bytes → Holds c tenant at bytes
  stay b c same was = subst (λ (os : List ModelObject). Among hash_of os tenant at bytes) (sym same) was

  new_holds : (b : ModelStoreBooks) (number : ℕ) (content : List ℕ) (u : Option (ModelOwnedUpload (List ℕ))) → Holds b tenant at bytes → Holds (with_new b number content u) tenant at bytes
  new_holds b number content None was = was
  new_holds b number content (Some u) was =
      record { object = was.object; found = found_front hash_of b.objects (record { content = content; holders = u.tenant ∷ []; number = b.entry_count } ∷ []) at was.object was.found; same = was.same; held = was.held }

  known_holds : (b : ModelStoreBooks) (number : ℕ) (other : List ℕ) (u : Option (ModelOwnedUpload (List ℕ))) (o : Option ModelObject) → object_at hash_of b other ≡ o → Holds b tenant at bytes → Holds (with_known hash_of b number other u o) tenant at bytes
  known_holds b number other None o known was = was
  known_holds b number other (Some u) None known was = was
  known_holds b number other (Some u) (Some o) known was =
      held_with hash_of b.objects at other tenant bytes o (with_holder u.tenant o.holders) known
      (λ is. let mine = own hash_of b.objects at other tenant bytes o known was is in (has_still tenant u.tenant o.holders mine.0, mine.1)) (λ apart. was)

  left_holds : (b : ModelStoreBooks) (t : ℕ) (other : List ℕ) (o : Option ModelObject) → object_at hash_of b other ≡ o → (t == tenant && bytes_eq other at) ≡ false → Holds b tenant at bytes → Holds (with_left hash_of b t other o) tenant at bytes
  left_holds b t other None known apart was = was
  left_holds b t other (Some o) known apart was =
      held_with hash_of b.objects at other tenant bytes o (without_holder t o.holders) known
      (λ is. let mine = own hash_of b.objects at other tenant bytes o known was is in (other_without t tenant o.holders (eq_apart tenant t (first (t == tenant) (bytes_eq other at) apart is)) ∙ mine.0, mine.1)) (λ apart'. was)
    where
      first : (x y : Bool) → (x && y) ≡ false → y ≡ true → x ≡ false
      first true y fails is = absurd (true≢false (sym is ∙ fails))
      first false y fails is = refl

  sealed_holds : (b : ModelStoreBooks) (m : ℕ) (known : Option ModelObject) → Holds b tenant at bytes → Holds (sealed_by b m known).state tenant at bytes
  sealed_holds b m None was = new_holds b m (content_in b m) (upload_at b m) was
  sealed_holds b m (Some object) was = known_holds b m (address_in b m) (upload_at b m) (object_at hash_of b (address_in b m)) refl was

  -- a call that doesn't forget the object for the tenant leaves what it holds
  pub call_holds : (s : ModelStore) (c : Call) → forgets tenant at c ≡ false → Holds s.state tenant at bytes → Holds (after_call s c).state tenant at bytes
  call_holds s c apart was = by c apart
    where
      b : ModelStoreBooks
      b = s.state

      Keeps : ModelStore → Type 0
      Keeps t = Holds t.state tenant at bytes

      sealed : (m : ℕ) → Keeps (advanced_by s (replied replies.Sealed (filed_in b m)))
      sealed m = if_accepted_keeps _ Keeps s was (file_refusal length hash_of b m (address_in b m)) (sealed_by b m (object_at hash_of b (address_in b m))) (λ none. sealed_holds b m (object_at hash_of b (address_in b m)) was)

      by : (d : Call) → forgets tenant at d ≡ false → Keeps (after_call s d)
      by (change (commands.OpenTenant limit)) apart = if_accepted_keeps _ Keeps s was (tenant_refusal b limit) _ (λ none. was)
      by (change (commands.SetLimit t limit)) apart = if_accepted_keeps _ Keeps s was (limit_refusal length b t limit) _ (λ none. was)
      by (change (commands.Begin t len)) apart = if_accepted_keeps _ Keeps s was (begin_refusal length b t len) _ (λ none. was)
      by (change (commands.BeginOpen t at_most)) apart = if_accepted_keeps _ Keeps s was (begin_refusal length b t at_most) _ (λ none. was)
      by (change (commands.Fix m n)) apart = if_accepted_keeps _ Keeps s was (fix_refusal length b m n) _ (λ none. stay b (with_end b m n (upload_at b m)) (fix_same b m n (upload_at b m)) was)
      by (change (commands.Seal m)) apart = then_keeps _ Keeps s was (ready_refusal length b m) (filed_in b m) (sealed m)
      by (change (commands.SealAs m a)) apart = then_keeps _ Keeps s was (ready_refusal length b m) _ (then_keeps _ Keeps s was (address_refused b m a) (filed_in b m) (sealed m))
      by (change (commands.Abort m)) apart = if_accepted_keeps _ Keeps s was (abort_refusal b m) _ (λ none. was)
      by (change (commands.Forget t a)) apart = if_accepted_keeps _ Keeps s was (forget_refusal hash_of b t a) _ (λ none. left_holds b t a (object_at hash_of b a) refl apart was)
      by (put m p) apart = if_accepted_keeps _ Keeps s was (part_refused b m p) _ (λ none. stay b (with_part length b m p.part.offset p.part.bytes (upload_at b m)) (put_same b m p.part.offset p.part.bytes (upload_at b m)) was)
      by (ask question) apart = was

-- ---- a seal

tenant_in : Option (ModelOwnedUpload (List ℕ)) → ℕ
tenant_in None = 0
tenant_in (Some w) = w.tenant

-- the tenant of an upload that is sealed holds its content
pub seal_holds : (b : ModelStoreBooks) (upload : ℕ) (u : ModelOwnedUpload (List ℕ)) (known : Option ModelObject) → upload_at b upload ≡ Some u → object_at hash_of b (address_in b upload) ≡ known
    → Holds (sealed_by b upload known).state u.tenant (sealed_by b upload known).reply.address (sealed_by b upload known).reply.bytes
unfolding tenant_in
seal_holds b upload u None found none = by (upload_at b upload) found
  where
    at : List ℕ
    at = address_in b upload

    by : (o : Option (ModelOwnedUpload (List ℕ))) → o ≡ Some u → Holds (with_new b upload (content_in b upload) o) u.tenant at (content_in b upload)
    by None is = absurd (cc is)
    by (Some v) is =
        let o : ModelObject = record { content = content_in b upload; holders = v.tenant ∷ []; number = b.entry_count } in
        record { object = o; found = found_last hash_of b.objects o at refl none; same = refl; held = ap (λ (x : Bool). x || false) (eq-eqb v.tenant u.tenant (ap tenant_in is)) }
seal_holds b upload u (Some object) found known = by (upload_at b upload) (object_at hash_of b at) found known
  where
    at : List ℕ
    at = address_in b upload

    by : (o : Option (ModelOwnedUpload (List ℕ))) (k : Option ModelObject) → o ≡ Some u → k ≡ Some object → Holds (with_known hash_of b upload at o k) u.tenant at object.content
    by None k is there = absurd (cc is)
    by (Some v) None is there = absurd (cc there)
    by (Some v) (Some o) is there =
        held_with hash_of b.objects at at u.tenant object.content o (with_holder v.tenant o.holders) (known ∙ sym there)
        (λ same. (has_with v.tenant u.tenant o.holders ∙ ap (λ (x : Bool). x || has u.tenant o.holders) (eq-eqb v.tenant u.tenant (ap tenant_in is)), ap (λ (f : ModelObject). f.content) (some_is o object there)))
        (λ apart. absurd (true≢false (sym ((bytes_eq-Decides at at).1 refl) ∙ apart)))
