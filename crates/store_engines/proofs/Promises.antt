-- What a client may rely on, whatever other clients do.
use Rattle.std.proofs.Common.{◌≡◌, ◌∙◌, ◌-◌, ◌<◌, ◌≤◌, ◌++◌, ℕ, Bool, true, false, true≢false, List, [], ◌∷◌, Option, Some, None, Ok, Result, arith, refl, ap, sym, subst, length, take, drop}
use Rattle.std.specs.Prelude.{◌==◌, ◌||◌, if◌then◌else◌, is_some, nat_lt, option_map}
use Rattle.std.specs.List.{AllByRecursion, list_any}
use Rattle.std.specs.Option.{option_map_or}
use Rattle.std.proofs.lemmas.Bool.{eqb-true}
use Rattle.std.proofs.lemmas.List.{append_assoc}
use Rattle.std.proofs.lemmas.Bool.Decides.{nat_tests}
use Rattle.b3_core.specs.Modes.{hash_of}
use Rattle.b3_forest.specs.Uploads.{content_of}
use Rattle.store_books.specs.Books.{ModelOwnedUpload, IsFiledAmong, IsOwnedUpload, is_absent, is_number, object_at, upload_at}
use Rattle.store_books.specs.Commands.{begin_refusal, file_refusal, finish_refused, ready_refusal, with_begun}
use Rattle.store_books.specs.declared.refusal.Refusal.{Refusal}
use Rattle.store_books.specs.declared.refusal.Refusal.TheVariants.{NoUpload}
use Rattle.store_books.proofs.Lists.{all_found}
use Rattle.store_books.proofs.Objects.{object_found}
use Rattle.store_core.specs.Commands.{Acceptance, ModelSealed, StepsAs, address_in, address_refused, advanced, and_then, as_is, begin_plan_in, content_in, filed_in, opened, part_refused, sealed_by, unless}
use Rattle.store_core.specs.Model.{ModelObject, ModelStore, ModelStoreBooks}
use Rattle.store_core.specs.Questions.{fetch_in}
use Rattle.store_core.specs.Runs.{Call, Step, change, put, replied}
use Rattle.store_core.specs.declared.command.Command.{Command}
use Rattle.store_core.specs.declared.command.Command.TheVariants as commands
use Rattle.store_core.specs.declared.store.questions.Reply.{Reply}
use Rattle.store_core.specs.declared.store.questions.Reply.TheVariants as replies
use Rattle.store_upload.specs.Uploads.{IsUpload, ModelUpload, UploadPlan, closed_plan, finish_fault, first_gap, first_missing, length_of, new_upload, open_plan}
use Rattle.store_upload.specs.declared.refusal.FinishFault.{FinishFault}
use Rattle.store_upload.specs.declared.refusal.FinishFault.TheVariants.{Incomplete, NotFixed}
use Rattle.store_shared.specs.Made.{IsFitting, Numbers, empty_at, run_of, store_of}
use Rattle.store_engines.specs.ClientLaws.{BegunIsOpen, HoldsPart, IsOpen, NumbersRise, SealedIsHeld, SealsWhatWasPut, StaysOpen, StaysPut, begins, ends, forgets, seals}
use Rattle.store_engines.specs.ClientSteps.{WereAccepted}
use Rattle.store_engines.proofs.Accepted.{each_was_accepted, were_before}
use Rattle.store_engines.proofs.Along.{all_after, all_both, along, run_join}
use Rattle.store_engines.proofs.ObjectsStay.{Holds, call_holds, seal_holds}
use Rattle.store_engines.proofs.Slices.{placed_some, slice_from}
use Rattle.store_engines.proofs.UploadsStay.{HasBytes, begun_rises, begun_there, call_keeps, put_there}

-- ---- steps

-- what an accepted command says
acceptance : {M : Type 0} (f : M → Reply) (refusal : Option Refusal) (a : Acceptance M) (old new : ModelStore) (reply : Reply) → StepsAs as_is (replied f (unless refusal a)) old (Ok reply) new → (refusal ≡ None) × (reply ≡ f a.reply) × (new ≡ advanced old a)
acceptance f None a old new reply step = (refl, step.0, step.1)
acceptance f (Some refusal) a old new reply step = absurd step

then_step : {M : Type 0} (f : M → Reply) (refusal : Option Refusal) (rest : Result (Acceptance M) Refusal) (old new : ModelStore) (reply : Reply) → StepsAs as_is (replied f (and_then refusal rest)) old (Ok reply) new → (refusal ≡ None) × StepsAs as_is (replied f rest) old (Ok reply) new
then_step f None rest old new reply step = (refl, step)
then_step f (Some refusal) rest old new reply step = absurd step

sealed_is : (x y : ModelSealed) → replies.Sealed x ≡ replies.Sealed y → x ≡ y
sealed_is x y same = ap sealed_or same
  where
    sealed_or : Reply → ModelSealed
    sealed_or (replies.Sealed z) = z
    sealed_or _ = x

-- the acceptance of a seal
abbrev sealing : ModelStoreBooks → ℕ → Acceptance ModelSealed
sealing b upload = sealed_by b upload (object_at hash_of b (address_in b upload))

record WasSealed (old new : ModelStore) (upload : ℕ) (sealed : ModelSealed) : Type 0 where
  ready : ready_refusal length old.state upload ≡ None
  reply : sealed ≡ (sealing old.state upload).reply
  is : new ≡ advanced old (sealing old.state upload)

filed_step : (old new : ModelStore) (n : ℕ) (sealed : ModelSealed) → ready_refusal length old.state n ≡ None → StepsAs as_is (replied replies.Sealed (filed_in old.state n)) old (Ok (replies.Sealed sealed)) new → WasSealed old new n sealed
filed_step old new n sealed ready step =
    let b : ModelStoreBooks = old.state in
    let ok = acceptance replies.Sealed (file_refusal length hash_of b n (address_in b n)) (sealing b n) old new (replies.Sealed sealed) step in
    record { ready = ready; reply = sealed_is sealed (sealing b n).reply ok.1; is = ok.2 }

was_sealed : (old new : ModelStore) (command : Command) (upload : ℕ) (sealed : ModelSealed) → Step old (change command) (Ok (replies.Sealed sealed)) new → seals upload command ≡ true → WasSealed old new upload sealed
was_sealed old new (commands.Seal n) upload sealed step is =
    let first = then_step replies.Sealed (ready_refusal length old.state n) (filed_in old.state n) old new (replies.Sealed sealed) step in
    subst (λ (m : ℕ). WasSealed old new m sealed) (eqb-true n upload is) (filed_step old new n sealed first.0 first.1)
was_sealed old new (commands.SealAs n at) upload sealed step is =
    let first = then_step replies.Sealed (ready_refusal length old.state n) (and_then (address_refused old.state n at) (filed_in old.state n)) old new (replies.Sealed sealed) step in
    let second = then_step replies.Sealed (address_refused old.state n at) (filed_in old.state n) old new (replies.Sealed sealed) first.1 in
    subst (λ (m : ℕ). WasSealed old new m sealed) (eqb-true n upload is) (filed_step old new n sealed first.0 second.1)
was_sealed old new _ upload sealed step is = absurd (true≢false (sym is))

record WasBegun (old new : ModelStore) (tenant upload : ℕ) (plan : UploadPlan) : Type 0 where
  number : upload ≡ old.state.begun
  is : new.state ≡ with_begun old.state tenant plan

begun_step : (old new : ModelStore) (t : ℕ) (given : UploadPlan) (tenant upload : ℕ) (plan : UploadPlan) → (t == tenant) ≡ true → StepsAs as_is (replied (λ r. replies.Upload r.0 r.1) (begin_plan_in old.state t given)) old (Ok (replies.Upload upload plan)) new → WasBegun old new tenant upload plan
begun_step old new t given tenant upload plan is step =
    let ok = acceptance (λ r. replies.Upload r.0 r.1) (begin_refusal length old.state t given.bound) _ old new (replies.Upload upload plan) step in
    record { number = ap number_or ok.1; is = ap (λ (s : ModelStore). s.state) ok.2 ∙ (ap (λ (k : ℕ). with_begun old.state k given) (eqb-true t tenant is) ∙ sym (ap (λ (r : Reply). with_begun old.state tenant (plan_or r)) ok.1)) }
  where
    number_or : Reply → ℕ
    number_or (replies.Upload n p) = n
    number_or _ = 0

    plan_or : Reply → UploadPlan
    plan_or (replies.Upload n p) = p
    plan_or _ = plan

was_begun : (old new : ModelStore) (command : Command) (tenant upload : ℕ) (plan : UploadPlan) → Step old (change command) (Ok (replies.Upload upload plan)) new → begins tenant command ≡ true → WasBegun old new tenant upload plan
was_begun old new (commands.Begin t len) tenant upload plan step is = begun_step old new t (closed_plan len) tenant upload plan is step
was_begun old new (commands.BeginOpen t at_most) tenant upload plan step is = begun_step old new t (open_plan at_most) tenant upload plan is step
was_begun old new _ tenant upload plan step is = absurd (true≢false (sym is))

-- ---- uploads

sound_upload : (limits : Numbers) (calls : List Call) (upload : ℕ) (u : ModelOwnedUpload (List ℕ)) → WereAccepted limits calls → upload_at (store_of limits calls).state upload ≡ Some u → IsUpload length u.upload
sound_upload limits calls upload u accepted found = all_found (IsOwnedUpload length _ _) (λ (v : ModelOwnedUpload (List ℕ)). IsUpload length v.upload) (is_number upload) (store_of limits calls).state.uploads u (λ k v owned. owned.upload) found accepted.law.sound.uploads

pub stays_open : StaysOpen
stays_open limits calls more upload u accepted found apart =
    let s : ModelStore = store_of limits calls in
    let Keeps : ModelStore → Type 0 = λ t. IsOpen t.state upload u in
    let sound : IsUpload length u.upload = sound_upload limits calls upload u (were_before limits calls more accepted) found in
    let full : HasBytes u = λ offset bytes there. placed_some (length_of u.upload) 0 offset bytes u.upload.parts sound.placed there in
    subst Keeps (sym (run_join (empty_at limits) calls more))
    (along Keeps (λ (c : Call). (ends upload c ≡ false) × IsFitting c) (call_keeps upload u full) s more (all_both (λ (c : Call). ends upload c ≡ false) IsFitting more apart (all_after IsFitting calls more accepted.fit))
    (record { begun = u; found = found; tenant = refl; plan = refl; parts = λ offset bytes has. has }))

pub numbers_rise : NumbersRise
numbers_rise limits calls more first second tenant other earlier later plan other_plan accepted begins_first was_first begins_second was_second =
    let s : ModelStore = store_of limits calls in
    let one = was_begun s (store_of limits (calls ++ change first ∷ [])) first tenant earlier plan was_first begins_first in
    let two = was_begun (store_of limits (calls ++ change first ∷ more)) (store_of limits ((calls ++ change first ∷ more) ++ change second ∷ [])) second other later other_plan was_second begins_second in
    let Keeps : ModelStore → Type 0 = λ t. earlier < t.state.begun in
    let after : Keeps (store_of limits (calls ++ change first ∷ [])) = let next = ap (λ (b : ModelStoreBooks). b.begun) one.is in omega (arith, next, one.number) in
    let fit : AllByRecursion IsFitting more = all_after IsFitting (calls ++ change first ∷ []) more (subst (AllByRecursion IsFitting) (sym (append_assoc calls (change first ∷ []) more)) accepted.fit) in
    let at_last : Keeps (store_of limits ((calls ++ change first ∷ []) ++ more)) = subst Keeps (sym (run_join (empty_at limits) (calls ++ change first ∷ []) more)) (along Keeps IsFitting (begun_rises earlier) (store_of limits (calls ++ change first ∷ [])) more fit after) in
    let there : Keeps (store_of limits (calls ++ change first ∷ more)) = subst (λ (c : List Call). Keeps (store_of limits c)) (append_assoc calls (change first ∷ []) more) at_last in
    omega (arith, there, two.number)

-- an upload that is open after a call
open_after : (limits : Numbers) (calls more : List Call) (call : Call) (upload : ℕ) (u : ModelOwnedUpload (List ℕ)) → WereAccepted limits (calls ++ call ∷ more) → upload_at (store_of limits (calls ++ call ∷ [])).state upload ≡ Some u → AllByRecursion (λ c. ends upload c ≡ false) more
    → IsOpen (store_of limits (calls ++ call ∷ more)).state upload u
open_after limits calls more call upload u accepted found apart =
    subst (λ (l : List Call). IsOpen (store_of limits l).state upload u) (append_assoc calls (call ∷ []) more) (stays_open limits (calls ++ call ∷ []) more upload u (subst (WereAccepted limits) (sym (append_assoc calls (call ∷ []) more)) accepted) found apart)

pub begun_is_open : BegunIsOpen
begun_is_open limits calls more command tenant upload plan accepted begun step apart =
    let s : ModelStore = store_of limits calls in
    let was = was_begun s (store_of limits (calls ++ change command ∷ [])) command tenant upload plan step begun in
    let u : ModelOwnedUpload (List ℕ) = record { tenant = tenant; upload = new_upload plan } in
    let there : upload_at (store_of limits (calls ++ change command ∷ [])).state upload ≡ Some u =
    ap (λ (b : ModelStoreBooks). upload_at b upload) was.is ∙ (ap (upload_at (with_begun s.state tenant plan)) was.number ∙ begun_there s.state tenant plan (were_before limits calls (change command ∷ more) accepted).law.sound.uploads) in
    open_after limits calls more (change command) upload u accepted there apart

pub stays_put : StaysPut
stays_put limits calls more upload part accepted apart =
    let b : ModelStoreBooks = (store_of limits calls).state in
    let step = (each_was_accepted limits calls (put upload part) more accepted).1 in
    let ok = acceptance replies.Held (part_refused b upload part) _ (store_of limits calls) (store_of limits (calls ++ put upload part ∷ [])) step.0 step.1.1 in
    let here : HoldsPart (store_of limits (calls ++ put upload part ∷ [])).state upload part.part.offset part.part.bytes =
    subst (λ (s : ModelStore). HoldsPart s.state upload part.part.offset part.part.bytes) (sym ok.2) (put_there b upload part (upload_at b upload) refl ok.0) in
    let now = open_after limits calls more (put upload part) upload here.begun accepted here.found apart in
    record { begun = now.begun; found = now.found; part = now.parts part.part.offset part.part.bytes here.part }

-- ---- what a seal answers

address_is : (b : ModelStoreBooks) (upload : ℕ) (known : Option ModelObject) → (sealed_by b upload known).reply.address ≡ hash_of (content_in b upload)
address_is b upload None = refl
address_is b upload (Some object) = refl

-- what is held below its length, a complete upload misses nowhere
no_gap : (u : ModelUpload (List ℕ)) → option_map finish_refused (finish_fault length u) ≡ None → length_of u ≤ first_gap length 0 u.parts
no_gap u ready = gap (nat_lt (first_gap length 0 u.parts) (length_of u)) refl (missing (first_missing length u) (fixed (is_some u.end) (fault (finish_fault length u) ready)))
  where
    fault : (f : Option FinishFault) → option_map finish_refused f ≡ None → f ≡ None
    fault None is = refl
    fault (Some f) is = absurd (cc is)

    fixed : (x : Bool) → (if x then option_map Incomplete (first_missing length u) else Some NotFixed) ≡ None → option_map Incomplete (first_missing length u) ≡ None
    fixed true is = is
    fixed false is = absurd (cc is)

    missing : (o : Option ℕ) → option_map Incomplete o ≡ None → o ≡ None
    missing None is = refl
    missing (Some at) is = absurd (cc is)

    gap : (x : Bool) → nat_lt (first_gap length 0 u.parts) (length_of u) ≡ x → (if x then Some (first_gap length 0 u.parts) else None) ≡ None → length_of u ≤ first_gap length 0 u.parts
    gap true less is = absurd (cc is)
    gap false not_less is = grind (arith, nat_tests, not_less)

from_zero : (n : ℕ) → n ≡ n - 0
from_zero n = omega arith

pub seals_what_was_put : SealsWhatWasPut
seals_what_was_put limits calls command upload offset bytes sealed accepted seal step holds =
    let old : ModelStore = store_of limits calls in
    let was = was_sealed old (store_of limits (calls ++ change command ∷ [])) command upload sealed step seal in
    let u : ModelUpload (List ℕ) = holds.begun.upload in
    let there : opened old.state upload ≡ u = ap (λ (o : Option (ModelOwnedUpload (List ℕ))). option_map_or (λ v. v.upload) o (new_upload (closed_plan 0))) holds.found in
    let sound : IsUpload length u = sound_upload limits calls upload holds.begun accepted holds.found in
    let ready : option_map finish_refused (finish_fault length u) ≡ None =
    subst (λ (o : Option (ModelOwnedUpload (List ℕ))). option_map_or (λ v. option_map finish_refused (finish_fault length v.upload)) o (Some NoUpload) ≡ None) holds.found was.ready in (
      ap (λ (m : ModelSealed). m.address) was.reply ∙ address_is old.state upload (object_at hash_of old.state (address_in old.state upload)),
      ap (λ (v : ModelUpload (List ℕ)). take (length bytes) (drop offset (content_of v.parts))) there ∙ ap (λ (n : ℕ). take (length bytes) (drop n (content_of u.parts))) (from_zero offset) ∙ slice_from (length_of u) 0 offset bytes u.parts sound.placed (no_gap u ready) holds.part,
    )

-- ---- objects

held_below : (n t : ℕ) (hs : List ℕ) → AllByRecursion (λ h. h < n) hs → list_any (λ h. h == t) hs ≡ true → t < n
held_below n t [] below held = absurd (cc held)
held_below n t (h ∷ hs) below held = by (h == t) refl held (λ rest. held_below n t hs below.1 rest)
  where
    by : (x : Bool) → (h == t) ≡ x → (x || list_any (λ k. k == t) hs) ≡ true → (list_any (λ k. k == t) hs ≡ true → t < n) → t < n
    by true is held rest = subst (λ (k : ℕ). k < n) (eqb-true h t is) below.0
    by false other held rest = rest held

fetched : (b : ModelStoreBooks) (tenant : ℕ) (at bytes : List ℕ) → AllByRecursion (IsFiledAmong (length b.tenant_limits)) b.objects → Holds b tenant at bytes → fetch_in b tenant at ≡ Ok bytes
fetched b tenant at bytes filed was =
    let among = object_found hash_of (IsFiledAmong (length b.tenant_limits)) b.objects at was.object was.found filed in
    let below : tenant < length b.tenant_limits = held_below (length b.tenant_limits) tenant was.object.holders among.tenants was.held in
    let there : is_absent b tenant ≡ false = grind (arith, nat_tests, below) in
    rw (there, was.found, was.held) (ap (λ (c : List ℕ). Ok c) was.same)

pub sealed_is_held : SealedIsHeld
sealed_is_held limits calls more command upload u sealed accepted seal step begun apart =
    let old : ModelStore = store_of limits calls in
    let now : ModelStore = store_of limits (calls ++ change command ∷ []) in
    let was = was_sealed old now command upload sealed step seal in
    let Keeps : ModelStore → Type 0 = λ s. Holds s.state u.tenant sealed.address sealed.bytes in
    let filed : Holds (sealing old.state upload).state u.tenant sealed.address sealed.bytes =
    subst (λ (m : ModelSealed). Holds (sealing old.state upload).state u.tenant m.address m.bytes) (sym was.reply) (seal_holds old.state upload u (object_at hash_of old.state (address_in old.state upload)) begun refl) in
    let later : Keeps (run_of now more) = along Keeps (λ (c : Call). forgets u.tenant sealed.address c ≡ false) (call_holds u.tenant sealed.address sealed.bytes) now more apart (subst Keeps (sym was.is) filed) in
    let last : Keeps (store_of limits (calls ++ change command ∷ more)) = subst Keeps (sym (run_join (empty_at limits) (calls ++ change command ∷ []) more) ∙ ap (store_of limits) (append_assoc calls (change command ∷ []) more)) later in
    fetched (store_of limits (calls ++ change command ∷ more)).state u.tenant sealed.address sealed.bytes accepted.law.sound.objects last
