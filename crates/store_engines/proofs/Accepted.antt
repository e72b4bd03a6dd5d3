-- Each accepted call was a step, and the calls before it were accepted.
use Rattle.std.proofs.Common.{◌≡◌, ◌∙◌, ◌+◌, ◌≤◌, ◌⊎◌, ◌++◌, ℕ, List, [], ◌∷◌, Option, Some, None, Ok, Err, Result, ap, arith, inl, inr, length, refl, subst, sym}
use Rattle.std.specs.List.{AllByRecursion}
use Rattle.std.proofs.lemmas.List.{length-append}
use Rattle.b3_core.specs.Modes.{hash_of}
use Rattle.b3_forest.specs.Parts.{ModelPrepared}
use Rattle.store_books.specs.Books.{ModelOwnedUpload, max_entries, max_tenants, object_at, upload_at}
use Rattle.store_books.specs.Commands.{abort_refusal, begin_refusal, file_refusal, fix_refusal, forget_refusal, limit_refusal, ready_refusal, tenant_refusal, with_end, with_known, with_left, with_new, with_part}
use Rattle.store_books.specs.declared.refusal.Refusal.{Refusal}
use Rattle.store_core.specs.Carried.{IsCarried}
use Rattle.store_core.specs.Commands.{Acceptance, StepsAs, address_in, address_refused, as_is, content_in, filed_in, part_refused, put_in, sealed_by}
use Rattle.store_core.specs.Model.{ModelObject, ModelStore, ModelStoreBooks}
use Rattle.store_core.specs.Runs.{Call, FitsItsPlan, Step, answer_in, ask, change, put, replied}
use Rattle.store_core.specs.declared.command.Command.TheVariants as commands
use Rattle.store_core.specs.declared.store.questions.Reply.{Reply}
use Rattle.store_core.specs.declared.store.questions.Reply.TheVariants as replies
use Rattle.store_core.proofs.Carried.{empty_carried}
use Rattle.store_core.proofs.Runs.{runs_carry}
use Rattle.store_shared.specs.Made.{IsFitting, Numbers, advanced_by, after_call, empty_at, run_of, store_of}
use Rattle.store_engines.specs.ClientLaws.{EachWasAccepted}
use Rattle.store_engines.specs.ClientSteps.{WereAccepted}
use Rattle.store_engines.proofs.Along.{all_after, all_before, along, if_accepted_keeps, run_join, then_keeps}

-- ---- the limits stay

abbrev limits_of : ModelStoreBooks → Numbers
limits_of b = (b.max_tenants, b.max_entries, b.max_workers)

part_same : (b : ModelStoreBooks) (m offset : ℕ) (bytes : List ℕ) (u : Option (ModelOwnedUpload (List ℕ))) → limits_of (with_part length b m offset bytes u) ≡ limits_of b
part_same b m offset bytes None = refl
part_same b m offset bytes (Some u) = refl

end_same : (b : ModelStoreBooks) (m n : ℕ) (u : Option (ModelOwnedUpload (List ℕ))) → limits_of (with_end b m n u) ≡ limits_of b
end_same b m n None = refl
end_same b m n (Some u) = refl

new_same : (b : ModelStoreBooks) (m : ℕ) (content : List ℕ) (u : Option (ModelOwnedUpload (List ℕ))) → limits_of (with_new b m content u) ≡ limits_of b
new_same b m content None = refl
new_same b m content (Some u) = refl

known_same : (b : ModelStoreBooks) (m : ℕ) (at : List ℕ) (u : Option (ModelOwnedUpload (List ℕ))) (o : Option ModelObject) → limits_of (with_known hash_of b m at u o) ≡ limits_of b
known_same b m at None o = refl
known_same b m at (Some u) None = refl
known_same b m at (Some u) (Some o) = refl

left_same : (b : ModelStoreBooks) (t : ℕ) (at : List ℕ) (o : Option ModelObject) → limits_of (with_left hash_of b t at o) ≡ limits_of b
left_same b t at None = refl
left_same b t at (Some o) = refl

sealed_same : (b : ModelStoreBooks) (m : ℕ) (known : Option ModelObject) → limits_of (sealed_by b m known).state ≡ limits_of b
sealed_same b m None = new_same b m (content_in b m) (upload_at b m)
sealed_same b m (Some object) = known_same b m (address_in b m) (upload_at b m) (object_at hash_of b (address_in b m))

limits_stay : (limits : Numbers) (s : ModelStore) (c : Call) → IsFitting c → limits_of s.state ≡ limits → limits_of (after_call s c).state ≡ limits
limits_stay limits s c fits was = by c
  where
    b : ModelStoreBooks
    b = s.state

    Keeps : ModelStore → Type 0
    Keeps t = limits_of t.state ≡ limits

    sealed : (m : ℕ) → Keeps (advanced_by s (replied replies.Sealed (filed_in b m)))
    sealed m = if_accepted_keeps _ Keeps s was (file_refusal length hash_of b m (address_in b m)) _ (λ none. sealed_same b m (object_at hash_of b (address_in b m)) ∙ was)

    by : (d : Call) → Keeps (after_call s d)
    by (change (commands.OpenTenant limit)) = if_accepted_keeps _ Keeps s was (tenant_refusal b limit) _ (λ none. was)
    by (change (commands.SetLimit t limit)) = if_accepted_keeps _ Keeps s was (limit_refusal length b t limit) _ (λ none. was)
    by (change (commands.Begin t len)) = if_accepted_keeps _ Keeps s was (begin_refusal length b t len) _ (λ none. was)
    by (change (commands.BeginOpen t at_most)) = if_accepted_keeps _ Keeps s was (begin_refusal length b t at_most) _ (λ none. was)
    by (change (commands.Fix m n)) = if_accepted_keeps _ Keeps s was (fix_refusal length b m n) _ (λ none. end_same b m n (upload_at b m) ∙ was)
    by (change (commands.Seal m)) = then_keeps _ Keeps s was (ready_refusal length b m) (filed_in b m) (sealed m)
    by (change (commands.SealAs m a)) = then_keeps _ Keeps s was (ready_refusal length b m) _ (then_keeps _ Keeps s was (address_refused b m a) (filed_in b m) (sealed m))
    by (change (commands.Abort m)) = if_accepted_keeps _ Keeps s was (abort_refusal b m) _ (λ none. was)
    by (change (commands.Forget t a)) = if_accepted_keeps _ Keeps s was (forget_refusal hash_of b t a) _ (λ none. left_same b t a (object_at hash_of b a) ∙ was)
    by (put m p) = if_accepted_keeps _ Keeps s was (part_refused b m p) _ (λ none. part_same b m p.part.offset p.part.bytes (upload_at b m) ∙ was)
    by (ask question) = was

-- ---- entries

-- a step that adds an entry
record IsAccepted (Steps : Reply → Type 0) (old new : ModelStore) : Type 0 where
  reply : Reply
  step : Steps reply
  grows : length new.journal ≡ length old.journal + 1

-- a call adds no entry, or it was accepted
abbrev Outcome : (Reply → Type 0) → ModelStore → ModelStore → Type 0
Outcome Steps old new = (length new.journal ≡ length old.journal) ⊎ IsAccepted Steps old new

model_outcome : (s : ModelStore) (m : Result (Acceptance Reply) Refusal) → Outcome (λ reply. StepsAs as_is m s (Ok reply) (advanced_by s m)) s (advanced_by s m)
model_outcome s (Ok a) = inr (record { reply = a.reply; step = (refl, refl); grows = length-append s.journal (a.entry ∷ []) })
model_outcome s (Err refusal) = inl refl

fitting : (part : ModelPrepared) (Steps : Reply → Type 0) (old new : ModelStore) → FitsItsPlan part → Outcome Steps old new → Outcome (λ reply. FitsItsPlan part × Steps reply) old new
fitting part Steps old new fits (inl same) = inl same
fitting part Steps old new fits (inr is) = inr (record { reply = is.reply; step = (fits, is.step); grows = is.grows })

call_outcome : (s : ModelStore) (c : Call) → IsFitting c → Outcome (λ reply. Step s c (Ok reply) (after_call s c)) s (after_call s c)
call_outcome s (change command) fits = model_outcome s (answer_in s.state command)
call_outcome s (put m p) fits = fitting p _ s (after_call s (put m p)) fits (model_outcome s (replied replies.Held (put_in s.state m p)))
call_outcome s (ask question) fits = inl refl

-- calls add at most one entry each
add_few : (s : ModelStore) (calls : List Call) → AllByRecursion IsFitting calls → length (run_of s calls).journal ≤ length s.journal + length calls
unfolding run_of
add_few s [] fits = omega arith
add_few s (c ∷ calls) fits =
    let rest = add_few (after_call s c) calls fits.1 in
    elim (call_outcome s c fits.0) [
      | inl same ↦ omega (arith, same, rest)
      | inr is ↦ omega (arith, is.grows, rest)
    ]

-- so a call was accepted if it and others added one each
first_accepted : (s : ModelStore) (c : Call) (calls : List Call) → AllByRecursion IsFitting (c ∷ calls) → length (run_of s (c ∷ calls)).journal ≡ length s.journal + length (c ∷ calls) → IsAccepted (λ reply. Step s c (Ok reply) (after_call s c)) s (after_call s c)
unfolding run_of
first_accepted s c calls fits each =
    let rest = add_few (after_call s c) calls fits.1 in
    elim (call_outcome s c fits.0) [
      | inl same ↦ absurd (omega (arith, same, rest, each))
      | inr is ↦ is
    ]

-- and the calls before others did so too
before : (s : ModelStore) (calls more : List Call) → AllByRecursion IsFitting (calls ++ more) → length (run_of s (calls ++ more)).journal ≡ length s.journal + length (calls ++ more) → IsCarried s
    → IsCarried (run_of s calls) × (length (run_of s calls).journal ≡ length s.journal + length calls)
unfolding run_of
before s [] more fits each law = (law, omega arith)
before s (c ∷ calls) more fits each law =
    let is = first_accepted s c (calls ++ more) fits each in
    let next : IsCarried (after_call s c) = (runs_carry s (after_call s c) (c ∷ []) (Ok is.reply ∷ []) law (after_call s c, is.step, refl)).0 in
    let grows = is.grows in
    let rest = before (after_call s c) calls more fits.1 (omega (arith, each, grows)) next in
    let count = rest.1 in
    (rest.0, omega (arith, count, grows))

pub were_before : (limits : Numbers) (calls more : List Call) → WereAccepted limits (calls ++ more) → WereAccepted limits calls
were_before limits calls more accepted =
    let kept : limits_of (store_of limits (calls ++ more)).state ≡ limits = along (λ s. limits_of s.state ≡ limits) IsFitting (limits_stay limits) (empty_at limits) (calls ++ more) accepted.fit refl in
    let empty : IsCarried (empty_at limits) =
    empty_carried limits.0 limits.1 limits.2 (subst (λ (l : Numbers). l.0 ≤ max_tenants) kept accepted.law.sound.few_tenants) (subst (λ (l : Numbers). l.1 ≤ max_entries) kept accepted.law.sound.few_entries) in
    let each = accepted.each in
    let was = before (empty_at limits) calls more accepted.fit (omega (arith, each)) empty in
    let count = was.1 in
    record { law = was.0; each = omega (arith, count); fit = all_before IsFitting calls more accepted.fit }

pub each_was_accepted : EachWasAccepted
unfolding run_of
each_was_accepted limits calls call more accepted =
    let s : ModelStore = store_of limits calls in
    let was = were_before limits calls (call ∷ more) accepted in
    let each : length (run_of s (call ∷ more)).journal ≡ length s.journal + length (call ∷ more) =
    ap (λ (t : ModelStore). length t.journal) (sym (run_join (empty_at limits) calls (call ∷ more))) ∙ (accepted.each ∙ (length-append calls (call ∷ more) ∙ ap (λ (n : ℕ). n + length (call ∷ more)) (sym was.each))) in
    let is = first_accepted s call more (all_after IsFitting calls (call ∷ more) accepted.fit) each in
    (was, (is.reply, subst (Step s call (Ok is.reply)) (sym (run_join (empty_at limits) calls (call ∷ []))) is.step))
