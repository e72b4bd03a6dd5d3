-- What an upload writes.
use Rattle.std.proofs.Common.{◌≡◌, ◌++◌, arith, codes, inl, inr, refl, ℕ, Bool, true, false, List, Option, Some, None, Result, Ok, Err, ap, subst, sym, [], length, ◌∙◌}
use Rattle.std.specs.Prelude.{OnErr, OnOk, if◌then◌else◌, option_map}
use Rattle.std.specs.Option.{option_map_or}
use Rattle.std.specs.Io.KnownBytes.{Appends}
use Rattle.b3_core.specs.Modes.{hash_of}
use Rattle.store_books.specs.declared.refusal.Refusal.{Refusal}
use Rattle.store_books.specs.declared.refusal.Refusal.TheVariants.{NoTenant, NotHeld}
use Rattle.store_books.specs.Books.{is_absent, is_held_by, max_workers, object_at}
use Rattle.store_books.specs.Commands.{holding_refusal}
use Rattle.store_books.specs.Forgetting.{bare_object}
use Rattle.store_books.proofs.Commands.{passed}
use Rattle.store_books.proofs.Forgets.{object_same}
use Rattle.store_core.specs.Carried.{replayed_of}
use Rattle.store_core.specs.Commands.{unless}
use Rattle.store_core.specs.Questions.{AnswersAs, fetch_in}
use Rattle.store_core.specs.Model.{ModelObject, ModelStoreBooks}
use Rattle.store_upload.proofs.Places.{not_some}
use Rattle.store_shared.specs.Cuts.{IsBadCut}
use Rattle.store_core.specs.declared.store.Sealed.{Sealed}
use Rattle.store_shared.specs.declared.fault.UploadFault.{UploadFault}
use Rattle.store_shared.specs.declared.fault.UploadFaultKind.{UploadFaultKind}
use Rattle.store_shared.specs.declared.fault.UploadFaultKind.TheVariants.{BadCut, Stopped, StrangePart}
use Rattle.store_shared.specs.declared.fault.UploadFaultKind.TheVariants as kinds
use Rattle.store_shared.specs.Gates.{IsOwnFault}
use Rattle.store_engines.specs.Uploads.{HasObject, IsUnopened, MayFail, SomeRefusal, WrotePrefix, WroteMemory, failed_text, is_memory}
use Rattle.edge.specs.Output.{WroteSome}
use Rattle.store_engines.proofs.Writes.{wrote_none}
use Rattle.store_engines.specs.inner.Uploads.{IsFiled}
use Rattle.edge.specs.declared.outcome.Cause.{Cause}
use Rattle.edge.specs.declared.outcome.Cause.TheVariants.{CannotWrite, OutOfMemory}
use Rattle.edge.specs.declared.outcome.Verdict.{Verdict}
use Rattle.edge.specs.declared.outcome.Verdict.TheVariants.{Refused}
use Rattle.store_engines.specs.declared.uploading.UploadOptions.{UploadOptions}

-- ---- a failed upload

-- a refusal that was reported, and is not out of memory, is some refusal
pub reported : (o : UploadOptions) (r : Result Verdict Cause) (kind : UploadFaultKind) (old new : Option (List ℕ)) → MayFail o kind → OnOk r (Appends old new (failed_text kind)) → (is_memory kind ≡ true → r ≡ Err OutOfMemory) → r ≡ Ok Refused
    → SomeRefusal o old new
reported o r kind old new may wrote memory is = go (is_memory kind) refl
  where
    go : (b : Bool) → is_memory kind ≡ b → SomeRefusal o old new
    go true e = let stopped = memory e in absurd (cc)
    go false e = (failed_text kind, (kind, may, e, refl), rw is at wrote)

-- nothing was written when out of memory
pub no_memory : (old new : Option (List ℕ)) → new ≡ old → WroteMemory old new
no_memory old new same = (kinds.NoMemory, refl, subst (λ (a : Option (List ℕ)). WroteSome old a (failed_text kinds.NoMemory)) (sym same) (wrote_none old (failed_text kinds.NoMemory)))

-- nothing else was reported of out of memory
pub reported_memory : (r : Result Verdict Cause) (kind : UploadFaultKind) (old new : Option (List ℕ)) → OnErr r (WroteSome old new (failed_text kind)) → (is_memory kind ≡ false → r ≡ Err OutOfMemory → new ≡ old) → r ≡ Err OutOfMemory
    → WroteMemory old new
reported_memory r kind old new wrote other is = go (is_memory kind) refl
  where
    go : (b : Bool) → is_memory kind ≡ b → WroteMemory old new
    go true e = (kind, e, rw is at wrote)
    go false e = no_memory old new (other e is)

-- of a refusal that is not out of memory a prefix was written
pub reported_some : (o : UploadOptions) (r : Result Verdict Cause) (kind : UploadFaultKind) (old new : Option (List ℕ)) (input : List ℕ) → MayFail o kind → OnErr r (WroteSome old new (failed_text kind)) → (is_memory kind ≡ true → r ≡ Err OutOfMemory) → r ≡ Err CannotWrite
    → WrotePrefix o input old new
reported_some o r kind old new input may wrote memory is = go (is_memory kind) refl
  where
    go : (b : Bool) → is_memory kind ≡ b → WrotePrefix o input old new
    go true e = let stopped = memory e in absurd (cc)
    go false e = (failed_text kind, inr (kind, may, e, refl), rw is at wrote)

-- no cut is at fault
pub own_may : (o : UploadOptions) (kind : UploadFaultKind) → IsOwnFault kind → (IsBadCut o.part_chunks o.workers max_workers → IsUnopened kind) → MayFail o kind
own_may o kinds.BadCut own bad = absurd own
own_may o kinds.Stopped own bad = absurd own
own_may o (kinds.GateFault part code) own bad = absurd own
own_may o (kinds.Refused refusal) own bad = (own, bad)
own_may o kinds.NoMemory own bad = (own, bad)
own_may o kinds.StrangePart own bad = (own, bad)

-- no cut is bad where the upload was sealed
pub never_bad : (o : UploadOptions) (most : ℕ) (result : Result Sealed UploadFault) (sealed : Sealed) (fault : UploadFault) (A : Type 0) → most ≡ max_workers
    → (IsBadCut o.part_chunks o.workers most → (result ≡ Err fault) × A) → result ≡ Ok sealed → IsBadCut o.part_chunks o.workers max_workers → ⊥
never_bad o most result sealed fault A same bad_cut is bad = let e = (bad_cut (subst (λ (m : ℕ). IsBadCut o.part_chunks o.workers m) (sym same) bad)).0 in cc

-- ---- an upload that was filed

-- what is filed is left by the journal
pub has_object : (s : ModelStoreBooks) (address : List ℕ) (n : ℕ) → IsFiled s address n → HasObject (replayed_of s) address n
has_object s address n filed = (bare_object length hash_of filed.0, object_same length length hash_of s address ∙ ap (option_map (bare_object length hash_of)) filed.1, filed.2)

-- what is fetched is filed
pub fetched_is : {R : Type 0} (seen : R → List ℕ) (s : ModelStoreBooks) (tenant : ℕ) (address : List ℕ) (reply : R) (n : ℕ) → AnswersAs seen (fetch_in s tenant address) (Ok reply) → length (seen reply) ≡ n → IsFiled s address n
fetched_is seen s tenant address reply n reported long = by (holding_refusal hash_of s tenant address) refl reported
  where
    found : (known : Option ModelObject) → object_at hash_of s address ≡ known → option_map_or (λ (o : ModelObject). if is_held_by tenant o then None else Some NotHeld) known (Some NotHeld) ≡ None
        → seen reply ≡ option_map_or (λ (o : ModelObject). o.content) known [] → IsFiled s address n
    found None is free same = absurd (not_some NotHeld (sym free))
    found (Some o) is free same = (o, is, ap (λ (b : List ℕ). length b) (sym same) ∙ long)

    by : (refusal : Option Refusal) → holding_refusal hash_of s tenant address ≡ refusal → AnswersAs seen (unless refusal (option_map_or (λ (o : ModelObject). o.content) (object_at hash_of s address) [])) (Ok reply) → IsFiled s address n
    by (Some refusal) is reported = absurd reported
    by None is reported = found (object_at hash_of s address) refl (passed (is_absent s tenant) NoTenant _ is).1 reported

-- three texts in a row
pub in_a_row : (a b c x y z : List ℕ) → a ≡ x → b ≡ y → c ≡ z → a ++ (b ++ (codes "\n" ++ c)) ≡ x ++ (y ++ (codes "\n" ++ z))
in_a_row a b c x y z first second third = rw (first, second, third) refl

-- ---- worked rows

abbrev by_workers : ℕ → UploadOptions
by_workers n = record { part_chunks = 4; workers = n; journal = false }

seventeen_workers : MayFail (by_workers 17) BadCut
seventeen_workers = inr (inr (inr (omega arith)))

sixteen_workers : MayFail (by_workers 16) BadCut → ⊥
sixteen_workers (inl no_chunk) = absurd (omega (arith, no_chunk))
sixteen_workers (inr (inl many_chunks)) = absurd (omega (arith, many_chunks))
sixteen_workers (inr (inr (inl no_worker))) = absurd (omega (arith, no_worker))
sixteen_workers (inr (inr (inr many_workers))) = absurd (omega (arith, many_workers))

never_stopped : MayFail (by_workers 16) Stopped → ⊥
never_stopped stopped = stopped.0

bad_but_strange : MayFail (by_workers 17) StrangePart → ⊥
bad_but_strange strange = strange.1 (inr (inr (inr (omega arith))))
