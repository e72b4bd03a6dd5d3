-- What calls leave.
use Rattle.std.proofs.Common.{◌≡◌, ◌++◌, List, [], ◌∷◌, Option, Some, None, refl}
use Rattle.std.specs.Prelude.{Result}
use Rattle.std.specs.List.{AllByRecursion}
use Rattle.store_books.specs.declared.refusal.Refusal.{Refusal}
use Rattle.store_core.specs.Commands.{Acceptance, advanced, and_then, unless}
use Rattle.store_core.specs.Model.{ModelStore}
use Rattle.store_core.specs.Runs.{Call, replied}
use Rattle.store_core.specs.declared.store.questions.Reply.{Reply}
use Rattle.store_shared.specs.Made.{advanced_by, after_call, run_of}

pub run_join : (old : ModelStore) (calls more : List Call) → run_of old (calls ++ more) ≡ run_of (run_of old calls) more
unfolding run_of
run_join old [] more = refl
run_join old (c ∷ calls) more = run_join (after_call old c) calls more

-- what each of some calls keeps, all of them keep
pub along : (Keeps : ModelStore → Type 0) (Apart : Call → Type 0) → ((s : ModelStore) (c : Call) → Apart c → Keeps s → Keeps (after_call s c)) → (s : ModelStore) (calls : List Call) → AllByRecursion Apart calls → Keeps s → Keeps (run_of s calls)
unfolding run_of
along Keeps Apart keeps s [] apart was = was
along Keeps Apart keeps s (c ∷ calls) apart was = along Keeps Apart keeps (after_call s c) calls apart.1 (keeps s c apart.0 was)

module _ {M : Type 0} (f : M → Reply) (Keeps : ModelStore → Type 0) (s : ModelStore) (was : Keeps s) where
  -- a refused command leaves the store, and an accepted one what it makes of it
  pub if_accepted_keeps : (refusal : Option Refusal) (a : Acceptance M) → (refusal ≡ None → Keeps (advanced s a)) → Keeps (advanced_by s (replied f (unless refusal a)))
  if_accepted_keeps None a keeps = keeps refl
  if_accepted_keeps (Some refusal) a keeps = was

  pub then_keeps : (refusal : Option Refusal) (rest : Result (Acceptance M) Refusal) → Keeps (advanced_by s (replied f rest)) → Keeps (advanced_by s (replied f (and_then refusal rest)))
  then_keeps None rest keeps = keeps
  then_keeps (Some refusal) rest keeps = was

-- two properties of all
pub all_both : {A : Type 0} (P Q : A → Type 0) (xs : List A) → AllByRecursion P xs → AllByRecursion Q xs → AllByRecursion (λ x. P x × Q x) xs
all_both P Q [] ps qs = tt
all_both P Q (x ∷ xs) ps qs = ((ps.0, qs.0), all_both P Q xs ps.1 qs.1)

pub all_after : {A : Type 0} (P : A → Type 0) (xs ys : List A) → AllByRecursion P (xs ++ ys) → AllByRecursion P ys
all_after P [] ys all = all
all_after P (x ∷ xs) ys all = all_after P xs ys all.1

pub all_before : {A : Type 0} (P : A → Type 0) (xs ys : List A) → AllByRecursion P (xs ++ ys) → AllByRecursion P xs
all_before P [] ys all = tt
all_before P (x ∷ xs) ys all = (all.0, all_before P xs ys all.1)
