-- The law of a store goes on along every run.
use Rattle.std.proofs.Common.{◌≡◌, ◌∙◌, ℕ, List, [], ◌∷◌, Option, Some, None, refl, ap, sym, length, subst, Ok, Err}
use Rattle.std.specs.Prelude.{Result, if◌then◌else◌}
use Rattle.b3_core.specs.Modes.{hash_of}
use Rattle.b3_forest.specs.Parts.{ModelPrepared}
use Rattle.store_books.specs.declared.refusal.Refusal.{Refusal}
use Rattle.store_books.specs.Books.{object_at, upload_at}
use Rattle.store_books.specs.Commands.{abort_refusal, begin_refusal, fix_refusal, file_refusal, forget_refusal, limit_refusal, put_refusal, ready_refusal, tenant_refusal}
use Rattle.b3_forest.proofs.Ends.{same_plan_is}
use Rattle.store_core.specs.Carried.{IsCarried}
use Rattle.store_core.specs.Commands.{Acceptance, StepsAs, address_in, address_refused, advanced, and_then, as_is, content_in, filed_in, part_refused, sealed_by, unless}
use Rattle.store_core.specs.Model.{ModelObject, ModelStoreBooks, ModelStore}
use Rattle.store_core.specs.inner.Model.{ModelStoreUpload}
use Rattle.store_core.specs.Runs.{Call, FitsItsPlan, Run, RunsCarry, Step, answer_in, ask, change, put, replied}
use Rattle.store_core.specs.declared.store.questions.Reply.{Reply}
use Rattle.store_core.specs.declared.command.Command.{Command}
use Rattle.store_core.specs.declared.command.Command.TheVariants as commands
use Rattle.store_core.proofs.Carried.{abort_carried, begun_carried, fix_carried, forget_carried, known_carried, limit_carried, new_carried, put_carried, tenant_carried}
use Rattle.store_core.proofs.Contents.{long_found}
use Rattle.store_core.proofs.Parts.{is_for_plan}
use Rattle.store_core.proofs.Sums.{replayed_totals}
use Rattle.store_upload.proofs.Places.{some_is}
use Rattle.store_upload.specs.Uploads.{Fits, UploadPlan, closed_plan, open_plan}

-- each acceptance leaves the law
abbrev Accepts : {M : Type 0} → ModelStore → Result (Acceptance M) Refusal → Type 0
Accepts {M} old m = (a : Acceptance M) → m ≡ Ok a → IsCarried (advanced old a)

ok_is : {X : Type 0} {x y : X} → ◌≡◌ {A = Result X Refusal} (Ok x) (Ok y) → x ≡ y
ok_is {X} {x} {y} same = ap (or_else x) same
  where
    or_else : X → Result X Refusal → X
    or_else other (Ok z) = z
    or_else other (Err refusal) = other

never : {X : Type 0} {x : X} {r : Refusal} → ◌≡◌ {A = Result X Refusal} (Err r) (Ok x) → ⊥
never h = cc

accepts_unless : {M : Type 0} (old : ModelStore) (refusal : Option Refusal) (b : Acceptance M) → (refusal ≡ None → IsCarried (advanced old b)) → Accepts old (unless refusal b)
accepts_unless old None b go a is = subst (λ x. IsCarried (advanced old x)) (ok_is is) (go refl)
accepts_unless old (Some refusal) b go a is = absurd (never is)

accepts_then : {M : Type 0} (old : ModelStore) (refusal : Option Refusal) (rest : Result (Acceptance M) Refusal) → (refusal ≡ None → Accepts old rest) → Accepts old (and_then refusal rest)
accepts_then old None rest go a is = go refl a is
accepts_then old (Some refusal) rest go a is = absurd (never is)

accepts_replied : {M : Type 0} (old : ModelStore) (reply : M → Reply) (m : Result (Acceptance M) Refusal) → Accepts old m → Accepts old (replied reply m)
accepts_replied old reply (Ok b) go a is = subst (λ x. IsCarried (advanced old x)) (ok_is is) (go b refl)
accepts_replied old reply (Err refusal) go a is = absurd (never is)

kept_on : {R M : Type 0} (seen : R → M) (m : Result (Acceptance M) Refusal) (old new : ModelStore) (result : Result R Refusal) → Accepts old m → IsCarried old → StepsAs seen m old result new → IsCarried new
kept_on seen (Ok a) old new (Ok reply) go h step = subst (λ x. IsCarried x) (sym step.1) (go a refl)
kept_on seen (Ok a) old new (Err refusal) go h step = subst (λ x. IsCarried x) (sym step.1) h
kept_on seen (Err first) old new (Err refusal) go h step = subst (λ x. IsCarried x) (sym step.1) h
kept_on seen (Err first) old new (Ok reply) go h step = absurd step

-- ---- a part

-- a part that is not refused fits the upload's plan, and is put
pub record IsPut (s : ModelStoreBooks) (number : ℕ) (p : ModelPrepared) : Type 0 where
  pub fits : (u : ModelStoreUpload) → upload_at s number ≡ Some u → Fits u.upload.plan p.part.offset (length p.part.bytes)
  pub free : put_refusal length s number p.part.offset (length p.part.bytes) ≡ None

pub is_put : (s : ModelStoreBooks) (number : ℕ) (p : ModelPrepared) → FitsItsPlan p → part_refused s number p ≡ None → IsPut s number p
is_put s number p own free =
    let is = is_for_plan s number p free in
    let fits = subst (λ (plan : UploadPlan). Fits plan p.part.offset (length p.part.bytes)) (same_plan_is p.plan is.upload.upload.plan is.same) own in
    record { fits = λ v found. subst (λ (w : ModelStoreUpload). Fits w.upload.plan p.part.offset (length p.part.bytes)) (some_is is.upload v (sym is.found ∙ found)) fits; free = is.free }

-- ---- a seal

sealed_carried : (old : ModelStore) (number : ℕ) (known : Option ModelObject) → IsCarried old → ready_refusal length old.state number ≡ None → file_refusal length hash_of old.state number (address_in old.state number) ≡ None
    → object_at hash_of old.state (address_in old.state number) ≡ known → IsCarried (advanced old (sealed_by old.state number known))
sealed_carried old number None h ready free is = new_carried old number (content_in old.state number) h ready free is (long_found old.state number h.sound ready)
sealed_carried old number (Some object) h ready free is = known_carried old number (address_in old.state number) object h ready free is

filed_carried : (old : ModelStore) (number : ℕ) → IsCarried old → ready_refusal length old.state number ≡ None → Accepts old (filed_in old.state number)
filed_carried old number h ready =
    accepts_unless old (file_refusal length hash_of old.state number (address_in old.state number)) (sealed_by old.state number (object_at hash_of old.state (address_in old.state number)))
    (λ free. sealed_carried old number (object_at hash_of old.state (address_in old.state number)) h ready free refl)

-- ---- one step

command_accepts : (old : ModelStore) (command : Command) → IsCarried old → Accepts old (answer_in old.state command)
command_accepts old (commands.OpenTenant limit) h = accepts_replied old _ _ (accepts_unless old (tenant_refusal old.state limit) _ (λ free. tenant_carried old limit h free))
command_accepts old (commands.SetLimit tenant limit) h = accepts_replied old _ _ (accepts_unless old (limit_refusal length old.state tenant limit) _ (λ free. limit_carried old tenant limit h free))
command_accepts old (commands.Begin tenant len) h = accepts_replied old _ _ (accepts_unless old (begin_refusal length old.state tenant len) _ (λ free. begun_carried old tenant (closed_plan len) h free))
command_accepts old (commands.BeginOpen tenant at_most) h = accepts_replied old _ _ (accepts_unless old (begin_refusal length old.state tenant at_most) _ (λ free. begun_carried old tenant (open_plan at_most) h free))
command_accepts old (commands.Fix upload len) h = accepts_replied old _ _ (accepts_unless old (fix_refusal length old.state upload len) _ (λ free. fix_carried old upload len h free))
command_accepts old (commands.Seal upload) h = accepts_replied old _ _ (accepts_then old (ready_refusal length old.state upload) (filed_in old.state upload) (λ ready. filed_carried old upload h ready))
command_accepts old (commands.SealAs upload address) h =
    accepts_replied old _ _ (accepts_then old (ready_refusal length old.state upload) _ (λ ready. accepts_then old (address_refused old.state upload address) (filed_in old.state upload) (λ same. filed_carried old upload h ready)))
command_accepts old (commands.Abort upload) h = accepts_replied old _ _ (accepts_unless old (abort_refusal old.state upload) _ (λ free. abort_carried old upload h free))
command_accepts old (commands.Forget tenant address) h = accepts_replied old _ _ (accepts_unless old (forget_refusal hash_of old.state tenant address) _ (λ free. forget_carried old tenant address h free))

step_carries : (old new : ModelStore) (call : Call) (reply : Result Reply Refusal) → IsCarried old → Step old call reply new → IsCarried new
step_carries old new (change command) reply h step = kept_on as_is (answer_in old.state command) old new reply (command_accepts old command h) h step
step_carries old new (put upload part) reply h step =
    kept_on as_is _ old new reply
    (accepts_replied old _ _ (accepts_unless old (part_refused old.state upload part) _ (λ free. let p = is_put old.state upload part step.0 free in put_carried old upload part.part.offset part.part.bytes h p.fits p.free))) h step.1
step_carries old new (ask question) reply h step = subst (λ x. IsCarried x) (sym step.1) h

run_carries : (old new : ModelStore) (calls : List Call) (replies : List (Result Reply Refusal)) → IsCarried old → Run old calls replies new → IsCarried new
run_carries old new [] [] h run = subst (λ x. IsCarried x) (sym run) h
run_carries old new [] (reply ∷ replies) h run = absurd run
run_carries old new (call ∷ calls) [] h run = absurd run
run_carries old new (call ∷ calls) (reply ∷ replies) h run = run_carries run.0 new calls replies (step_carries old run.0 call reply h run.1) run.2

pub runs_carry : RunsCarry
runs_carry old new calls replies h run = let now = run_carries old new calls replies h run in (now, replayed_totals new now)
