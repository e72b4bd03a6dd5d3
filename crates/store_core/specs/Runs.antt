-- Runs of the model store: a list of calls, with their replies.
use Rattle.std.specs.Prelude.{◌≡◌, ℕ, List, [], ◌∷◌, Result, Ok, Err, length}
use Rattle.b3_forest.specs.Parts.{ModelPrepared}
use Rattle.store_books.specs.declared.refusal.Refusal.{Refusal}
use Rattle.store_core.specs.declared.command.Command.{Command}
use Rattle.store_core.specs.declared.command.Command.TheVariants as commands
use Rattle.store_core.specs.declared.command.Outcome.{Outcome}
use Rattle.store_core.specs.declared.command.Outcome.TheVariants as outcomes
use Rattle.store_core.specs.declared.store.questions.Question.{Question}
use Rattle.store_core.specs.declared.store.questions.Reply.{Reply}
use Rattle.store_core.specs.declared.store.questions.Reply.TheVariants as replies
use Rattle.store_core.specs.Carried.{HasTotals, IsCarried}
use Rattle.store_core.specs.Commands.{Acceptance, StepsAs, abort_in, as_is, begin_in, begin_open_in, fix_in, forget_in, open_tenant_in, opened, put_in, removed_in, seal_as_in, seal_in, seal_work_in, set_limit_in}
use Rattle.store_core.specs.Questions.{Answers}
use Rattle.store_core.specs.Model.{ModelStoreBooks, ModelStore}
use Rattle.store_core.specs.Seen.{removed_bytes}
use Rattle.store_upload.specs.Uploads.{Fits}

-- a call of the store: a command, a part to put, or a question
pub data Call : Type 0 where
  change : Command → Call
  put : ℕ → ModelPrepared → Call
  ask : Question → Call

-- an acceptance with its reply as a Reply
abbrev pub replied : {M : Type 0} → (M → Reply) → Result (Acceptance M) Refusal → Result (Acceptance Reply) Refusal
replied reply (Ok a) = Ok (record { reply = reply a.reply; state = a.state; entry = a.entry })
replied reply (Err refusal) = Err refusal

-- a given part fits the plan that it was made for
abbrev pub FitsItsPlan : ModelPrepared → Type 0
FitsItsPlan p = Fits p.plan p.part.offset (length p.part.bytes)

-- the model's answer to a command: an acceptance with its reply, or a refusal
abbrev pub answer_in : ModelStoreBooks → Command → Result (Acceptance Reply) Refusal
answer_in s (commands.OpenTenant limit) = replied replies.Tenant (open_tenant_in s limit)
answer_in s (commands.SetLimit tenant limit) = replied (λ _. replies.Done) (set_limit_in s tenant limit)
answer_in s (commands.Begin tenant len) = replied (λ r. replies.Upload r.0 r.1) (begin_in s tenant len)
answer_in s (commands.BeginOpen tenant at_most) = replied (λ r. replies.Upload r.0 r.1) (begin_open_in s tenant at_most)
answer_in s (commands.Fix upload len) = replied (λ _. replies.Done) (fix_in s upload len)
answer_in s (commands.Seal upload) = replied replies.Sealed (seal_in s upload)
answer_in s (commands.SealAs upload address) = replied replies.Sealed (seal_as_in s upload address)
answer_in s (commands.Abort upload) = replied (λ _. replies.Done) (abort_in s upload)
answer_in s (commands.Forget tenant address) = replied (λ _. replies.Done) (forget_in s tenant address)

-- One step: the reply and the effect are the model's. An accepted command adds its entry to the journal; a refused command and a question
-- leave store and journal unchanged. A step that allocates may run out of memory.
abbrev pub Step : ModelStore → Call → Result Reply Refusal → ModelStore → Type 0
Step old (change command) reply new = StepsAs as_is (answer_in old.state command) old reply new
Step old (put upload part) reply new = FitsItsPlan part × StepsAs as_is (replied replies.Held (put_in old.state upload part)) old reply new
Step old (ask question) reply new = Answers old question reply × (new ≡ old)

-- the reply of an accepted command
abbrev pub reply_of : Outcome → Reply
reply_of (outcomes.Replied reply) = reply
reply_of (outcomes.Aborted held) = replies.Done
reply_of (outcomes.Forgot removed) = replies.Done

-- what a command removed is returned: the parts of an upload that it aborted, and the object that no tenant holds any more
abbrev pub Releases : ModelStoreBooks → Command → Outcome → Type 0
Releases old (commands.Abort upload) (outcomes.Aborted held) = held ≡ opened old upload
Releases old (commands.Abort upload) _ = ⊥
Releases old (commands.Forget tenant address) (outcomes.Forgot removed) = removed_bytes removed ≡ removed_in old address
Releases old (commands.Forget tenant address) _ = ⊥
Releases old _ _ = Unit {0}

-- the compressions of a command: those of a seal, otherwise none
abbrev pub step_work : ModelStoreBooks → Command → ℕ
step_work s (commands.Seal upload) = seal_work_in s upload
step_work s (commands.SealAs upload address) = seal_work_in s upload
step_work s _ = 0

-- Steps along a list of calls, with their replies in order. The journal grows by exactly the entries of the acceptances, in order.
abbrev pub Run : ModelStore → List Call → List (Result Reply Refusal) → ModelStore → Type 0
Run old [] [] new = new ≡ old
Run old [] (reply ∷ replies) new = ⊥
Run old (call ∷ calls) [] new = ⊥
Run old (call ∷ calls) (reply ∷ replies) new = (then : ModelStore) × Step old call reply then × Run then calls replies new

-- the invariant of a store holds along every run: objects are stored at their hashes, the totals are the sums, and the journal replays to
-- what the store keeps
abbrev pub RunsCarry : Type 0
RunsCarry = (old new : ModelStore) (calls : List Call) (replies : List (Result Reply Refusal)) → IsCarried old → Run old calls replies new → IsCarried new × HasTotals new
