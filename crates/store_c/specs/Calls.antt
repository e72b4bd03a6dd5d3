-- The forms of the calls on a store that a handle keeps.
use Rattle.std.specs.Prelude.{◌≡◌, ◌⊎◌, ℕ, List, Option, Some, None, Result, Ok, Err}
use Rattle.std.specs.declared.alloc.Global.{Global}
use Rattle.std.specs.declared.sync.Arc.{Arc}
use Rattle.store_books.specs.declared.refusal.Refusal.{Refusal}
use Rattle.store_books.specs.declared.refusal.Refusal.TheVariants.{NoMemory}
use Rattle.store_core.specs.Commands.{Acceptance, StepsAs, reply_seen}
use Rattle.store_core.specs.Model.{ModelStore, ModelStoreBooks}
use Rattle.store_core.specs.Seen.{removed_bytes}
use Rattle.store_handle.specs.declared.Kept.{Kept}
use Rattle.store_handle.specs.declared.Kept.TheVariants as kept
use Rattle.store_c.specs.Answers.{refusal_number, why_of}
use Rattle.store_c.specs.Keeping.{IfClosed, OnStore}
use Rattle.store_c.specs.declared.answers.Why.{Why}

-- what a call returns, and what it leaves of the reply and of the reason that it may store
pub record Outcome (C : Type 0) : Type 0 where
  pub answer : ℕ
  pub reply_was : C
  pub reply : C
  pub why_was : Why
  pub why : Why

abbrev pub outcome : {C : Type 0} → ℕ → C → C → Why → Why → Outcome C
outcome answer reply_was reply why_was why = record { answer = answer; reply_was = reply_was; reply = reply; why_was = why_was; why = why }

-- 0 and the reply, or the number of the refusal and what it carries; the other of the two is unchanged
abbrev pub Reports : {C : Type 0} → Result C Refusal → Outcome C → Type 0
Reports (Ok reply) o = (o.answer ≡ 0) × (o.reply ≡ reply) × (o.why ≡ o.why_was)
Reports (Err refusal) o = (o.answer ≡ refusal_number refusal) × (o.reply ≡ o.reply_was) × (o.why ≡ why_of refusal o.why_was)

-- a number that is no refusal of the store's, and everything is unchanged
abbrev pub Refuses : {C : Type 0} → ℕ → Outcome C → Type 0
Refuses n o = (o.answer ≡ n) × (o.reply ≡ o.reply_was) × (o.why ≡ o.why_was)

-- of a reply that isn't passed to C
abbrev pub nothing : {M : Type 0} → M → Unit {0}
nothing reply = tt

-- what a forget returns, with the object as its bytes
abbrev pub removed_seen : Option (Arc (List ℕ) Global) → Option (List ℕ)
removed_seen removed = removed_bytes removed

-- a command on a store: it takes the model's step, and the call reports the result
abbrev pub Takes : {R M C : Type 0} → (R → M) → (R → C) → Result (Acceptance M) Refusal → ModelStore → Outcome C → ModelStore → Type 0
Takes {R} seen shown step s o t = (result : Result R Refusal) × StepsAs seen step s result t × Reports (reply_seen shown result) o

-- A command on the store that a handle keeps. Without a store the answer is 64, and nothing changes.
abbrev pub Commands : {R M C : Type 0} → (R → M) → (R → C) → (ModelStoreBooks → Result (Acceptance M) Refusal) → Option Kept → Outcome C → Option Kept → Type 0
Commands {R} seen shown command old o new = OnStore old
    (λ s. (t : ModelStore) × Takes {R = R} seen shown (command s.state) s o t × (new ≡ Some (kept.Store t)))
    (Refuses 64 o × (new ≡ old))

-- A question: the call reports an answer, and nothing of the store changes.
abbrev pub Asks : {R C : Type 0} → (R → C) → (ModelStore → Result R Refusal → Type 0) → Option Kept → Outcome C → Option Kept → Type 0
Asks {R} shown answers old o new = OnStore old (λ s. (result : Result R Refusal) × answers s result × Reports (reply_seen shown result) o) (Refuses 64 o) × (new ≡ old)

-- A closed handle keeps the reply, unless there is no memory for its place; or the call reports the refusal.
abbrev pub Keeps : Result Kept Refusal → Outcome (Option Kept) → Type 0
Keeps (Ok reply) o = Reports (Ok (Some reply)) o ⊎ Reports (Err NoMemory) o
Keeps (Err refusal) o = Reports (Err refusal) o

-- A question whose reply a closed handle keeps. The answer is 65 if the handle is open, and otherwise 64 without a store; then nothing changes.
abbrev pub Fills : (ModelStore → Result Kept Refusal → Type 0) → Option Kept → Outcome (Option Kept) → Option Kept → Type 0
Fills answers old o new = IfClosed o.reply_was
    (OnStore old (λ s. (result : Result Kept Refusal) × answers s result × Keeps result o) (Refuses 64 o))
    (Refuses 65 o) × (new ≡ old)
