-- The store that a list of accepted calls makes of an empty one.
use Rattle.std.specs.Prelude.{◌≡◌, ℕ, List, [], ◌∷◌, ◌++◌, Result, Ok, Err, length}
use Rattle.std.specs.List.{AllByRecursion}
use Rattle.store_books.specs.Books.{empty_books, max_entries, max_tenants, max_workers}
use Rattle.store_books.specs.declared.refusal.Refusal.{Refusal}
use Rattle.store_core.specs.declared.store.questions.Reply.TheVariants as replies
use Rattle.store_core.specs.Commands.{Acceptance, advanced, put_in}
use Rattle.store_core.specs.Model.{ModelStore}
use Rattle.store_core.specs.Runs.{Call, FitsItsPlan, answer_in, ask, change, put, replied}

-- the store after an acceptance, and the same store after a refusal
abbrev pub advanced_by : {M : Type 0} → ModelStore → Result (Acceptance M) Refusal → ModelStore
advanced_by old (Ok a) = advanced old a
advanced_by old (Err refusal) = old

-- the store after a call
abbrev pub after_call : ModelStore → Call → ModelStore
after_call old (change command) = advanced_by old (answer_in old.state command)
after_call old (put upload part) = advanced_by old (replied replies.Held (put_in old.state upload part))
after_call old (ask question) = old

-- the store after these calls, the first of them first
unfoldable pub run_of : ModelStore → List Call → ModelStore
run_of old [] = old
run_of old (call ∷ calls) = run_of (after_call old call) calls

-- the maximum numbers of tenants, entries, and workers of an upload
abbrev pub Numbers : Type 0
Numbers = ℕ × ℕ × ℕ

-- the widest limits
abbrev pub full_limits : Numbers
full_limits = (max_tenants, max_entries, max_workers)

-- an empty store with these limits
abbrev pub empty_at : Numbers → ModelStore
empty_at l = record { state = empty_books l.0 l.1 l.2; journal = [] }

-- the store that these calls make of an empty one
abbrev pub store_of : Numbers → List Call → ModelStore
store_of limits calls = run_of (empty_at limits) calls

-- a part that is put has bytes, and fits its plan
abbrev pub IsFitting : Call → Type 0
IsFitting (change command) = Unit {0}
IsFitting (put upload part) = FitsItsPlan part
IsFitting (ask question) = Unit {0}

-- a store is what these calls make of an empty one, and each of them was accepted
pub record IsMade (limits : Numbers) (calls : List Call) (store : ModelStore) : Type 0 where
  pub is : store ≡ store_of limits calls
  pub each : length store.journal ≡ length calls
  pub fit : AllByRecursion IsFitting calls

-- the call, if it is a command that was accepted
abbrev pub if_accepted : {R E : Type 0} → Call → Result R E → List Call
if_accepted (ask question) reply = []
if_accepted (change command) (Ok reply) = change command ∷ []
if_accepted (change command) (Err refusal) = []
if_accepted (put upload part) (Ok reply) = put upload part ∷ []
if_accepted (put upload part) (Err refusal) = []

-- its number, if it was accepted: as many calls were accepted before
abbrev pub number_if_accepted : {R E : Type 0} → List Call → Result R E → List ℕ
number_if_accepted calls (Ok reply) = length calls ∷ []
number_if_accepted calls (Err refusal) = []
