-- A session's access to a store, and what each of its calls says about that store.
use Rattle.std.specs.Prelude.{◌≡◌, ◌+◌, ◌++◌, ◌∷◌, ◌⊎◌, [], ℕ, Bool, true, false, List, Option, Result, Ok, Err, length}
use Rattle.std.specs.Io.KnownBytes.{Appends}
use Rattle.store_books.specs.declared.refusal.Refusal.{Refusal}
use Rattle.store_core.specs.Questions.{plan_in}
use Rattle.store_core.specs.Model.{ModelStore}
use Rattle.store_core.specs.Runs.{Call, Step, ask, change, put}
use Rattle.store_core.specs.declared.store.questions.Reply.{Reply}
use Rattle.store_journal.specs.declared.entry.Entry.{Entry}
use Rattle.store_lines.specs.Texts.{entries_text}
use Rattle.store_lines.specs.Script.{range_entries}
use Rattle.store_lines.specs.declared.request.EntryRange.{EntryRange}
use Rattle.store_upload.specs.Uploads.{UploadPlan}

-- A session's access to its store: what a call may find after what the last one left, whether memory may be lacking for the journal's copy,
-- and whether each of its lines must end with a newline, including the last.
pub record Reach : Type 1 where
  pub links : ModelStore → ModelStore → Type 0
  pub lacks : Type 0
  pub needs_newline : Bool

-- a store as a session's last call left it, or as one more call found it
abbrev pub IsSince : Reach → ModelStore → ModelStore → Type 0
IsSince reach left found = (found ≡ left) ⊎ reach.links left found

-- A state that a session may have left: the view of the store; how many parts of the store's book the session has, and the bytes and calls
-- that were accepted from it; and the numbers that the entries of its own accepted commands have in the journal.
pub record SessionState : Type 0 where
  pub store : ModelStore
  pub parts : ℕ
  pub bytes : ℕ
  pub calls : ℕ
  pub own : List ℕ

-- the same account with another state of the store
abbrev pub at : SessionState → ModelStore → SessionState
at session found = record { store = found; parts = session.parts; bytes = session.bytes; calls = session.calls; own = session.own }

-- what a step adds to the account: the bytes of an accepted part, and one call
abbrev pub took_bytes : Call → Result Reply Refusal → ℕ
took_bytes (change command) reply = 0
took_bytes (ask question) reply = 0
took_bytes (put upload part) (Ok reply) = length part.part.bytes
took_bytes (put upload part) (Err refusal) = 0

abbrev pub took_calls : Call → Result Reply Refusal → ℕ
took_calls (change command) reply = 0
took_calls (ask question) reply = 0
took_calls (put upload part) (Ok reply) = 1
took_calls (put upload part) (Err refusal) = 0

-- and the number of its entry, if it was accepted: as many entries were there before
abbrev pub took_numbers : ModelStore → Call → Result Reply Refusal → List ℕ
took_numbers found (change command) (Ok reply) = length found.journal ∷ []
took_numbers found (change command) (Err refusal) = []
took_numbers found (ask question) reply = []
took_numbers found (put upload part) (Ok reply) = length found.journal ∷ []
took_numbers found (put upload part) (Err refusal) = []

abbrev pub advance : SessionState → ModelStore → Call → Result Reply Refusal → ModelStore → SessionState
advance before found call reply left = record {
  store = left;
  parts = before.parts;
  bytes = before.bytes + took_bytes call reply;
  calls = before.calls + took_calls call reply;
  own = before.own ++ took_numbers found call reply;
}

-- A call took one step of the model: from a state that was found, which is linked to each one that may have been left before, to one that
-- is left, with what it added to the account.
pub record Took (reach : Reach) (was is : SessionState → Type 0) (call : Call) (reply : Result Reply Refusal) : Type 0 where
  pub found : ModelStore
  pub left : ModelStore
  pub linked : (before : SessionState) → was before → reach.links before.store found
  pub step : Step found call reply left
  pub stands : (before : SessionState) → was before → is (advance before found call reply left)

-- the same for a request of a plan
pub record TookPlan (reach : Reach) (was is : SessionState → Type 0) (upload : ℕ) (plan : Result UploadPlan Refusal) : Type 0 where
  pub found : ModelStore
  pub linked : (before : SessionState) → was before → reach.links before.store found
  pub plan_is : plan ≡ plan_in found.state upload
  pub stands : (before : SessionState) → was before → is (at before found)

-- the same for a request of entries of the journal
pub record TookEntries (reach : Reach) (was is : SessionState → Type 0) (range : EntryRange) (entries : List Entry) : Type 0 where
  pub found : ModelStore
  pub linked : (before : SessionState) → was before → reach.links before.store found
  pub entries_are : entries ≡ range_entries range found.journal
  pub stands : (before : SessionState) → was before → is (at before found)

-- nothing was left that could not have been left before
pub record Kept (was is : SessionState → Type 0) : Type 0 where
  pub kept : (before : SessionState) → was before → is before

-- entries were written, or some of their text
pub record ReportedThese (reach : Reach) (was is : SessionState → Type 0) (range : EntryRange) (Wrote : List ℕ → Type 0) : Type 0 where
  pub entries : List Entry
  pub took : TookEntries reach was is range entries
  pub wrote : Wrote (entries_text entries)

-- or an allocation failed for their copy, and nothing was written
abbrev pub ReportedEntries : Reach → (SessionState → Type 0) → (SessionState → Type 0) → Bool → EntryRange → Option (List ℕ) → Option (List ℕ) → Type 0
ReportedEntries reach was is true range old new = ReportedThese reach was is range (Appends old new)
ReportedEntries reach was is false range old new = reach.lacks × Kept was is × (new ≡ old)

-- ---- a session's own store

-- a session's own store is found as it was left, and its journal is not copied
abbrev pub alone_reach : Reach
alone_reach = record { links = λ left found. found ≡ left; lacks = ⊥; needs_newline = false }

abbrev pub alone_stands : ModelStore → SessionState → Type 0
alone_stands store session = session.store ≡ store

-- before its first line
abbrev pub newly : ModelStore → SessionState
newly found = record { store = found; parts = 0; bytes = 0; calls = 0; own = [] }
