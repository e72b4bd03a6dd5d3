-- Questions to the store: what each one reports. A question changes nothing.
use Rattle.std.specs.Prelude.{◌≡◌, ◌+◌, ◌-◌, ◌&&◌, ℕ, suc, Bool, true, false, List, [], ◌∷◌, Option, Some, None, Result, Ok, Err, drop, filter_map, length, min, nat_lt, take, if◌then◌else◌}
use Rattle.std.specs.List.{slice_index_or}
use Rattle.std.specs.Option.{option_map_or}
use Rattle.b3_core.specs.Modes.{hash_of}
use Rattle.store_books.specs.declared.books.UploadStatus.{UploadStatus}
use Rattle.store_books.specs.declared.books.Usage.{Usage}
use Rattle.store_books.specs.declared.refusal.Refusal.{Refusal}
use Rattle.store_books.specs.declared.refusal.Refusal.TheVariants.{NoMemory, NoTenant, NoUpload}
use Rattle.store_books.specs.Books.{is_absent, object_at, totals_of, upload_at}
use Rattle.store_books.specs.Commands.{holding_refusal}
use Rattle.store_books.specs.Questions as books
use Rattle.store_core.specs.declared.store.redone.Redone.{Redone}
use Rattle.store_core.specs.declared.store.redone.Redone.TheVariants as redone
use Rattle.store_books.specs.Pages.{ModelObjectPage, page_of}
use Rattle.store_core.specs.declared.store.questions.Counts.{Counts}
use Rattle.store_core.specs.declared.store.questions.Question.{Question}
use Rattle.store_core.specs.declared.store.questions.Question.TheVariants as questions
use Rattle.store_core.specs.declared.store.questions.Reply.{Reply}
use Rattle.store_core.specs.declared.store.questions.Reply.TheVariants as replies
use Rattle.store_core.specs.Redone.{ModelRedo, max_redo_entries}
use Rattle.store_core.specs.Commands.{as_is, unless}
use Rattle.store_core.specs.Model.{ModelStoreBooks, ModelStore}
use Rattle.store_journal.specs.declared.entry.Entry.{Entry}
use Rattle.store_journal.specs.declared.entry.Entry.TheVariants as entry
use Rattle.store_upload.specs.Uploads.{UploadPlan}

-- a question's answer, as viewed, is the model's; or it ran out of memory
abbrev pub AnswersAs : {R M : Type 0} → (R → M) → Result M Refusal → Result R Refusal → Type 0
AnswersAs seen (Ok reported) (Ok reply) = seen reply ≡ reported
AnswersAs seen (Ok reported) (Err refusal) = refusal ≡ NoMemory
AnswersAs seen (Err first) (Err refusal) = refusal ≡ first
AnswersAs seen (Err first) (Ok reply) = ⊥

-- the plan of an open upload; it never changes
abbrev pub plan_in : ModelStoreBooks → ℕ → Result UploadPlan Refusal
plan_in s number = option_map_or (λ u. Ok u.upload.plan) (upload_at s number) (Err NoUpload)

-- the bytes of the object
abbrev pub fetch_in : ModelStoreBooks → ℕ → List ℕ → Result (List ℕ) Refusal
fetch_in s tenant address = unless (holding_refusal hash_of s tenant address) (option_map_or (λ o. o.content) (object_at hash_of s address) [])

-- addresses and lengths of the objects that the tenant holds, in their order
abbrev pub list_in : ModelStoreBooks → ℕ → Result (List (List ℕ × ℕ)) Refusal
list_in s tenant = if is_absent s tenant then Err NoTenant else Ok (books.listed length hash_of tenant s.objects)

-- the length of the object
abbrev pub holds_in : ModelStoreBooks → ℕ → List ℕ → Result ℕ Refusal
holds_in s tenant address = unless (holding_refusal hash_of s tenant address) (option_map_or (λ o. length o.content) (object_at hash_of s address) 0)

-- the tenant's open uploads, by number
abbrev pub uploads_in : ModelStoreBooks → ℕ → Result (List UploadStatus) Refusal
uploads_in s tenant = if is_absent s tenant then Err NoTenant else Ok (books.open_uploads length tenant s.uploads)

-- the page of the objects that the tenant holds with numbers from `from` on, at most `count` of them
abbrev pub objects_in : ModelStoreBooks → ℕ → ℕ → ℕ → Result ModelObjectPage Refusal
objects_in s tenant from count = if is_absent s tenant then Err NoTenant else Ok (page_of length hash_of tenant from count s.objects)

-- use, reservation and limit of each tenant, by number
abbrev pub tenants_in : ModelStoreBooks → List Usage
tenants_in s = books.usages_of length s

-- the numbers of entries and of tenants, and the totals
abbrev pub counts_of : ModelStore → Counts
counts_of s = record { entries = length s.journal; tenants = length s.state.tenant_limits; totals = totals_of length length s.state }

-- ---- redoing: what the entries of the journal did to tenants, limits and holders, as far as the store still has it, for another store

-- the maximum of the bytes of an answer's objects, if there are several
abbrev pub max_redo_bytes : ℕ
max_redo_bytes = 4194304

-- the tenant of an upload that an entry begins
abbrev pub owner_in : Entry → Option ℕ
owner_in (entry.Begin upload tenant len) = Some tenant
owner_in (entry.Open upload tenant at_most) = Some tenant
owner_in _ = None

-- the tenants of the uploads begun, by the uploads' numbers
abbrev pub owners_of : List Entry → List ℕ
owners_of entries = filter_map owner_in entries

abbrev pub owner_of : ModelStore → ℕ → ℕ
owner_of s upload = slice_index_or (owners_of s.journal) upload 0

-- an object is filed for a tenant that holds it
abbrev pub filed_by : ℕ → Result (List ℕ) Refusal → Option Redone
filed_by tenant (Ok bytes) = Some (redone.File tenant bytes)
filed_by tenant (Err refusal) = None

-- What redoes an entry, if anything: an upload counts when it is sealed, if its tenant still holds the object.
abbrev pub redone_by : ModelStore → Entry → Option Redone
redone_by s (entry.Tenant tenant limit) = Some (redone.Tenant limit)
redone_by s (entry.Limit tenant limit) = Some (redone.Limit tenant limit)
redone_by s (entry.Seal new upload address) = filed_by (owner_of s upload) (fetch_in s.state (owner_of s upload) address)
redone_by s (entry.Forget tenant address) = Some (redone.Forget tenant address)
redone_by s _ = None

-- the bytes of its object
abbrev pub redone_len : Option Redone → ℕ
redone_len (Some (redone.File tenant bytes)) = length bytes
redone_len _ = 0

-- whether these are too many more bytes for an answer
abbrev pub is_over : ℕ → ℕ → Bool
is_over used more = nat_lt 0 used && nat_lt (max_redo_bytes - used) more

-- the number of these entries that an answer redoes, if it has that number of bytes before them
abbrev pub taken_if : Bool → ℕ → ℕ
taken_if true more = 0
taken_if false more = suc more

unfoldable pub taken : ModelStore → ℕ → List Entry → ℕ
taken s used [] = 0
taken s used (e ∷ entries) = taken_if (is_over used (redone_len (redone_by s e))) (taken s (used + redone_len (redone_by s e)) entries)

-- what redoes these entries in one answer
abbrev pub redo_of : ModelStore → List Entry → List Redone
redo_of s entries = filter_map (redone_by s) (take (taken s 0 entries) entries)

-- the entries from this number on, at most `count` of them
abbrev pub redo_slice : ModelStore → ℕ → ℕ → List Entry
redo_slice s from count = take (min count max_redo_entries) (drop from s.journal)

abbrev pub redo_in : ModelStore → ℕ → ℕ → ModelRedo
redo_in s from count = record { next = from + taken s 0 (redo_slice s from count); lines = redo_of s (redo_slice s from count) }

-- ---- questions as values

-- an answer as a Reply
abbrev pub as_reply : {M : Type 0} → (M → Reply) → Result M Refusal → Result Reply Refusal
as_reply reply (Ok answer) = Ok (reply answer)
as_reply reply (Err refusal) = Err refusal

-- The answer to a question; if it allocates, it may run out of memory.
abbrev pub Answers : ModelStore → Question → Result Reply Refusal → Type 0
Answers store (questions.Fetch tenant address) reply = AnswersAs as_is (as_reply replies.Object (fetch_in store.state tenant address)) reply
Answers store (questions.Usage tenant) reply = reply ≡ as_reply replies.Usage (books.usage_in length store.state tenant)
Answers store (questions.List tenant) reply = AnswersAs as_is (as_reply replies.List (list_in store.state tenant)) reply
Answers store (questions.Holds tenant address) reply = reply ≡ as_reply replies.Length (holds_in store.state tenant address)
Answers store (questions.Uploads tenant) reply = AnswersAs as_is (as_reply replies.Uploads (uploads_in store.state tenant)) reply
Answers store (questions.Objects tenant from count) reply = AnswersAs as_is (as_reply replies.Objects (objects_in store.state tenant from count)) reply
Answers store questions.Tenants reply = AnswersAs as_is (Ok (replies.Tenants (tenants_in store.state))) reply
Answers store questions.Totals reply = reply ≡ Ok (replies.Totals (totals_of length length store.state))
Answers store questions.Counts reply = reply ≡ Ok (replies.Counts (counts_of store))
Answers store (questions.Redo from count) reply = AnswersAs as_is (Ok (replies.Redo (redo_in store from count))) reply
