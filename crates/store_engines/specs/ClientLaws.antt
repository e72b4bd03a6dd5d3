-- What a client may rely on, whatever other clients do. A shared store is what its accepted calls make of an empty one (`store_of`). The laws
-- are about any call of that list, and so about a client's own too: it is the last call that the client has then seen (`TookStep`).
use Rattle.std.specs.Prelude.{◌≡◌, ◌<◌, ◌==◌, ◌&&◌, ◌++◌, ℕ, Bool, true, false, List, [], ◌∷◌, Some, Ok, drop, length, take}
use Rattle.std.specs.List.{AllByRecursion}
use Rattle.std.specs.Map.{lookup}
use Rattle.std.specs.Str.{bytes_eq}
use Rattle.b3_core.specs.Modes.{hash_of}
use Rattle.b3_forest.specs.Parts.{ModelPrepared}
use Rattle.store_books.specs.Books.{ModelOwnedUpload, is_number, upload_at}
use Rattle.store_core.specs.Commands.{ModelSealed, content_in}
use Rattle.store_core.specs.Model.{ModelStoreBooks}
use Rattle.store_core.specs.Questions.{fetch_in}
use Rattle.store_core.specs.Runs.{Call, Step, ask, change, put}
use Rattle.store_core.specs.declared.command.Command.{Command}
use Rattle.store_core.specs.declared.command.Command.TheVariants as commands
use Rattle.store_core.specs.declared.store.questions.Reply.{Reply}
use Rattle.store_core.specs.declared.store.questions.Reply.TheVariants as replies
use Rattle.store_engines.specs.ClientSteps.{WereAccepted}
use Rattle.store_shared.specs.Made.{Numbers, store_of}
use Rattle.store_upload.specs.Uploads.{UploadPlan, new_upload}

-- ---- calls

-- the store that the calls made accepted one more, with this reply
abbrev pub WasAccepted : Numbers → List Call → Call → Reply → Type 0
WasAccepted limits calls call reply = Step (store_of limits calls) call (Ok reply) (store_of limits (calls ++ call ∷ []))

-- each accepted call had a reply, and the calls before it were accepted
abbrev pub EachWasAccepted : Type 0
EachWasAccepted = (limits : Numbers) (calls : List Call) (call : Call) (more : List Call)
    → WereAccepted limits (calls ++ call ∷ more)
    → WereAccepted limits calls × ((reply : Reply) × WasAccepted limits calls call reply)

-- ---- uploads

-- whether the command begins an upload for the tenant
abbrev pub begins : ℕ → Command → Bool
begins tenant (commands.Begin t len) = t == tenant
begins tenant (commands.BeginOpen t at_most) = t == tenant
begins tenant _ = false

-- whether the command seals the upload
abbrev pub seals : ℕ → Command → Bool
seals upload (commands.Seal n) = n == upload
seals upload (commands.SealAs n at) = n == upload
seals upload _ = false

-- whether the command, or the call, seals or aborts the upload
abbrev pub ends_by : ℕ → Command → Bool
ends_by upload (commands.Abort n) = n == upload
ends_by upload command = seals upload command

abbrev pub ends : ℕ → Call → Bool
ends upload (change command) = ends_by upload command
ends upload (put n part) = false
ends upload (ask question) = false

-- the upload of the number is open, with the tenant and the plan of this one, and holds each part that this one holds
pub record IsOpen (b : ModelStoreBooks) (number : ℕ) (u : ModelOwnedUpload (List ℕ)) : Type 0 where
  pub begun : ModelOwnedUpload (List ℕ)
  pub found : upload_at b number ≡ Some begun
  pub tenant : begun.tenant ≡ u.tenant
  pub plan : begun.upload.plan ≡ u.upload.plan
  pub parts : (offset : ℕ) (bytes : List ℕ) → lookup (is_number offset) u.upload.parts ≡ Some bytes → lookup (is_number offset) begun.upload.parts ≡ Some bytes

-- an upload that is open stays open, and keeps what it holds, until a call seals or aborts it
abbrev pub StaysOpen : Type 0
StaysOpen = (limits : Numbers) (calls more : List Call) (upload : ℕ) (u : ModelOwnedUpload (List ℕ))
    → WereAccepted limits (calls ++ more)
    → upload_at (store_of limits calls).state upload ≡ Some u
    → AllByRecursion (λ c. ends upload c ≡ false) more
    → IsOpen (store_of limits (calls ++ more)).state upload u

-- an upload that was begun is open, with this tenant and this plan, until a call seals or aborts it
abbrev pub BegunIsOpen : Type 0
BegunIsOpen = (limits : Numbers) (calls more : List Call) (command : Command) (tenant upload : ℕ) (plan : UploadPlan)
    → WereAccepted limits (calls ++ change command ∷ more)
    → begins tenant command ≡ true
    → WasAccepted limits calls (change command) (replies.Upload upload plan)
    → AllByRecursion (λ c. ends upload c ≡ false) more
    → IsOpen (store_of limits (calls ++ change command ∷ more)).state upload (record { tenant = tenant; upload = new_upload plan })

-- A later upload has a greater number: each number is answered to one begin. So a session that aborts the uploads that its own begins were
-- answered with aborts no upload of another.
abbrev pub NumbersRise : Type 0
NumbersRise = (limits : Numbers) (calls more : List Call) (first second : Command) (tenant other earlier later : ℕ) (plan other_plan : UploadPlan)
    → WereAccepted limits (calls ++ change first ∷ more)
    → begins tenant first ≡ true
    → WasAccepted limits calls (change first) (replies.Upload earlier plan)
    → begins other second ≡ true
    → WasAccepted limits (calls ++ change first ∷ more) (change second) (replies.Upload later other_plan)
    → earlier < later

-- ---- parts

-- the upload is open, and holds these bytes at the offset
pub record HoldsPart (b : ModelStoreBooks) (upload offset : ℕ) (bytes : List ℕ) : Type 0 where
  pub begun : ModelOwnedUpload (List ℕ)
  pub found : upload_at b upload ≡ Some begun
  pub part : lookup (is_number offset) begun.upload.parts ≡ Some bytes

-- what was put stays where it was put, until a call seals or aborts the upload
abbrev pub StaysPut : Type 0
StaysPut = (limits : Numbers) (calls more : List Call) (upload : ℕ) (part : ModelPrepared)
    → WereAccepted limits (calls ++ put upload part ∷ more)
    → AllByRecursion (λ c. ends upload c ≡ false) more
    → HoldsPart (store_of limits (calls ++ put upload part ∷ more)).state upload part.part.offset part.part.bytes

-- ---- objects

-- The address that a seal answers is the hash of a content that has, at each offset, what the upload held there.
abbrev pub SealsWhatWasPut : Type 0
SealsWhatWasPut = (limits : Numbers) (calls : List Call) (command : Command) (upload offset : ℕ) (bytes : List ℕ) (sealed : ModelSealed)
    → WereAccepted limits calls
    → seals upload command ≡ true
    → WasAccepted limits calls (change command) (replies.Sealed sealed)
    → HoldsPart (store_of limits calls).state upload offset bytes
    → (sealed.address ≡ hash_of (content_in (store_of limits calls).state upload))
    × (take (length bytes) (drop offset (content_in (store_of limits calls).state upload)) ≡ bytes)

-- whether the command, or the call, forgets the object at the address for the tenant
abbrev pub forgets_by : ℕ → List ℕ → Command → Bool
forgets_by tenant at (commands.Forget t a) = t == tenant && bytes_eq a at
forgets_by tenant at _ = false

abbrev pub forgets : ℕ → List ℕ → Call → Bool
forgets tenant at (change command) = forgets_by tenant at command
forgets tenant at (put n part) = false
forgets tenant at (ask question) = false

-- what was sealed can be fetched for the upload's tenant, byte for byte, until a call forgets it for this tenant
abbrev pub SealedIsHeld : Type 0
SealedIsHeld = (limits : Numbers) (calls more : List Call) (command : Command) (upload : ℕ) (u : ModelOwnedUpload (List ℕ)) (sealed : ModelSealed)
    → WereAccepted limits (calls ++ change command ∷ more)
    → seals upload command ≡ true
    → WasAccepted limits calls (change command) (replies.Sealed sealed)
    → upload_at (store_of limits calls).state upload ≡ Some u
    → AllByRecursion (λ c. forgets u.tenant sealed.address c ≡ false) more
    → fetch_in (store_of limits (calls ++ change command ∷ more)).state u.tenant sealed.address ≡ Ok sealed.bytes
