-- Filing bytes in one call.
use Rattle.std.specs.Prelude.{◌≡◌, ◌⊎◌, ℕ, ◌-◌, ◌^◌, List, [], ◌∷◌, length, Option, Some, None, Result, Ok, Err}
use Rattle.b3_forest.specs.Parts.{ModelPrepared, planned}
use Rattle.store_books.specs.declared.refusal.Refusal.{Refusal}
use Rattle.store_core.specs.Commands.{StepsAs, abort_in, as_is, begin_in, put_in, reply_seen, seal_in}
use Rattle.store_core.specs.Model.{ModelStore}
use Rattle.store_core.specs.Seen.{sealed_seen}
use Rattle.store_core.specs.declared.store.Held.{Held}
use Rattle.store_core.specs.declared.store.Sealed.{Sealed}
use Rattle.store_upload.specs.Uploads.{ModelUpload, UploadPlan, closed_plan}
use Rattle.store_c.specs.Answers.{sealed_of}
use Rattle.store_c.specs.Calls.{Outcome, Reports}
use Rattle.store_c.specs.Keeping.{OnStore}
use Rattle.store_handle.specs.declared.Kept.{Kept}
use Rattle.store_handle.specs.declared.Kept.TheVariants as kept
use Rattle.store_c.specs.declared.answers.SealedObject.{SealedObject}

-- the number that stands for no upload
abbrev pub no_upload : ℕ
no_upload = 2 ^ 64 - 1

-- the upload that is left open: none, unless its abort was refused
abbrev pub left_of : ℕ → Result (ModelUpload (List ℕ)) Refusal → ℕ
left_of upload (Ok held) = no_upload
left_of upload (Err refusal) = upload

-- the upload is aborted
abbrev pub Aborts : ℕ → ModelStore → ℕ → ModelStore → Type 0
Aborts upload s left t = (aborted : Result (ModelUpload (List ℕ)) Refusal) × StepsAs as_is (abort_in s.state upload) s aborted t × (left ≡ left_of upload aborted)

-- the upload was sealed, or it is aborted
abbrev pub SealedThen : {R : Type 0} → ℕ → Result R Refusal → ModelStore → ℕ → ModelStore → Type 0
SealedThen upload (Ok sealed) s left t = (left ≡ no_upload) × (t ≡ s)
SealedThen upload (Err refusal) s left t = Aborts upload s left t

-- the upload is sealed, and that is reported
abbrev pub Seals : ℕ → ModelStore → Outcome SealedObject → ℕ → ModelStore → Type 0
Seals upload s o left t = (sealed : Result Sealed Refusal) × (m : ModelStore) × StepsAs sealed_seen (seal_in s.state upload) s sealed m
    × Reports (reply_seen sealed_of sealed) o × SealedThen upload sealed m left t

abbrev pub PutThen : ℕ → Result Held Refusal → ModelStore → Outcome SealedObject → ℕ → ModelStore → Type 0
PutThen upload (Ok held) s o left t = Seals upload s o left t
PutThen upload (Err refusal) s o left t = Reports (Err refusal) o × Aborts upload s left t

-- the part is put, if there is one
abbrev pub Puts : ℕ → Option ModelPrepared → ModelStore → Outcome SealedObject → ℕ → ModelStore → Type 0
Puts upload None s o left t = Seals upload s o left t
Puts upload (Some part) s o left t = (put : Result Held Refusal) × (m : ModelStore) × StepsAs as_is (put_in s.state upload part) s put m × PutThen upload put m o left t

abbrev pub BegunThen : Option ModelPrepared → Result (ℕ × UploadPlan) Refusal → ModelStore → Outcome SealedObject → ℕ → ModelStore → Type 0
BegunThen part (Ok begun) s o left t = Puts begun.0 part s o left t
BegunThen part (Err refusal) s o left t = Reports (Err refusal) o × (left ≡ no_upload) × (t ≡ s)

-- an upload of the tenant is begun
abbrev pub Files : ℕ → ℕ → Option ModelPrepared → ModelStore → Outcome SealedObject → ℕ → ModelStore → Type 0
Files tenant len part s o left t = (begun : Result (ℕ × UploadPlan) Refusal) × (m : ModelStore) × StepsAs as_is (begin_in s.state tenant len) s begun m × BegunThen part begun m o left t

-- the numbers of a call that has filed nothing
abbrev pub IsUnfiled : ℕ → Type 0
IsUnfiled n = (n ≡ 33) ⊎ ((n ≡ 38) ⊎ ((n ≡ 41) ⊎ (n ≡ 64)))

-- bytes as the only part of their upload, unless there are none
abbrev pub part_for : List ℕ → Option ModelPrepared
part_for [] = None
part_for (b ∷ bytes) = Some (planned (closed_plan (length (b ∷ bytes))) 0 (b ∷ bytes))

-- what a call files in the store that a handle keeps
abbrev pub FilesIn : Option Kept → ℕ → List ℕ → Outcome SealedObject → ℕ → Option Kept → Type 0
FilesIn old tenant bytes o left new = OnStore old (λ s. (t : ModelStore) × Files tenant (length bytes) (part_for bytes) s o left t × (new ≡ Some (kept.Store t))) ⊥
