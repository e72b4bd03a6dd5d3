-- Filing the bytes after a line: an upload is begun, the bytes are put in parts, and it is sealed. After the first refusal it is aborted.
use Rattle.std.specs.Prelude.{◌≡◌, ◌+◌, ◌-◌, ◌*◌, ◌<◌, ◌≤◌, ◌⊎◌, ℕ, Bool, true, false, List, [], ◌∷◌, ◌++◌, Option, Some, None, Ok, drop, length, min, take}
use Rattle.store_core.specs.Runs.{Call, change}
use Rattle.store_core.specs.declared.command.Command.{Command}
use Rattle.store_core.specs.declared.command.Command.TheVariants as commands
use Rattle.store_core.specs.declared.store.questions.Reply.TheVariants as replies
use Rattle.store_lines.specs.Script.{Turn, took}
use Rattle.store_lines.specs.declared.request.Filing.{Filing}
use Rattle.store_upload.specs.Uploads.{UploadPlan, max_part_bytes}

-- The turns of a file. If it isn't begun, that is the answer. Otherwise it is begun, parts are put, the next turn is answered, and the
-- upload is aborted if that turn was refused.
pub data FileTurn : Type 0 where
  unbegun : Turn → FileTurn
  begun : Turn → List Turn → Turn → List Turn → FileTurn

-- all of them, in order
abbrev pub turns_of : FileTurn → List Turn
turns_of (unbegun outcome) = outcome ∷ []
turns_of (begun begin puts outcome after) = begin ∷ (puts ++ outcome ∷ after)

-- the one that is answered
abbrev pub outcome_of : FileTurn → Turn
outcome_of (unbegun outcome) = outcome
outcome_of (begun begin puts outcome after) = outcome

-- whether a step was taken and accepted
abbrev pub is_accepted : Turn → Bool
is_accepted (took call (Ok reply)) = true
is_accepted _ = false

-- the command that begins the upload, and the one that files it
abbrev pub opening : Filing → Command
opening filing = commands.Begin filing.tenant filing.len

abbrev pub closing_at : Option (List ℕ) → ℕ → Command
closing_at None upload = commands.Seal upload
closing_at (Some address) upload = commands.SealAs upload address

abbrev pub closing : Filing → ℕ → Command
closing filing upload = closing_at filing.address upload

-- the length of the part with this number: each but the last is as long as a part can be
abbrev pub part_len : ℕ → ℕ → ℕ
part_len len number = min max_part_bytes (len - number * max_part_bytes)

-- its bytes
abbrev pub numbered_part : ℕ → List ℕ → ℕ → List ℕ
numbered_part len bytes number = take (part_len len number) (drop (number * max_part_bytes) bytes)

-- over states of any type, whose steps and puts are these
module _ {S : Type 0} (IsStep : S → Call → Turn → S → Type 0) (IsPut : S → ℕ → ℕ → List ℕ → Turn → S → Type 0) where
  -- the upload with this number was begun
  abbrev pub IsBegun : Filing → S → ℕ → Turn → S → Type 0
  IsBegun filing old upload begin new = (plan : UploadPlan) × (begin ≡ took (change (opening filing)) (Ok (replies.Upload upload plan))) × IsStep old (change (opening filing)) begin new

  -- parts were put, the first of which has this number
  abbrev pub ArePut : Filing → List ℕ → ℕ → S → ℕ → List Turn → S → Type 0
  ArePut filing bytes upload old number [] new = new ≡ old
  ArePut filing bytes upload old number (turn ∷ turns) new =
      (mid : S) × IsPut old upload (number * max_part_bytes) (numbered_part filing.len bytes number) turn mid × (is_accepted turn ≡ true) × ArePut filing bytes upload mid (number + 1) turns new

  -- an upload was begun, and its first parts were put
  abbrev pub IsPartlyPut : Filing → List ℕ → S → ℕ → Turn → List Turn → S → Type 0
  IsPartlyPut filing bytes old upload begin puts new = (mid : S) × IsBegun filing old upload begin mid × ArePut filing bytes upload mid 0 puts new

  -- after that many parts, the upload is sealed, or the next part is refused
  abbrev pub IsOutcome : Filing → List ℕ → S → ℕ → ℕ → Turn → S → Type 0
  IsOutcome filing bytes old upload number outcome new =
      ((filing.len ≤ number * max_part_bytes) × IsStep old (change (closing filing upload)) outcome new)
      ⊎ ((number * max_part_bytes < filing.len) × (is_accepted outcome ≡ false) × IsPut old upload (number * max_part_bytes) (numbered_part filing.len bytes number) outcome new)

  -- it is aborted, if that was refused
  abbrev pub IsAborted : S → ℕ → Turn → S → Type 0
  IsAborted old upload turn new = IsStep old (change (commands.Abort upload)) turn new

  abbrev pub IsOver : S → ℕ → Bool → List Turn → S → Type 0
  IsOver old upload true after new = (after ≡ []) × (new ≡ old)
  IsOver old upload false after new = (turn : Turn) × (after ≡ turn ∷ []) × IsAborted old upload turn new

  abbrev pub IsFiled : Filing → List ℕ → S → FileTurn → S → Type 0
  IsFiled filing bytes old (unbegun outcome) new = (is_accepted outcome ≡ false) × IsStep old (change (opening filing)) outcome new
  IsFiled filing bytes old (begun begin puts outcome after) new =
      (upload : ℕ) × (mid : S) × (then : S) × IsPartlyPut filing bytes old upload begin puts mid × IsOutcome filing bytes mid upload (length puts) outcome then × IsOver then upload (is_accepted outcome) after new
