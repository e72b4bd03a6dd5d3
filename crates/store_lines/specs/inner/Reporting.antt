-- Definitions for private functions.
use Rattle.std.specs.Prelude.{◌≡◌, ◌*◌, ◌-◌, ◌<◌, ◌≤◌, ℕ, Bool, true, false, List, [], Option, Some, None, Ok, drop, length, min, take}
use Rattle.std.specs.Io.KnownBytes.{IsAtEnd}
use Rattle.store_core.specs.Model.{ModelStore}
use Rattle.store_core.specs.declared.store.questions.Reply.{Reply}
use Rattle.store_core.specs.declared.store.questions.Reply.TheVariants as replies
use Rattle.store_journal.specs.declared.entry.Entry.{Entry}
use Rattle.store_lines.specs.inner.Answers.{reported_ending, reported_text}
use Rattle.store_lines.specs.Script.{Turn, turn_ending, turn_text}
use Rattle.store_lines.specs.declared.answer.Answer.{Answer}
use Rattle.store_lines.specs.declared.answer.Answer.TheVariants as answers
use Rattle.store_lines.specs.inner.Requests.{IsOwnOrScript, IsSessionLine}
use Rattle.store_lines.specs.declared.session_line.Line.{Line}
use Rattle.store_lines.specs.Requests.{request_in}
use Rattle.store_lines.specs.Session.{IsShort, SessionTurn, session_turn_text}
use Rattle.edge.specs.declared.lines.LineRead.{LineRead}
use Rattle.store_lines.specs.Filing.{ArePut, FileTurn, IsOutcome, is_accepted, outcome_of}
use Rattle.store_lines.specs.declared.filing.Filled.{Filled}
use Rattle.store_lines.specs.declared.filing.Filled.TheVariants as filled
use Rattle.store_lines.specs.declared.request.Filing.{Filing}
use Rattle.store_lines.specs.declared.request.Request.{Request}
use Rattle.store_lines.specs.declared.request.Request.TheVariants.{File}
use Rattle.store_lines.specs.Access.{IsSince, Reach, SessionState, at}
use Rattle.store_upload.specs.Uploads.{max_part_bytes}
use Rattle.store_lines.specs.Owning.{Session, own_after, own_of}
use Rattle.store_lines.specs.declared.owning.OwnUploads.{OwnUploads}
use Rattle.store_lines.specs.Turns.{AreAborted, AreLinkedSteps, IsLeft, IsLinkedPut, IsLinkedRequest, IsLinkedStep}

-- nothing was added to the account
pub record Leaves (reach : Reach) (was is : SessionState → Type 0) : Type 0 where
  pub leaves : (before : SessionState) → was before → (left : ModelStore) × (IsSince reach before.store left × is (at before left))

-- the request on a line was not answered
pub record LeavesOver (reach : Reach) (was is : SessionState → Type 0) (request : Option Request) (following : List ℕ) : Type 0 where
  pub leaves : (before : SessionState) → was before → (after : SessionState) × (IsLeft reach before request following after × is after)

-- the same for a line, whatever its bytes are
pub record LeavesLineOver (reach : Reach) (was is : SessionState → Type 0) (line : Line) (following : List ℕ) : Type 0 where
  pub leaves : (whole : List ℕ) → IsOwnOrScript whole line → LeavesOver reach was is (request_in whole) following

-- a turn was answered: it is the turn for each state that may have been left before, and its text was written, or some of it
pub record ReportedOver (was is : SessionState → Type 0) (Is : SessionState → SessionTurn → SessionState → Type 0) (Wrote : List ℕ → Type 0) : Type 0 where
  pub turn : SessionTurn
  pub goes : (before : SessionState) → was before → (after : SessionState) × (is after × Is before turn after)
  pub wrote : Wrote (session_turn_text turn)

-- a turn of a script with this answer, which has no entries of the journal
pub record AnsweredOver (was is : SessionState → Type 0) (Is : SessionState → Turn → SessionState → Type 0) (answer : Answer) : Type 0 where
  pub turn : Turn
  pub goes : (before : SessionState) → was before → (after : SessionState) × (is after × Is before turn after)
  pub text_is : (entries : List Entry) → reported_text entries answer ≡ turn_text turn
  pub ending_is : reported_ending answer ≡ turn_ending turn

-- ---- the session's own uploads

-- after a turn
abbrev pub Notes : OwnUploads → OwnUploads → SessionTurn → Type 0
Notes old new turn = new.numbers.items ≡ own_after old.numbers.items turn old.at_end

-- after all turns
abbrev pub Owns : Session → (SessionState → Type 0) → List ℕ → List SessionTurn → SessionState → Type 0
Owns session is own turns last = is last × (own ≡ own_of session.at_end turns)

-- they were aborted
pub record AbortsOver (reach : Reach) (was is : SessionState → Type 0) (uploads : List ℕ) : Type 0 where
  pub goes : (before : SessionState) → was before → (after : SessionState) × (AreAborted reach before uploads after × is after)

-- ---- a line

-- One line was served, and its turn has this property; or its bytes are truncated by the end of the input.
abbrev pub ServesOver : Session → (SessionState → Type 0) → (SessionState → Type 0) → (SessionTurn → Type 0) → Bool → Option Request → List ℕ → List ℕ → Option (List ℕ) → (List ℕ → Type 0) → Type 0
ServesOver session was is Has true request whole following left Wrote =
    (rest : List ℕ) × ((left ≡ Some rest) × ReportedOver was is (λ before turn after. IsLinkedRequest session before request whole following turn after rest × Has turn) Wrote)
ServesOver session was is Has false request whole following left Wrote = IsShort request following × Wrote [] × LeavesOver session.reach was is request following × IsAtEnd left

-- the same for a request, whatever line spelled it
pub record ServesRequestOver (session : Session) (was is : SessionState → Type 0) (Has : SessionTurn → Type 0) (is_whole : Bool) (request : Request) (following : List ℕ) (left : Option (List ℕ)) (Wrote : List ℕ → Type 0) : Type 0 where
  pub serves : (whole : List ℕ) → ServesOver session was is Has is_whole (Some request) whole following left Wrote

-- the same for a line, whatever its bytes are
pub record ServesLineOver (session : Session) (was is : SessionState → Type 0) (Has : SessionTurn → Type 0) (is_whole : Bool) (line : Line) (following : List ℕ) (left : Option (List ℕ)) (Wrote : List ℕ → Type 0) : Type 0 where
  pub serves : (whole : List ℕ) → IsOwnOrScript whole line → ServesOver session was is Has is_whole (request_in whole) whole following left Wrote

-- the same for a line that was read like this
pub record ServesReadOver (session : Session) (was is : SessionState → Type 0) (Has : SessionTurn → Type 0) (is_whole : Bool) (read : LineRead) (kept following : List ℕ) (left : Option (List ℕ)) (Wrote : List ℕ → Type 0) : Type 0 where
  pub serves : (whole : List ℕ) → IsSessionLine whole read kept → ServesOver session was is Has is_whole (request_in whole) whole following left Wrote

-- the bytes after a put were taken, and its result
abbrev pub ReceivesOver : Reach → (SessionState → Type 0) → (SessionState → Type 0) → Option Answer → ℕ → ℕ → ℕ → List ℕ → Option (List ℕ) → Type 0
ReceivesOver reach was is None upload offset len following left = (length following < len) × Leaves reach was is × IsAtEnd left
ReceivesOver reach was is (Some answer) upload offset len following left =
    (len ≤ length following) × (left ≡ Some (drop len following)) × AnsweredOver was is (λ before turn after. IsLinkedPut reach before upload offset (take len following) turn after) answer

-- ---- a file

-- the reply of a command that begins an upload: it has this number
abbrev pub NamesUpload : Reply → ℕ → Type 0
NamesUpload (replies.Upload upload plan) number = number ≡ upload
NamesUpload _ number = ⊥

-- the reply has one
abbrev pub IsOfUpload : Reply → Type 0
IsOfUpload (replies.Upload upload plan) = Unit {0}
IsOfUpload _ = ⊥

-- its steps were taken, and answered like this
pub record FiledOver (was is : SessionState → Type 0) (Are : SessionState → FileTurn → SessionState → Type 0) (answer : Answer) : Type 0 where
  pub turns : FileTurn
  pub goes : (before : SessionState) → was before → (after : SessionState) × (is after × Are before turns after)
  pub text_is : (entries : List Entry) → reported_text entries answer ≡ turn_text (outcome_of turns)

-- its bytes were taken, or they are truncated
abbrev pub FilesOver : Reach → (SessionState → Type 0) → (SessionState → Type 0) → Option Answer → Filing → List ℕ → Option (List ℕ) → Type 0
FilesOver reach was is None filing following left = (length following < filing.len) × LeavesOver reach was is (Some (File filing)) following × IsAtEnd left
FilesOver reach was is (Some answer) filing following left =
    (filing.len ≤ length following) × (left ≡ Some (drop filing.len following)) × FiledOver was is (λ before turns after. AreLinkedSteps reach filing following before turns after) answer

abbrev pub AreLinkedPuts : Reach → Filing → List ℕ → ℕ → SessionState → List Turn → SessionState → Type 0
AreLinkedPuts reach filing bytes upload old puts new = ArePut (IsLinkedStep reach) (IsLinkedPut reach) filing bytes upload old 0 puts new

-- the number of bytes of that many parts
abbrev pub bytes_before : ℕ → ℕ → ℕ
bytes_before len number = min len (number * max_part_bytes)

-- that many parts were put
pub record PutsOver (reach : Reach) (was is : SessionState → Type 0) (filing : Filing) (upload number : ℕ) (following : List ℕ) (left : Option (List ℕ)) : Type 0 where
  pub puts : List Turn
  pub count : length puts ≡ number
  pub goes : (before : SessionState) → was before → (after : SessionState) × (is after × AreLinkedPuts reach filing following upload before puts after)
  pub arrived : bytes_before filing.len number ≤ length following
  pub left_is : left ≡ Some (drop (bytes_before filing.len number) following)

-- some parts were put, and no more
pub record StopsOver (reach : Reach) (was is : SessionState → Type 0) (filing : Filing) (upload : ℕ) (following : List ℕ) : Type 0 where
  pub puts : List Turn
  pub goes : (before : SessionState) → was before → (mid : SessionState) × (left : ModelStore) × AreLinkedPuts reach filing following upload before puts mid × IsSince reach mid.store left × is (at mid left)

-- after them, the upload was sealed, or that or the next part was refused
pub record OutcomeOver (reach : Reach) (was is : SessionState → Type 0) (filing : Filing) (upload : ℕ) (following : List ℕ) (accepted : Bool) (answer : Answer) : Type 0 where
  pub puts : List Turn
  pub outcome : Turn
  pub goes : (before : SessionState) → was before → (mid : SessionState) × (then : SessionState) × AreLinkedPuts reach filing following upload before puts mid
      × IsOutcome (IsLinkedStep reach) (IsLinkedPut reach) filing following mid upload (length puts) outcome then × is then × (is_accepted outcome ≡ accepted)
  pub text_is : (entries : List Entry) → reported_text entries answer ≡ turn_text outcome

abbrev pub FillsOver : Reach → (SessionState → Type 0) → (SessionState → Type 0) → Filled → Filing → ℕ → List ℕ → Option (List ℕ) → Type 0
FillsOver reach was is (filled.Sealed reply) filing upload following left =
    (filing.len ≤ length following) × (left ≡ Some (drop filing.len following)) × OutcomeOver reach was is filing upload following true (answers.Replied (Ok reply))
FillsOver reach was is (filled.Refused answer count) filing upload following left =
    (count ≤ filing.len) × (filing.len - count ≤ length following) × (left ≡ Some (drop (filing.len - count) following)) × OutcomeOver reach was is filing upload following false answer
FillsOver reach was is filled.Truncated filing upload following left = (length following < filing.len) × StopsOver reach was is filing upload following × IsAtEnd left
