-- A session's lines, and their answers. Others may change its store between its steps, as its access says.
use Rattle.std.specs.Prelude.{◌≡◌, ◌+◌, ◌++◌, ◌<◌, ◌≤◌, ◌⊎◌, ℕ, true, false, List, [], ◌∷◌, Option, Some, None, Result, Ok, Err, drop, length, take}
use Rattle.std.specs.List.{flat_map}
use Rattle.std.specs.Io.BufRead.{drop_through, strip_last, take_through}
use Rattle.std.specs.Io.KnownBytes.{Appends}
use Rattle.b3_forest.specs.Parts.{ModelPrepared, planned}
use Rattle.edge.specs.declared.outcome.Verdict.{Verdict}
use Rattle.edge.specs.declared.outcome.Verdict.TheVariants as verdicts
use Rattle.store_books.specs.declared.refusal.Refusal.{Refusal}
use Rattle.store_core.specs.Questions.{plan_in}
use Rattle.store_core.specs.Model.{ModelStore}
use Rattle.store_core.specs.Runs.{Call, Run, ask, change, put}
use Rattle.store_core.specs.declared.store.questions.Question.TheVariants as questions
use Rattle.store_lines.specs.Grammar.{command_at, whole_journal}
use Rattle.store_lines.specs.declared.request.Request.{Request}
use Rattle.store_lines.specs.declared.request.Request.TheVariants.{Asks, Does, Entries, Fetch, File, Put, PutRaw}
use Rattle.store_lines.specs.Filing.{FileTurn, IsAborted, IsFiled, IsPartlyPut, is_accepted, outcome_of}
use Rattle.store_lines.specs.Lines.{IsPutLine}
use Rattle.store_lines.specs.Script.{IsTurnOfStep, Turn, bad, listed, range_entries, skipped, took, unmade, unplanned}
use Rattle.edge.specs.Lines.{HasNewline}
use Rattle.store_lines.specs.Lines.{max_request}
use Rattle.store_lines.specs.Requests.{request_in}
use Rattle.store_lines.specs.Session.{IsShort, Manner, SessionTurn, as_range, as_script, filed, no_memory, session_calls, session_replies, session_turn_text, reported_as}
use Rattle.store_lines.specs.declared.request.EntryRange.{EntryRange}
use Rattle.store_lines.specs.declared.request.Filing.{Filing}
use Rattle.store_upload.specs.Uploads.{UploadPlan, part_fault}
use Rattle.store_upload.specs.declared.refusal.PartFault.{PartFault}
use Rattle.store_upload.specs.declared.refusal.PartFault.TheVariants as faults
use Rattle.store_lines.specs.Access.{IsSince, Reach, SessionState, alone_reach, at, took_bytes, took_calls, took_numbers}
use Rattle.store_lines.specs.Owning.{IsBeginLine, Session, begins, own_of, session_of}
use Rattle.store_lines.specs.declared.owning.UploadsAtEnd.{UploadsAtEnd}
use Rattle.store_lines.specs.declared.owning.UploadsAtEnd.TheVariants as at_end
use Rattle.store_core.specs.declared.command.Command.{Command}
use Rattle.store_core.specs.declared.command.Command.TheVariants as commands

-- ---- one line: its turn after a state that was left, and its effect

-- the account grows by the bytes of the turn's accepted part; the parts of the book stay
abbrev pub turn_bytes : Turn → ℕ
turn_bytes (took call reply) = took_bytes call reply
turn_bytes _ = 0

abbrev pub turn_calls : Turn → ℕ
turn_calls (took call reply) = took_calls call reply
turn_calls _ = 0

-- and its own entries by that of an accepted command
abbrev pub turn_numbers : ModelStore → Turn → List ℕ
turn_numbers found (took call reply) = took_numbers found call reply
turn_numbers found _ = []

abbrev pub IsCountedTurn : SessionState → ModelStore → Turn → SessionState → Type 0
IsCountedTurn old found turn new = (new.parts ≡ old.parts) × (new.bytes ≡ old.bytes + turn_bytes turn) × (new.calls ≡ old.calls + turn_calls turn) × (new.own ≡ old.own ++ turn_numbers found turn)

-- one step from a state that is linked to what was left before
abbrev pub IsLinkedStep : Reach → SessionState → Call → Turn → SessionState → Type 0
IsLinkedStep reach old call turn new = (found : ModelStore) × (reach.links old.store found × (IsTurnOfStep found call turn new.store × IsCountedTurn old found turn new))

-- A part is put in two steps: a plan is asked for, the part is made for it, and then it is put to the state that is found then.
abbrev pub IsLinkedPart : Reach → SessionState → ℕ → ModelPrepared → Turn → SessionState → Type 0
IsLinkedPart reach first upload part (unmade fault) new = (fault ≡ faults.NoMemory) × (new ≡ first)
IsLinkedPart reach first upload part (took asked reply) new = IsLinkedStep reach first (put upload part) (took asked reply) new
IsLinkedPart reach first upload part _ new = ⊥

abbrev pub IsLinkedMade : Reach → SessionState → ℕ → ModelPrepared → Option PartFault → Turn → SessionState → Type 0
IsLinkedMade reach first upload part (Some fault) turn new = (turn ≡ unmade fault) × (new ≡ first)
IsLinkedMade reach first upload part None turn new = IsLinkedPart reach first upload part turn new

abbrev pub IsLinkedPlan : Reach → SessionState → ℕ → ℕ → List ℕ → Result UploadPlan Refusal → Turn → SessionState → Type 0
IsLinkedPlan reach first upload offset bytes (Err refusal) turn new = (turn ≡ unplanned refusal) × (new ≡ first)
IsLinkedPlan reach first upload offset bytes (Ok plan) turn new = IsLinkedMade reach first upload (planned plan offset bytes) (part_fault plan offset (length bytes)) turn new

abbrev pub IsLinkedPut : Reach → SessionState → ℕ → ℕ → List ℕ → Turn → SessionState → Type 0
IsLinkedPut reach old upload offset bytes turn new = (first : ModelStore) × (reach.links old.store first × IsLinkedPlan reach (at old first) upload offset bytes (plan_in first.state upload) turn new)

-- entries of the journal, of a state that is linked to what was left before
abbrev pub IsLinkedListing : Reach → SessionState → EntryRange → Turn → SessionState → Type 0
IsLinkedListing reach old range turn new = (found : ModelStore) × (reach.links old.store found × ((turn ≡ listed (range_entries range found.journal)) × (new ≡ at old found)))

abbrev pub IsLinkedCommand : Reach → SessionState → Option Request → Turn → SessionState → Type 0
IsLinkedCommand reach old None turn new = (turn ≡ bad) × (new ≡ old)
IsLinkedCommand reach old (Some (Does command)) turn new = IsLinkedStep reach old (change command) turn new
IsLinkedCommand reach old (Some (Asks question)) turn new = IsLinkedStep reach old (ask question) turn new
IsLinkedCommand reach old (Some (Put part)) turn new = IsLinkedPut reach old part.upload part.offset part.bytes turn new
IsLinkedCommand reach old (Some (Entries range)) turn new = IsLinkedListing reach old range turn new
IsLinkedCommand reach old (Some _) turn new = (turn ≡ bad) × (new ≡ old)

abbrev pub IsLinkedLine : Reach → SessionState → List ℕ → Turn → SessionState → Type 0
IsLinkedLine reach old [] turn new = (turn ≡ skipped) × (new ≡ old)
IsLinkedLine reach old (b ∷ line) turn new = IsLinkedCommand reach old (command_at (b ∷ line)) turn new

-- a line may allocate: if it is long, or puts a part, or asks for the journal and that is copied, or begins an upload that the session has to
-- abort at its end
abbrev pub MayLack : Session → List ℕ → Type 0
MayLack session line = (max_request ≤ length line) ⊎ (IsPutLine line ⊎ ((session.reach.lacks × (command_at line ≡ Some (Entries whole_journal))) ⊎ ((session.at_end ≡ at_end.Aborted) × IsBeginLine line)))

abbrev pub IsLinkedScriptLine : Session → SessionState → List ℕ → SessionTurn → SessionState → Type 0
IsLinkedScriptLine session old line no_memory new = MayLack session line × (new ≡ old)
IsLinkedScriptLine session old line (reported_as manner turn) new = (manner ≡ as_script) × IsLinkedLine session.reach old line turn new
IsLinkedScriptLine session old line (filed turns) new = ⊥

-- one step, with its answer written in a manner
abbrev pub IsLinkedCall : Reach → Manner → SessionState → Call → SessionTurn → SessionState → Type 0
IsLinkedCall reach manner old call no_memory new = ⊥
IsLinkedCall reach manner old call (reported_as reported turn) new = (reported ≡ manner) × IsLinkedStep reach old call turn new
IsLinkedCall reach manner old call (filed turns) new = ⊥

-- A command. An allocation may fail for the number of an upload that it begins, if the session has to abort it at its end: then it is not
-- executed.
abbrev pub IsLinkedChange : Session → SessionState → Command → SessionTurn → SessionState → Type 0
IsLinkedChange session old command no_memory new = (session.at_end ≡ at_end.Aborted) × (begins command ≡ true) × (new ≡ old)
IsLinkedChange session old command (reported_as reported turn) new = (reported ≡ as_script) × IsLinkedStep session.reach old (change command) turn new
IsLinkedChange session old command (filed turns) new = ⊥

-- the journal's entries, for which an allocation may fail
abbrev pub IsLinkedEntries : Reach → EntryRange → SessionState → SessionTurn → SessionState → Type 0
IsLinkedEntries reach range old no_memory new = reach.lacks × (new ≡ old)
IsLinkedEntries reach range old (reported_as reported turn) new = (reported ≡ as_script) × IsLinkedListing reach old range turn new
IsLinkedEntries reach range old (filed turns) new = ⊥

abbrev pub IsLinkedBytes : Reach → SessionState → ℕ → ℕ → List ℕ → SessionTurn → SessionState → Type 0
IsLinkedBytes reach old upload offset bytes no_memory new = ⊥
IsLinkedBytes reach old upload offset bytes (reported_as reported turn) new = (reported ≡ as_script) × IsLinkedPut reach old upload offset bytes turn new
IsLinkedBytes reach old upload offset bytes (filed turns) new = ⊥

-- the steps of a file, each from a state that is linked to what the one before it left
abbrev pub AreLinkedSteps : Reach → Filing → List ℕ → SessionState → FileTurn → SessionState → Type 0
AreLinkedSteps reach filing bytes old turns new = IsFiled (IsLinkedStep reach) (IsLinkedPut reach) filing bytes old turns new

abbrev pub IsLinkedFile : Reach → SessionState → Filing → List ℕ → SessionTurn → SessionState → Type 0
IsLinkedFile reach old filing bytes (filed turns) new = AreLinkedSteps reach filing bytes old turns new
IsLinkedFile reach old filing bytes _ new = ⊥

-- the turn of a line with this request, its effect, and the bytes that remain after it
abbrev pub IsLinkedRequest : Session → SessionState → Option Request → List ℕ → List ℕ → SessionTurn → SessionState → List ℕ → Type 0
IsLinkedRequest session old None whole following turn new rest = IsLinkedScriptLine session old (strip_last 10 whole) turn new × (rest ≡ following)
IsLinkedRequest session old (Some (Does command)) whole following turn new rest = IsLinkedChange session old command turn new × (rest ≡ following)
IsLinkedRequest session old (Some (Asks question)) whole following turn new rest = IsLinkedCall session.reach as_script old (ask question) turn new × (rest ≡ following)
IsLinkedRequest session old (Some (Put part)) whole following turn new rest = IsLinkedBytes session.reach old part.upload part.offset part.bytes turn new × (rest ≡ following)
IsLinkedRequest session old (Some (PutRaw part)) whole following turn new rest = IsLinkedBytes session.reach old part.upload part.offset (take part.len following) turn new × (part.len ≤ length following) × (rest ≡ drop part.len following)
IsLinkedRequest session old (Some (File filing)) whole following turn new rest = IsLinkedFile session.reach old filing following turn new × (filing.len ≤ length following) × (rest ≡ drop filing.len following)
IsLinkedRequest session old (Some (Fetch wanted)) whole following turn new rest = IsLinkedCall session.reach (as_range wanted.range) old (ask (questions.Fetch wanted.tenant wanted.address)) turn new × (rest ≡ following)
IsLinkedRequest session old (Some (Entries range)) whole following turn new rest = IsLinkedEntries session.reach range old turn new × (rest ≡ following)

abbrev pub IsLinkedFirstLine : Session → SessionState → List ℕ → SessionTurn → SessionState → List ℕ → Type 0
IsLinkedFirstLine session old input turn new rest = (0 < length input) × (session.reach.needs_newline ≡ true → HasNewline (take_through 10 input)) × IsLinkedRequest session old (request_in (take_through 10 input)) (take_through 10 input) (drop_through 10 input) turn new rest

-- ---- a session

-- no bytes remain; or a part or a file whose bytes are truncated, or a line without the newline that it needs
abbrev pub EndsOver : Reach → Verdict → List ℕ → Type 0
EndsOver reach verdicts.Good rest = rest ≡ []
EndsOver reach verdicts.Refused rest = IsShort (request_in (take_through 10 rest)) (drop_through 10 rest) ⊎ ((reach.needs_newline ≡ true) × (0 < length rest) × (HasNewline (take_through 10 rest) → ⊥))

-- lines in order, each with its turn, from states that are linked to what was left before
abbrev pub AreLinkedTurns : Session → SessionState → List ℕ → List SessionTurn → SessionState → List ℕ → Type 0
AreLinkedTurns session old input [] new rest = (new ≡ old) × (rest ≡ input)
AreLinkedTurns session old input (turn ∷ turns) new rest = (mid : SessionState) × (following : List ℕ) × IsLinkedFirstLine session old input turn mid following × AreLinkedTurns session mid following turns new rest

-- Some parts of a file were put, and it was aborted.
pub record IsCutShort (reach : Reach) (old : SessionState) (filing : Filing) (bytes : List ℕ) (new : SessionState) : Type 0 where
  pub upload : ℕ
  pub begin : Turn
  pub puts : List Turn
  pub abort : Turn
  pub mid : SessionState
  pub left : ModelStore
  pub begun : IsPartlyPut (IsLinkedStep reach) (IsLinkedPut reach) filing bytes old upload begin puts mid
  pub since : IsSince reach mid.store left
  pub aborted : IsAborted (IsLinkedStep reach) (IsLinkedPut reach) (at mid left) upload abort new

-- or it was refused
abbrev pub IsCutFile : Reach → SessionState → Filing → List ℕ → SessionState → Type 0
IsCutFile reach old filing bytes new = IsCutShort reach old filing bytes new ⊎ ((turns : FileTurn) × (is_accepted (outcome_of turns) ≡ false) × AreLinkedSteps reach filing bytes old turns new)

-- what a request leaves that isn't answered: a file whose bytes did not all arrive may have been begun
abbrev pub IsCut : Reach → SessionState → Option Request → List ℕ → SessionState → Type 0
IsCut reach old (Some (File filing)) following new = IsCutFile reach old filing following new
IsCut reach old _ following new = ⊥

abbrev pub IsLeft : Reach → SessionState → Option Request → List ℕ → SessionState → Type 0
IsLeft reach old request following new = ((left : ModelStore) × IsSince reach old.store left × (new ≡ at old left)) ⊎ IsCut reach old request following new

-- uploads were aborted in turn, each in a state that is linked to what was left before, unless that was refused
abbrev pub AreAborted : Reach → SessionState → List ℕ → SessionState → Type 0
AreAborted reach old [] new = new ≡ old
AreAborted reach old (upload ∷ uploads) new = (turn : Turn) × (mid : SessionState) × IsLinkedStep reach old (change (commands.Abort upload)) turn mid × AreAborted reach mid uploads new

-- After the turns, the session aborted its own uploads, if it doesn't keep them.
abbrev pub Finishes : Session → (SessionState → Type 0) → List SessionTurn → SessionState → Type 0
Finishes session is turns last = (done : SessionState) × (AreAborted session.reach last (own_of session.at_end turns) done × is done)

-- Lines of a prefix of the input were answered in order, whatever was left before the session. The account is the session's own in the end,
-- with what the next line left that isn't answered. Then this follows, and `Wrote` holds for the text of the answers.
pub record ServedSomeOver (session : Session) (was : SessionState → Type 0) (Then : List SessionTurn → SessionState → Type 0) (input : List ℕ) (Wrote : List ℕ → Type 0) : Type 0 where
  pub turns : List SessionTurn
  pub rest : List ℕ
  pub plays : (start : SessionState) → was start → (end : SessionState) × (AreLinkedTurns session start input turns end rest × ((last : SessionState) × (IsLeft session.reach end (request_in (take_through 10 rest)) (drop_through 10 rest) last × Then turns last)))
  pub wrote : Wrote (flat_map session_turn_text turns)

-- the writer grew by the answers, and the session reached its end
pub record ServedAllOver (session : Session) (was : SessionState → Type 0) (Then : List SessionTurn → SessionState → Type 0) (input : List ℕ) (old new : Option (List ℕ)) (verdict : Verdict) : Type 0 where
  pub served : ServedSomeOver session was Then input (Appends old new)
  pub ends : EndsOver session.reach verdict served.rest

-- lines of a prefix of the input were answered in order, and the next one left this
abbrev pub StoppedOver : Session → (SessionState → Type 0) → (SessionState → Type 0) → List ℕ → Type 0
StoppedOver session was is input = ServedSomeOver session was (λ turns last. is last) input (λ output. Unit {0})

-- ---- laws

-- how an input splits into lines and bytes depends only on the input, and not on what is kept, on others or on failed allocations
abbrev pub FramesAlike : Reach → Type 0
FramesAlike reach = (uploads : UploadsAtEnd) (old new old2 new2 : SessionState) (input : List ℕ) (turns turns2 : List SessionTurn) (rest rest2 : List ℕ)
    → AreLinkedTurns (session_of reach uploads) old input turns new rest → AreLinkedTurns (session_of reach uploads) old2 input turns2 new2 rest2 → length turns ≡ length turns2 → rest ≡ rest2

-- the steps among turns in a store that nobody else changes are a run of the store
abbrev pub StepsAreRun : Type 0
StepsAreRun = (uploads : UploadsAtEnd) (old new : SessionState) (input : List ℕ) (turns : List SessionTurn) (rest : List ℕ)
    → AreLinkedTurns (session_of alone_reach uploads) old input turns new rest → Run old.store (session_calls turns) (session_replies turns) new.store
