-- What code says of a line that was read, and of the answer to it.
use Rattle.std.specs.Prelude.{◌≡◌, ◌<◌, ℕ, Some, Bool, true, false, List, [], codes, length}
use Rattle.std.specs.Io.BufRead.{strip_last}
use Rattle.store_core.specs.Model.{ModelStore}
use Rattle.store_journal.specs.declared.entry.Entry.{Entry}
use Rattle.store_lines.specs.Grammar.{command_at, fault_at}
use Rattle.store_lines.specs.Running.{AreTold, told_of}
use Rattle.store_lines.specs.declared.bad_lines.LineFault.{LineFault}
use Rattle.store_lines.specs.declared.request.Request.{Request}
use Rattle.store_lines.specs.Access.{SessionState, alone_reach, alone_stands}
use Rattle.store_lines.specs.Script.{Turn, fault_ending, range_entries, reply_ending, turn_ending, turn_text}
use Rattle.store_lines.specs.Texts.{entries_text, refused_text, unmade_text}
use Rattle.store_lines.specs.Questions.{answer_text}
use Rattle.store_lines.specs.Turns.{IsLinkedLine}
use Rattle.edge.specs.declared.lines.LineRead.{LineRead}
use Rattle.store_lines.specs.inner.Requests.{IsSessionLine, MayTakeMemory}
use Rattle.store_lines.specs.declared.answer.Answer.{Answer}
use Rattle.store_lines.specs.declared.answer.Answer.TheVariants as answers
use Rattle.store_lines.specs.declared.ending.Ending.{Ending}
use Rattle.store_lines.specs.declared.ending.Ending.TheVariants as endings

-- the text of an answer of a store whose journal is `entries`
abbrev pub reported_text : List Entry → Answer → List ℕ
reported_text entries answers.Nothing = []
reported_text entries answers.Bad = codes "bad\n"
reported_text entries (answers.Unmade fault) = refused_text (unmade_text fault)
reported_text entries (answers.Replied reply) = answer_text reply
reported_text entries (answers.Entries range) = entries_text (range_entries range entries)

-- how a run with this answer ends at best
abbrev pub reported_ending : Answer → Ending
reported_ending answers.Nothing = endings.Good
reported_ending answers.Bad = endings.Refused
reported_ending (answers.Unmade fault) = fault_ending fault
reported_ending (answers.Replied reply) = reply_ending reply
reported_ending (answers.Entries range) = endings.Good

-- whether a run may end well with it
abbrev pub is_good : Ending → Bool
is_good endings.Good = true
is_good _ = false

-- a turn with this property, with its answer and its ending
pub record Answered (Is : Turn → Type 0) (text : List ℕ) (ending : Ending) : Type 0 where
  pub turn : Turn
  pub is : Is turn
  pub text_is : text ≡ turn_text turn
  pub ending_is : ending ≡ turn_ending turn

-- the turn of a line in a store that nobody else changes
abbrev pub IsTurnOf : ModelStore → List ℕ → ModelStore → Turn → Type 0
IsTurnOf old line new turn = (before : SessionState) → alone_stands old before → (after : SessionState) × (alone_stands new after × IsLinkedLine alone_reach before line turn after)

-- the answer to the line that was read
pub record AnswersRead (old new : ModelStore) (read : LineRead) (kept text : List ℕ) (ending : Ending) : Type 0 where
  pub answers : (whole : List ℕ) → IsSessionLine whole read kept → Answered (IsTurnOf old (strip_last 10 whole) new) text ending

-- the same for a request, whichever line spelled it
pub record AnswersRequest (old new : ModelStore) (request : Request) (text : List ℕ) (ending : Ending) : Type 0 where
  pub answers : (line : List ℕ) → 0 < length line → Some request ≡ command_at line → Answered (IsTurnOf old line new) text ending

-- what is told of the line that was read
pub record TellsRead {S : Type 0} (Tells : S → ℕ → LineFault → S → Type 0) (old new : S) (number : ℕ) (read : LineRead) (kept : List ℕ) : Type 0 where
  pub tells : (whole : List ℕ) → IsSessionLine whole read kept → AreTold Tells old new (told_of number (fault_at (strip_last 10 whole)))

-- reading it may allocate
pub record LacksRead (read : LineRead) (kept : List ℕ) : Type 0 where
  pub lacks : (whole : List ℕ) → IsSessionLine whole read kept → MayTakeMemory (strip_last 10 whole)
