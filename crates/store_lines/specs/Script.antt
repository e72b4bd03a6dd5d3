-- The turns of lines, their answers, and how a script ends.
use Rattle.std.specs.Prelude.{◌≡◌, ℕ, List, [], ◌∷◌, Option, Some, None, Result, Ok, Err, codes, drop, take}
use Rattle.store_upload.specs.declared.refusal.PartFault.{PartFault}
use Rattle.store_upload.specs.declared.refusal.PartFault.TheVariants as faults
use Rattle.store_books.specs.declared.refusal.Refusal.{Refusal}
use Rattle.store_books.specs.declared.refusal.Refusal.TheVariants as refusals
use Rattle.store_books.specs.Books.{empty_books, max_entries, max_tenants, max_workers}
use Rattle.store_core.specs.Model.{ModelStore}
use Rattle.store_core.specs.declared.store.questions.Reply.{Reply}
use Rattle.store_core.specs.Runs.{Call, Step}
use Rattle.store_lines.specs.declared.request.EntryRange.{EntryRange}
use Rattle.store_books.specs.Refusals.{refusal_text}
use Rattle.store_journal.specs.declared.entry.Entry.{Entry}
use Rattle.store_lines.specs.Texts.{entries_text, refused_text, unmade_text}
use Rattle.store_lines.specs.Questions.{answer_text}
use Rattle.store_lines.specs.declared.ending.Ending.{Ending}
use Rattle.store_lines.specs.declared.ending.Ending.TheVariants as endings
use Rattle.edge.specs.declared.outcome.Verdict.{Verdict}
use Rattle.edge.specs.declared.outcome.Verdict.TheVariants as verdicts

-- ---- one line

-- The result of a line: nothing for an empty line; a line that is not a command; a part without a plan, or that cannot be made; one step of
-- the store, with its reply; or entries of the journal.
pub data Turn : Type 0 where
  skipped : Turn
  bad : Turn
  unplanned : Refusal → Turn
  unmade : PartFault → Turn
  took : Call → Result Reply Refusal → Turn
  listed : List Entry → Turn

-- its answer
abbrev pub turn_text : Turn → List ℕ
turn_text skipped = []
turn_text bad = codes "bad\n"
turn_text (unplanned refusal) = refused_text (refusal_text refusal)
turn_text (unmade fault) = refused_text (unmade_text fault)
turn_text (took call reply) = answer_text reply
turn_text (listed entries) = entries_text entries

-- how a run with this refusal, fault, reply or turn ends at best
abbrev pub refusal_ending : Refusal → Ending
refusal_ending refusals.NoMemory = endings.OutOfMemory
refusal_ending _ = endings.Refused

abbrev pub fault_ending : PartFault → Ending
fault_ending faults.NoMemory = endings.OutOfMemory
fault_ending _ = endings.Refused

abbrev pub reply_ending : {R : Type 0} → Result R Refusal → Ending
reply_ending (Ok reply) = endings.Good
reply_ending (Err refusal) = refusal_ending refusal

abbrev pub turn_ending : Turn → Ending
turn_ending skipped = endings.Good
turn_ending bad = endings.Refused
turn_ending (unplanned refusal) = refusal_ending refusal
turn_ending (unmade fault) = fault_ending fault
turn_ending (took call reply) = reply_ending reply
turn_ending (listed entries) = endings.Good

-- the requested entries of the journal
abbrev pub at_most : Option ℕ → List Entry → List Entry
at_most None entries = entries
at_most (Some count) entries = take count entries

abbrev pub range_entries : EntryRange → List Entry → List Entry
range_entries range entries = at_most range.count (drop range.from entries)

-- exactly this step
abbrev pub IsTurnOfStep : ModelStore → Call → Turn → ModelStore → Type 0
IsTurnOfStep old call (took asked reply) new = (asked ≡ call) × Step old call reply new
IsTurnOfStep old call _ new = ⊥

-- ---- a script

-- the steps among turns, and their replies
abbrev pub calls_of : List Turn → List Call
calls_of [] = []
calls_of (took call reply ∷ turns) = call ∷ calls_of turns
calls_of (_ ∷ turns) = calls_of turns

abbrev pub replies_of : List Turn → List (Result Reply Refusal)
replies_of [] = []
replies_of (took call reply ∷ turns) = reply ∷ replies_of turns
replies_of (_ ∷ turns) = replies_of turns

-- the worse of two endings
abbrev pub worse : Ending → Ending → Ending
worse endings.Good other = other
worse endings.Refused endings.OutOfMemory = endings.OutOfMemory
worse endings.Refused _ = endings.Refused
worse endings.OutOfMemory other = endings.OutOfMemory

-- out of memory if some answer is `refused S14`, otherwise refused if some answer is `refused` or `bad`
abbrev pub ending_of : List Turn → Ending
ending_of [] = endings.Good
ending_of (turn ∷ turns) = worse (turn_ending turn) (ending_of turns)

-- the ending of answers with this verdict
abbrev pub verdict_ending : Verdict → Ending
verdict_ending verdicts.Good = endings.Good
verdict_ending verdicts.Refused = endings.Refused

-- an empty store with the widest limits
abbrev pub widest_start : ModelStore
widest_start = record { state = empty_books max_tenants max_entries max_workers; journal = [] }
