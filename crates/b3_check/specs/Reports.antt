-- Reports on check files: a verdict on each line, and their text.
use Rattle.std.specs.Prelude.{◌≡◌, ◌+◌, ◌&&◌, ◌||◌, ℕ, Bool, true, false, nat_eq, nat_lt, not, List, [], ◌∷◌, ◌++◌, Option, Some, None, Result, Ok, Err, codes, if◌then◌else◌}
use Rattle.std.specs.Fmt.{decimal}
use Rattle.std.specs.List.{flat_map}
use Rattle.std.specs.Str.{bytes_eq}
use Rattle.b3_check.specs.declared.fault.Fault.{Fault}
use Rattle.b3_check.specs.declared.file.NumberedLine.{NumberedLine}
use Rattle.b3_check.specs.declared.line.Line.{Line}
use Rattle.b3_check.specs.declared.names.NameFault.{NameFault}
use Rattle.b3_check.specs.declared.names.NameFault.TheVariants as faults
use Rattle.b3_check.specs.declared.report.Counts.{Counts}
use Rattle.b3_check.specs.declared.report.Found.{Found}
use Rattle.b3_check.specs.declared.report.Found.TheVariants.{Good, Bad, Missing, Unreadable}
use Rattle.b3_check.specs.declared.report.ReportOptions.{ReportOptions}
use Rattle.b3_check.specs.declared.report.Shown.{Shown}
use Rattle.b3_check.specs.declared.report.Shown.TheVariants.{All, AllButGood, Nothing}
use Rattle.edge.specs.declared.outcome.Cause.{Cause}
use Rattle.edge.specs.declared.outcome.Cause.TheVariants.{CannotRead, CannotWrite, OutOfMemory}
use Rattle.std.specs.Io.KnownBytes.{Appends}
use Rattle.b3_check.specs.Faults.{code_of}
use Rattle.edge.specs.Lines.{newline}
use Rattle.b3_check.specs.Names.{escaped, mark_of}
use Rattle.edge.specs.Output.{IsTruncated}

-- ---- verdicts

-- the verdict on a line: the result for its name, or the number of a line with a fault
pub data Verdict : Type 0 where
  named : Found → List ℕ → Verdict
  faulty : ℕ → Fault → Verdict

-- what a lookup may return
abbrev pub Answer : Type 0
Answer = Result (Option (List ℕ)) NameFault

-- the result for a line after that answer; none if memory ran out
abbrev pub found_of : Line → Answer → Option Found
found_of line (Ok (Some digest)) = Some (if bytes_eq digest line.digest then Good else Bad)
found_of line (Ok None) = Some Missing
found_of line (Err faults.Unreadable) = Some Unreadable
found_of line (Err faults.NoMemory) = None

-- that was found for a line: the names were asked once, in the state old
pub record IsFound {S : Type 0} (gives : S → List ℕ → Answer → S → Type 0) (old : S) (line : Line) (found : Found) (new : S) : Type 0 where
  pub answer : Answer
  pub asked : gives old line.name answer new
  pub found_is : found_of line answer ≡ Some found

-- the verdict on a numbered line: the names were asked once, in the state old, or not at all if the line has a fault
abbrev pub IsVerdictBy : {S : Type 0} → (S → List ℕ → Answer → S → Type 0) → S → ℕ → Result Line Fault → Verdict → S → Type 0
IsVerdictBy gives old number (Ok line) verdict new = (found : Found) × IsFound gives old line found new × (verdict ≡ named found line.name)
IsVerdictBy gives old number (Err fault) verdict new = (verdict ≡ faulty number fault) × (new ≡ old)

-- A chain of lookups, one for each line without a fault, in file order, each in the state that the one before left; the verdicts follow
-- from the answers.
abbrev pub IsReport : {S : Type 0} → (S → List ℕ → Answer → S → Type 0) → S → List NumberedLine → List Verdict → S → Type 0
IsReport gives old [] [] new = new ≡ old
IsReport {S} gives old (line ∷ lines) (verdict ∷ verdicts) new = (mid : S) × IsVerdictBy gives old line.number line.line verdict mid × IsReport gives mid lines verdicts new
IsReport gives old [] (verdict ∷ verdicts) new = ⊥
IsReport gives old (line ∷ lines) [] new = ⊥

-- the names were asked for the line, and were out of memory
abbrev pub IsRefusedFor : {S : Type 0} → (S → List ℕ → Answer → S → Type 0) → S → Result Line Fault → S → Type 0
IsRefusedFor gives old (Ok line) new = gives old line.name (Err faults.NoMemory) new
IsRefusedFor gives old (Err fault) new = ⊥

-- ---- counts

-- the file has the digest of the line
abbrev pub is_good : Verdict → Bool
is_good (named Good name) = true
is_good (named Bad name) = false
is_good (named Missing name) = false
is_good (named Unreadable name) = false
is_good (faulty line fault) = false

-- counts with one more verdict
abbrev pub with_verdict : Verdict → Counts → Counts
with_verdict (named Good name) counts = record counts { good = counts.good + 1 }
with_verdict (named Bad name) counts = record counts { bad = counts.bad + 1 }
with_verdict (named Missing name) counts = record counts { missing = counts.missing + 1 }
with_verdict (named Unreadable name) counts = record counts { unreadable = counts.unreadable + 1 }
with_verdict (faulty line fault) counts = record counts { faults = counts.faults + 1 }

-- counts with more verdicts, one after the other
abbrev pub with_verdicts : List Verdict → Counts → Counts
with_verdicts [] counts = counts
with_verdicts (verdict ∷ verdicts) counts = with_verdicts verdicts (with_verdict verdict counts)

-- the number of verdicts of each kind
abbrev pub counts_of : List Verdict → Counts
counts_of verdicts = with_verdicts verdicts (record { good = 0; bad = 0; missing = 0; unreadable = 0; faults = 0 })

-- ---- the text

-- the line of a verdict on a name
abbrev pub named_text : List ℕ → List ℕ → List ℕ
named_text word name = mark_of name ++ (word ++ (escaped name ++ newline ∷ []))

-- the line of a fault
abbrev pub fault_line : ℕ → Fault → List ℕ
fault_line line fault = codes "fault " ++ (decimal line ++ (32 ∷ (code_of fault ++ newline ∷ [])))

-- the word at the start of the line for a name
abbrev pub word_of : Found → List ℕ
word_of Good = codes "good "
word_of Bad = codes "bad "
word_of Missing = codes "missing "
word_of Unreadable = codes "unreadable "

-- the line of a verdict
abbrev pub verdict_text : Verdict → List ℕ
verdict_text (named found name) = named_text (word_of found) name
verdict_text (faulty line fault) = fault_line line fault

-- the name has no file
abbrev pub is_missing : Verdict → Bool
is_missing (named Good name) = false
is_missing (named Bad name) = false
is_missing (named Missing name) = true
is_missing (named Unreadable name) = false
is_missing (faulty line fault) = false

-- whether the line of a verdict is among those that are written
abbrev pub is_among : Shown → Verdict → Bool
is_among All verdict = true
is_among AllButGood verdict = not (is_good verdict)
is_among Nothing verdict = false

-- whether the line of a verdict is shown
abbrev pub shows : ReportOptions → Verdict → Bool
shows options verdict = not (options.ignores_missing && is_missing verdict) && is_among options.shown verdict

-- what is shown of a verdict
abbrev pub shown_line : ReportOptions → Verdict → List ℕ
shown_line options verdict = if shows options verdict then verdict_text verdict else []

-- what is shown of verdicts, one after the other
abbrev pub lines_text : ReportOptions → List Verdict → List ℕ
lines_text options verdicts = flat_map (shown_line options) verdicts

-- a word and a count
abbrev pub count_text : List ℕ → ℕ → List ℕ
count_text word count = word ++ decimal count

-- the line of the counts
abbrev pub counts_text : Counts → List ℕ
counts_text counts =
    count_text (codes "good ") counts.good ++ (count_text (codes " bad ") counts.bad ++ (count_text (codes " missing ") counts.missing
    ++ (count_text (codes " unreadable ") counts.unreadable ++ (count_text (codes " faults ") counts.faults ++ newline ∷ []))))

-- whether a report with these counts passes: no file has another hash or could not be read, no line has a fault, and each name has a file; or
-- names without one are ignored, and some file has its hash
abbrev pub passes : ReportOptions → Counts → Bool
passes options counts = (nat_eq counts.missing 0 || (options.ignores_missing && nat_lt 0 counts.good)) && (nat_eq counts.bad 0 && (nat_eq counts.unreadable 0 && nat_eq counts.faults 0))

-- whether counts are shown: without the lines of good names, only if the report does not pass
abbrev pub shows_counts : Shown → Bool → Bool
shows_counts All passed = true
shows_counts AllButGood passed = not passed
shows_counts Nothing passed = false

-- what is shown of counts
abbrev pub shown_counts : ReportOptions → Counts → List ℕ
shown_counts options counts = if shows_counts options.shown (passes options counts) then counts_text counts else []

-- the lines of the verdicts that are shown, and then the counts
abbrev pub report_text : ReportOptions → List Verdict → List ℕ
report_text options verdicts = lines_text options verdicts ++ shown_counts options (counts_of verdicts)

-- ---- how a report ends early

-- A write failed: the chain covers the lines that were asked for, and a proper prefix of the report on them was written.
pub record IsBroken {S : Type 0} (gives : S → List ℕ → Answer → S → Type 0) (options : ReportOptions) (old : S) (lines : List NumberedLine) (new : S) (before after : Option (List ℕ)) : Type 0 where
  pub front : List NumberedLine
  pub back : List NumberedLine
  pub verdicts : List Verdict
  pub all : front ++ back ≡ lines
  pub asked : IsReport gives old front verdicts new
  pub went : IsTruncated before after (report_text options verdicts)

-- A lookup ended it: the chain covers the lines before, whose verdicts were written, and the lookup for the next line was out of memory.
pub record EndsForMemory {S : Type 0} (gives : S → List ℕ → Answer → S → Type 0) (options : ReportOptions) (old : S) (lines : List NumberedLine) (new : S) (before after : Option (List ℕ)) : Type 0 where
  pub front : List NumberedLine
  pub line : NumberedLine
  pub back : List NumberedLine
  pub verdicts : List Verdict
  pub mid : S
  pub all : front ++ line ∷ back ≡ lines
  pub asked : IsReport gives old front verdicts mid
  pub refused : IsRefusedFor gives mid line.line new
  pub went : Appends before after (lines_text options verdicts)

-- what ended a report
abbrev pub IsEnded : {S : Type 0} → (S → List ℕ → Answer → S → Type 0) → ReportOptions → S → List NumberedLine → Cause → S → Option (List ℕ) → Option (List ℕ) → Type 0
IsEnded gives options old lines CannotRead new before after = ⊥
IsEnded gives options old lines CannotWrite new before after = IsBroken gives options old lines new before after
IsEnded gives options old lines OutOfMemory new before after = EndsForMemory gives options old lines new before after
