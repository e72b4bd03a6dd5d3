-- Definitions for private functions, in addition to specs/Reports.
use Rattle.std.specs.Prelude.{◌≡◌, ◌≤◌, ℕ, List, Option, Result}
use Rattle.b3_check.specs.declared.fault.Fault.{Fault}
use Rattle.b3_check.specs.declared.line.Line.{Line}
use Rattle.b3_check.specs.declared.report.Counts.{Counts}
use Rattle.b3_check.specs.declared.report.ReportOptions.{ReportOptions}
use Rattle.edge.specs.declared.outcome.Cause.{Cause}
use Rattle.edge.specs.declared.outcome.Cause.TheVariants.{CannotRead, CannotWrite, OutOfMemory}
use Rattle.std.specs.Io.KnownBytes.{Appends}
use Rattle.edge.specs.Output.{IsTruncated}
use Rattle.b3_check.specs.Reports.{Verdict, Answer, IsVerdictBy, IsRefusedFor, with_verdict, shown_line}

-- ---- counts

-- no count is above n
pub record AreAtMost (n : ℕ) (counts : Counts) : Type 0 where
  pub good : counts.good ≤ n
  pub bad : counts.bad ≤ n
  pub missing : counts.missing ≤ n
  pub unreadable : counts.unreadable ≤ n
  pub faults : counts.faults ≤ n

-- ---- one line

-- a line was handled: its verdict is with_verdict, and what is shown of it was written
pub record IsLineAsked {S : Type 0} (gives : S → List ℕ → Answer → S → Type 0) (options : ReportOptions) (old : S) (number : ℕ) (line : Result Line Fault) (new : S) (before after : Counts) (written grown : Option (List ℕ)) : Type 0 where
  pub verdict : Verdict
  pub asked : IsVerdictBy gives old number line verdict new
  pub counts : after ≡ with_verdict verdict before
  pub went : Appends written grown (shown_line options verdict)

-- what ended a report at a line
abbrev pub IsLineEnded : {S : Type 0} → (S → List ℕ → Answer → S → Type 0) → ReportOptions → S → ℕ → Result Line Fault → Cause → S → Option (List ℕ) → Option (List ℕ) → Type 0
IsLineEnded gives options old number line CannotRead new written grown = ⊥
IsLineEnded gives options old number line CannotWrite new written grown = (verdict : Verdict) × IsVerdictBy gives old number line verdict new × IsTruncated written grown (shown_line options verdict)
IsLineEnded gives options old number line OutOfMemory new written grown = IsRefusedFor gives old line new × (grown ≡ written)
