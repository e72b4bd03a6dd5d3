-- What `check` writes, and its verdict.
use Rattle.std.specs.Prelude.{◌≡◌, ◌≢◌, ◌↔◌, ◌⊎◌, ℕ, List, ◌++◌, Option, Result, Ok, Err, Some, None, true}
use Rattle.std.specs.Io.KnownBytes.{Appends}
use Rattle.b3_check.specs.declared.file.NumberedLine.{NumberedLine}
use Rattle.b3_check.specs.declared.names.NameFault.TheVariants as faults
use Rattle.b3_check.specs.declared.report.ReportOptions.{ReportOptions}
use Rattle.b3_check.specs.Files.{file_at}
use Rattle.edge.specs.Output.{AllBut}
use Rattle.b3_check.specs.Reports.{Answer, EndsForMemory, IsReport, Verdict as LineVerdict, counts_of, passes, report_text}
use Rattle.b3_core.specs.ExtendedOutput.{output_of}
use Rattle.b3_core.specs.Tree.{ModelTop}
use Rattle.hash_engines.specs.declared.sources.FileFault.{FileFault}
use Rattle.hash_engines.specs.declared.sources.FileFault.TheVariants.{Failed, NoMemory}
use Rattle.hash_engines.specs.declared.sources.Reason.{Reason}
use Rattle.hash_engines.specs.declared.sources.Reason.TheVariants.{Missing}
use Rattle.edge.specs.declared.outcome.Cause.{Cause}
use Rattle.edge.specs.declared.outcome.Cause.TheVariants.{CannotRead, CannotWrite, OutOfMemory}
use Rattle.edge.specs.declared.outcome.Verdict.{Verdict}
use Rattle.edge.specs.declared.outcome.Verdict.TheVariants.{Good}

-- The names were asked for each line of the file without a fault, and went from one state to another; what is shown of the report was
-- written, and the verdict is good if and only if the report passes.
pub record IsChecked {S : Type 0} (gives : S → List ℕ → Answer → S → Type 0) (options : ReportOptions) (old : S) (input : List ℕ) (verdict : Verdict) (new : S) (before after : Option (List ℕ)) : Type 0 where
  pub verdicts : List LineVerdict
  pub report : IsReport gives old (file_at input) verdicts new
  pub written : Appends before after (report_text options verdicts)
  pub good : (verdict ≡ Good) ↔ (passes options (counts_of verdicts) ≡ true)

-- a write failed: the names had answered for some lines, and no more than what is shown of these was written
pub record IsCut {S : Type 0} (gives : S → List ℕ → Answer → S → Type 0) (options : ReportOptions) (old : S) (lines : List NumberedLine) (new : S) (before after : Option (List ℕ)) : Type 0 where
  pub front : List NumberedLine
  pub back : List NumberedLine
  pub verdicts : List LineVerdict
  pub rest : List ℕ
  pub all : front ++ back ≡ lines
  pub asked : IsReport gives old front verdicts new
  pub went : AllBut before after (report_text options verdicts) rest

-- nothing was asked or written
abbrev pub IsIdle : {S : Type 0} → S → S → Option (List ℕ) → Option (List ℕ) → Type 0
IsIdle old new before after = (new ≡ old) × (after ≡ before)

-- what stopped a check of a file: a failed read, before anything else; a failed write; or running out of memory, before anything else or in
-- the last lookup
abbrev pub IsStopped : {S : Type 0} → (S → List ℕ → Answer → S → Type 0) → ReportOptions → S → List ℕ → Cause → S → Option (List ℕ) → Option (List ℕ) → Type 0
IsStopped gives options old input CannotRead new before after = IsIdle old new before after
IsStopped gives options old input CannotWrite new before after = IsCut gives options old (file_at input) new before after
IsStopped gives options old input OutOfMemory new before after = IsIdle old new before after ⊎ EndsForMemory gives options old (file_at input) new before after

-- after a failed read nothing was asked or written, whatever the input is
abbrev pub IsUntouched : {S : Type 0} → S → S → Option (List ℕ) → Option (List ℕ) → Cause → Type 0
IsUntouched old new before after CannotRead = IsIdle old new before after
IsUntouched old new before after CannotWrite = Unit {0}
IsUntouched old new before after OutOfMemory = Unit {0}

-- The answer for a name, by what sources return for it: the hash by its root; none if there is no such file; and unreadable for any other
-- reason, which is reported to the sources.
abbrev pub IsDigestBy : {S : Type 0} → (S → List ℕ → Result ModelTop FileFault → S → Type 0) → (S → List ℕ → Reason → S → Type 0) → S → List ℕ → Answer → S → Type 0
IsDigestBy gives reports old name (Ok (Some digest)) new = (root : ModelTop) × gives old name (Ok root) new × (digest ≡ output_of root 0 32)
IsDigestBy gives reports old name (Ok None) new = gives old name (Err (Failed Missing)) new
IsDigestBy {S} gives reports old name (Err faults.Unreadable) new =
    (mid : S) × (reason : Reason) × gives old name (Err (Failed reason)) mid × (reason ≢ Missing) × reports mid name reason new
IsDigestBy gives reports old name (Err faults.NoMemory) new = gives old name (Err NoMemory) new
