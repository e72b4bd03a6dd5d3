-- A report that could not be flushed.
use Rattle.std.proofs.Common.{ℕ, List, [], Option, append-nil, sym}
use Rattle.std.specs.Io.KnownBytes.{Appends, Keeps}
use Rattle.std.proofs.KnownBytes.{Appends-kept}
use Rattle.b3_check.specs.declared.file.NumberedLine.{NumberedLine}
use Rattle.b3_check.specs.declared.report.ReportOptions.{ReportOptions}
use Rattle.b3_check.specs.Reports.{Answer, IsReport, Verdict, report_text}
use Rattle.hash_engines.specs.Checks.{IsCut}

-- a report went out, and could not be flushed
pub cut_after : {S : Type 0} (gives : S → List ℕ → Answer → S → Type 0) (options : ReportOptions) (old : S) (lines : List NumberedLine) (new : S) (before grown last : Option (List ℕ)) (verdicts : List Verdict)
    → IsReport gives old lines verdicts new → Appends before grown (report_text options verdicts) → Keeps grown last → IsCut gives options old lines new before last
cut_after gives options old lines new before grown last verdicts asked went kept = record {
  front = lines;
  back = [];
  verdicts = verdicts;
  rest = [];
  all = append-nil lines;
  asked = asked;
  went = record { front = report_text options verdicts; is = sym (append-nil (report_text options verdicts)); went = Appends-kept before grown last (report_text options verdicts) went kept };
}
