-- Reports, one line longer, and where one ended.
use Rattle.std.proofs.Common.{◌≡◌, ◌∙◌, ℕ, ◌+◌, ◌<◌, ◌≤◌, List, [], ◌∷◌, ◌++◌, Option, length, take, drop, get_or, ap, sym, subst, refl, arith, append_assoc, append-nil, take-append-drop, take_all}
use Rattle.std.specs.Io.KnownBytes.{Appends}
use Rattle.std.proofs.KnownBytes.{Appends-trans}
use Rattle.std.proofs.lemmas.Grind.{flat_map-append}
use Rattle.std.proofs.lemmas.List.{drop_more, take_more}
use Rattle.edge.specs.declared.outcome.Cause.{Cause}
use Rattle.edge.specs.declared.outcome.Cause.TheVariants.{CannotRead, CannotWrite, OutOfMemory}
use Rattle.b3_check.specs.declared.file.NumberedLine.{NumberedLine}
use Rattle.b3_check.specs.declared.report.Counts.{Counts}
use Rattle.b3_check.specs.declared.report.Found.TheVariants.{Bad, Good, Missing, Unreadable}
use Rattle.b3_check.specs.declared.report.ReportOptions.{ReportOptions}
use Rattle.edge.specs.Output.{IsTruncated}
use Rattle.b3_check.specs.Reports.{Answer, IsBroken, IsEnded, IsReport, Verdict, with_verdicts, with_verdict, counts_of, lines_text, report_text, shown_counts, shown_line}
use Rattle.b3_check.specs.inner.Reports.{AreAtMost, IsLineAsked, IsLineEnded}
use Rattle.b3_check.specs.Reports.Verdict.{faulty, named}
use Rattle.b3_check.proofs.Chain.{IsReport-push}
use Rattle.b3_check.proofs.Truncations.{truncated_first, truncated_second}

-- ---- counts

all_push : (verdicts : List Verdict) (verdict : Verdict) (counts : Counts) → with_verdicts (verdicts ++ verdict ∷ []) counts ≡ with_verdict verdict (with_verdicts verdicts counts)
all_push [] verdict counts = refl
all_push (first ∷ verdicts) verdict counts = all_push verdicts verdict (with_verdict first counts)

counts_push : (verdicts : List Verdict) (verdict : Verdict) → counts_of (verdicts ++ verdict ∷ []) ≡ with_verdict verdict (counts_of verdicts)
counts_push verdicts verdict = all_push verdicts verdict _

one_within : (n : ℕ) (verdict : Verdict) (counts : Counts) → AreAtMost n counts → AreAtMost (n + 1) (with_verdict verdict counts)
one_within n (named Good name) counts h = record { good = omega (arith, h.good); bad = omega (arith, h.bad); missing = omega (arith, h.missing); unreadable = omega (arith, h.unreadable); faults = omega (arith, h.faults) }
one_within n (named Bad name) counts h = record { good = omega (arith, h.good); bad = omega (arith, h.bad); missing = omega (arith, h.missing); unreadable = omega (arith, h.unreadable); faults = omega (arith, h.faults) }
one_within n (named Missing name) counts h = record { good = omega (arith, h.good); bad = omega (arith, h.bad); missing = omega (arith, h.missing); unreadable = omega (arith, h.unreadable); faults = omega (arith, h.faults) }
one_within n (named Unreadable name) counts h = record { good = omega (arith, h.good); bad = omega (arith, h.bad); missing = omega (arith, h.missing); unreadable = omega (arith, h.unreadable); faults = omega (arith, h.faults) }
one_within n (faulty line fault) counts h = record { good = omega (arith, h.good); bad = omega (arith, h.bad); missing = omega (arith, h.missing); unreadable = omega (arith, h.unreadable); faults = omega (arith, h.faults) }

within_more : (n : ℕ) (verdict : Verdict) (before after : Counts) → after ≡ with_verdict verdict before → AreAtMost n before → AreAtMost (n + 1) after
within_more n verdict before after is h = subst (AreAtMost (n + 1)) (sym is) (one_within n verdict before h)

-- ---- one line more

-- what holds after i lines
abbrev pub IsUpTo : {S : Type 0} → (S → List ℕ → Answer → S → Type 0) → ReportOptions → S → List NumberedLine → ℕ → S → Counts → Option (List ℕ) → Option (List ℕ) → Type 0
IsUpTo gives options old lines i new counts before after =
    (verdicts : List Verdict) × IsReport gives old (take i lines) verdicts new × (counts ≡ counts_of verdicts) × AreAtMost i counts
    × Appends before after (lines_text options verdicts)

lines_push : (options : ReportOptions) (verdicts : List Verdict) (verdict : Verdict) → lines_text options (verdicts ++ verdict ∷ []) ≡ lines_text options verdicts ++ shown_line options verdict
lines_push options verdicts verdict =
    flat_map-append (shown_line options) verdicts (verdict ∷ []) ∙ ap (λ (text : List ℕ). lines_text options verdicts ++ text) (append-nil (shown_line options verdict))

taken : (lines : List NumberedLine) (i : ℕ) (line : NumberedLine) → i < length lines → line ≡ get_or lines i line → take (i + 1) lines ≡ take i lines ++ line ∷ []
taken lines i line lt is = take_more lines i line lt ∙ ap (λ (l : NumberedLine). take i lines ++ l ∷ []) (sym is)

parted : (lines : List NumberedLine) (i : ℕ) (line : NumberedLine) → i < length lines → line ≡ get_or lines i line → take i lines ++ line ∷ drop (i + 1) lines ≡ lines
parted lines i line lt is =
    ap (λ (l : NumberedLine). take i lines ++ l ∷ drop (i + 1) lines) is ∙ ap (λ (ls : List NumberedLine). take i lines ++ ls) (sym (drop_more lines i line lt)) ∙ take-append-drop i lines

pub one_line_more : {S : Type 0} (gives : S → List ℕ → Answer → S → Type 0) (options : ReportOptions) (old mid new : S) (lines : List NumberedLine) (i : ℕ) (line : NumberedLine) (counts after : Counts) (before grown last : Option (List ℕ))
    → i < length lines → line ≡ get_or lines i line → IsUpTo gives options old lines i mid counts before grown → IsLineAsked gives options mid line.number line.line new counts after grown last
    → IsUpTo gives options old lines (i + 1) new after before last
one_line_more gives options old mid new lines i line counts after before grown last lt is h a = (
  h.0 ++ a.verdict ∷ [],
  subst (λ (ls : List NumberedLine). IsReport gives old ls (h.0 ++ a.verdict ∷ []) new) (sym (taken lines i line lt is)) (IsReport-push gives old mid new (take i lines) h.0 line a.verdict h.1 a.asked),
  a.counts ∙ ap (with_verdict a.verdict) h.2 ∙ sym (counts_push h.0 a.verdict),
  within_more i a.verdict counts after a.counts h.3,
  subst (Appends before last) (sym (lines_push options h.0 a.verdict)) (Appends-trans before grown last (lines_text options h.0) (shown_line options a.verdict) h.4 a.went),
)

-- ---- where it ended

pub ended_at : {S : Type 0} (gives : S → List ℕ → Answer → S → Type 0) (options : ReportOptions) (old mid new : S) (lines : List NumberedLine) (i : ℕ) (line : NumberedLine) (counts : Counts) (before grown last : Option (List ℕ)) (cause : Cause)
    → i < length lines → line ≡ get_or lines i line → IsUpTo gives options old lines i mid counts before grown → IsLineEnded gives options mid line.number line.line cause new grown last
    → IsEnded gives options old lines cause new before last
ended_at gives options old mid new lines i line counts before grown last CannotRead lt is h e = absurd e
ended_at gives options old mid new lines i line counts before grown last CannotWrite lt is h e =
    let all = h.0 ++ e.0 ∷ [] in
    let text = shown_counts options (counts_of all) in record {
      front = take i lines ++ line ∷ [];
      back = drop (i + 1) lines;
      verdicts = all;
      all = append_assoc (take i lines) (line ∷ []) (drop (i + 1) lines) ∙ parted lines i line lt is;
      asked = IsReport-push gives old mid new (take i lines) h.0 line e.0 h.1 e.1;
      went = truncated_first before last (lines_text options all) text
          (subst (IsTruncated before last) (sym (lines_push options h.0 e.0)) (truncated_second before grown last (lines_text options h.0) (shown_line options e.0) h.4 e.2));
    }
ended_at gives options old mid new lines i line counts before grown last OutOfMemory lt is h e = record {
  front = take i lines;
  line = line;
  back = drop (i + 1) lines;
  verdicts = h.0;
  mid = mid;
  all = parted lines i line lt is;
  asked = h.1;
  refused = e.0;
  went = subst (λ (o : Option (List ℕ)). Appends before o (lines_text options h.0)) (sym e.1) h.4;
}

-- a write of the counts failed, after all lines
pub broken_after : {S : Type 0} (gives : S → List ℕ → Answer → S → Type 0) (options : ReportOptions) (old new : S) (lines : List NumberedLine) (i : ℕ) (counts : Counts) (before grown last : Option (List ℕ))
    → length lines ≤ i → IsUpTo gives options old lines i new counts before grown → IsTruncated grown last (shown_counts options counts) → IsBroken gives options old lines new before last
broken_after gives options old new lines i counts before grown last le h cut = record {
  front = take i lines;
  back = [];
  verdicts = h.0;
  all = append-nil (take i lines) ∙ take_all i lines le;
  asked = h.1;
  went = truncated_second before grown last (lines_text options h.0) (shown_counts options (counts_of h.0)) h.4 (subst (λ (k : Counts). IsTruncated grown last (shown_counts options k)) h.2 cut);
}

-- the counts were written, after all lines
pub whole_report : {S : Type 0} (gives : S → List ℕ → Answer → S → Type 0) (options : ReportOptions) (old new : S) (lines : List NumberedLine) (i : ℕ) (counts : Counts) (before grown last : Option (List ℕ))
    → length lines ≤ i → IsUpTo gives options old lines i new counts before grown → Appends grown last (shown_counts options counts)
    → (verdicts : List Verdict) × IsReport gives old lines verdicts new × (counts ≡ counts_of verdicts) × Appends before last (report_text options verdicts)
whole_report gives options old new lines i counts before grown last le h wrote = (
  h.0,
  subst (λ (ls : List NumberedLine). IsReport gives old ls h.0 new) (take_all i lines le) h.1,
  h.2,
  Appends-trans before grown last (lines_text options h.0) (shown_counts options (counts_of h.0)) h.4 (subst (λ (k : Counts). Appends grown last (shown_counts options k)) h.2 wrote),
)
