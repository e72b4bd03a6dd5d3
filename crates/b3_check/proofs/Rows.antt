-- The definitions compute to the worked rows of the check file format.
use Rattle.std.proofs.Common.{◌≡◌, ◌++◌, ◌∷◌, ℕ, List, [], Ok, Err, refl, arith, codes, true, false}
use Rattle.std.specs.Prelude.{Result, ⊤}
use Rattle.std.proofs.lemmas.Fmt.{decimal_digit}
use Rattle.hex.proofs.OnLiterals.{hex_on_literals}
use Rattle.b3_check.specs.declared.fault.Fault.{Fault}
use Rattle.b3_check.specs.declared.fault.Fault.TheVariants.{BadEscape, BadHex, BadSpaces, EmptyName, NulInName, Short, Tagged}
use Rattle.b3_check.specs.declared.line.Line.{Line}
use Rattle.b3_check.specs.declared.file.NumberedLine.{NumberedLine}
use Rattle.b3_check.specs.Names.{backslash, unescaped_from}
use Rattle.b3_check.specs.Lines.{digest_at, line_at, rest_at, without_returns, written_line}
use Rattle.edge.specs.Lines.{lines_of}
use Rattle.b3_check.specs.Files.{numbered_from, file_at}
use Rattle.b3_check.specs.declared.report.Found.TheVariants.{Good, Bad, Missing}
use Rattle.b3_check.specs.declared.report.ReportOptions.{ReportOptions}
use Rattle.b3_check.specs.declared.report.Shown.{Shown}
use Rattle.b3_check.specs.declared.report.Shown.TheVariants.{All, AllButGood, Nothing}
use Rattle.b3_check.specs.Reports.{Verdict, report_text, verdict_text}
use Rattle.b3_check.specs.Reports.Verdict.{faulty, named}

unfoldable on_literals : ⊤
unfolding hex_on_literals unescaped_from without_returns rest_at lines_of numbered_from
on_literals = tt

-- the hash of `abc`, in digits
abbrev digits : List ℕ
digits = codes "6437b3ac38465133ffb63b75273a8db548c558465d79db03fd359c6cd5bd9d85"

abbrev upper_digits : List ℕ
upper_digits = codes "6437B3AC38465133FFB63B75273A8DB548C558465D79DB03FD359C6CD5BD9D85"

abbrev digest : List ℕ
unfolding on_literals
digest = digest_at digits

abbrev says : List ℕ → Result Line Fault
says name = Ok (record { digest = digest; name = name })

abbrev fails : Fault → Result Line Fault
fails fault = Err fault

-- ---- what a line says

plain : line_at (digits ++ codes "  x") ≡ says (codes "x")
unfolding on_literals
plain = refl

upper_case : line_at (upper_digits ++ codes "  x") ≡ says (codes "x")
unfolding on_literals
upper_case = refl

carriage_return : line_at (digits ++ codes "  x\r\r") ≡ says (codes "x")
unfolding on_literals
carriage_return = refl

escaped_line : line_at (backslash ∷ (digits ++ codes "  a\\\\b\\nc")) ≡ says (codes "a\\b\nc")
unfolding on_literals
escaped_line = refl

plain_backslash : line_at (digits ++ codes "  a\\q") ≡ says (codes "a\\q")
unfolding on_literals
plain_backslash = refl

lone_backslash : line_at (digits ++ codes "  \\") ≡ says (codes "\\")
unfolding on_literals
lone_backslash = refl

escaped_backslash : line_at (backslash ∷ (digits ++ codes "  \\\\")) ≡ says (codes "\\")
unfolding on_literals
escaped_backslash = refl

escaped_return : line_at (backslash ∷ (digits ++ codes "  \\r")) ≡ says (codes "\r")
unfolding on_literals
escaped_return = refl

-- ---- the first fault of a line

one_space : line_at (digits ++ codes " ") ≡ fails Short
unfolding on_literals
one_space = refl

no_name : line_at (digits ++ codes "  ") ≡ fails EmptyName
unfolding on_literals
no_name = refl

returns_for_name : line_at (digits ++ codes "  \r") ≡ fails EmptyName
unfolding on_literals
returns_for_name = refl

star : line_at (digits ++ codes " *x") ≡ fails BadSpaces
unfolding on_literals
star = refl

no_digit : line_at (codes "g437b3ac38465133ffb63b75273a8db548c558465d79db03fd359c6cd5bd9d85  x") ≡ fails BadHex
unfolding on_literals
no_digit = refl

other_escape : line_at (backslash ∷ (digits ++ codes "  a\\q")) ≡ fails BadEscape
unfolding on_literals
other_escape = refl

truncated_escape : line_at (backslash ∷ (digits ++ codes "  a\\\r")) ≡ fails BadEscape
unfolding on_literals
truncated_escape = refl

escape_before_nul : line_at (backslash ∷ (digits ++ (codes "  \\q" ++ 0 ∷ []))) ≡ fails BadEscape
unfolding on_literals
escape_before_nul = refl

nul : line_at (digits ++ (codes "  a" ++ 0 ∷ [])) ≡ fails NulInName
unfolding on_literals
nul = refl

tagged : line_at (codes "BLAKE3 (x) = " ++ digits) ≡ fails Tagged
unfolding on_literals
tagged = refl

escaped_tagged : line_at (backslash ∷ (codes "BLAKE3 (x) = " ++ digits)) ≡ fails Tagged
unfolding on_literals
escaped_tagged = refl

one_backslash : line_at (backslash ∷ []) ≡ fails Short
unfolding on_literals
one_backslash = refl

two_backslashes : line_at (backslash ∷ backslash ∷ (digits ++ codes "  x")) ≡ fails BadHex
unfolding on_literals
two_backslashes = refl

-- ---- what is written

written_plain : written_line (record { digest = digest; name = codes "-" }) ≡ digits ++ codes "  -\n"
unfolding on_literals
written_plain = refl

written_escaped : written_line (record { digest = digest; name = codes "a\\b\nc" }) ≡ backslash ∷ (digits ++ codes "  a\\\\b\\nc\n")
unfolding on_literals
written_escaped = refl

-- ---- files

abbrev numbered : ℕ → Result Line Fault → NumberedLine
numbered number line = record { number = number; line = line }

three_lines : file_at (digits ++ (codes "  f\nshort\n" ++ (digits ++ codes "  g"))) ≡ numbered 1 (says (codes "f")) ∷ numbered 2 (fails Short) ∷ numbered 3 (says (codes "g")) ∷ []
unfolding on_literals
three_lines = refl

skipped_line : file_at (digits ++ codes "  f\r\n\r\noops\n") ≡ numbered 1 (says (codes "f")) ∷ numbered 3 (fails Short) ∷ []
unfolding on_literals
skipped_line = refl

-- ---- reports

abbrev lines : Shown → ReportOptions
lines shown = record { shown = shown; ignores_missing = false }

abbrev good_fault_missing : List Verdict
good_fault_missing = named Good (codes "f") ∷ faulty 2 Short ∷ named Missing (codes "g") ∷ []

three_verdicts : report_text (lines All) good_fault_missing ≡ codes "good f\nfault 2 C2\nmissing g\ngood 1 bad 0 missing 1 unreadable 0 faults 1\n"
unfolding on_literals
three_verdicts = rw (decimal_digit 2 (omega arith), decimal_digit 1 (omega arith), decimal_digit 0 (omega arith)) refl

without_good : report_text (lines AllButGood) good_fault_missing ≡ codes "fault 2 C2\nmissing g\ngood 1 bad 0 missing 1 unreadable 0 faults 1\n"
unfolding on_literals
without_good = rw (decimal_digit 2 (omega arith), decimal_digit 1 (omega arith), decimal_digit 0 (omega arith)) refl

nothing_shown : report_text (lines Nothing) good_fault_missing ≡ []
nothing_shown = refl

two_verdicts : report_text (lines All) (named Bad (codes "f") ∷ faulty 3 Short ∷ []) ≡ codes "bad f\nfault 3 C2\ngood 0 bad 1 missing 0 unreadable 0 faults 1\n"
unfolding on_literals
two_verdicts = rw (decimal_digit 3 (omega arith), decimal_digit 1 (omega arith), decimal_digit 0 (omega arith)) refl

escaped_verdict : verdict_text (named Good (codes "a\\b")) ≡ codes "\\good a\\\\b\n"
escaped_verdict = refl

only_good : report_text (lines AllButGood) (named Good (codes "f") ∷ []) ≡ []
only_good = refl

no_missing : report_text (record { shown = AllButGood; ignores_missing = true }) (named Good (codes "f") ∷ named Missing (codes "g") ∷ []) ≡ []
no_missing = refl
