-- Lines that were written are read back.
use Rattle.std.proofs.Common.{◌≡◌, ◌∙◌, ℕ, ◌+◌, ◌<◌, Bool, true, false, List, [], ◌∷◌, ◌++◌, Ok, Result, refl, sym, ap, subst, length, map, cond, inl, inr, arith, append_assoc}
use Rattle.std.specs.Prelude.{◌==◌}
use Rattle.std.specs.List.{AllByRecursion, AllPass}
use Rattle.std.proofs.lemmas.Bool.{cases_eq, cond-false, eq-eqb, false≢true, ne_eqb}
use Rattle.std.proofs.lemmas.List.{length-append}
use Rattle.std.proofs.lemmas.List.Elements.{All-head, All-tail}
use Rattle.hex.specs.Hex.{encode_lower, is_hex_digit, IsBytes}
use Rattle.hex.proofs.HexLemmas.{decode_of-encode_lower, decode_of-ok}
use Rattle.b3_check.specs.declared.file.NumberedLine.{NumberedLine}
use Rattle.b3_check.specs.declared.fault.Fault.{Fault}
use Rattle.b3_check.specs.declared.line.Line.{Line}
use Rattle.b3_check.specs.Laws.{HasNoNewline}
use Rattle.b3_check.specs.Names.{escaped, mark_of, needs_escapes}
use Rattle.b3_check.specs.Lines.{IsLawful, text_of, without_returns, written_line, written_lines}
use Rattle.edge.specs.Lines.{lines_of}
use Rattle.b3_check.specs.Files.{Numbered, all_good, with_line, file_at, numbered_from, read_of}
use Rattle.b3_check.proofs.Grammar.{IsLine-text_of, line_at-from_IsLine, without_returns-text_of}

-- ---- no newline is in a line as it is written

HasNoNewline-append : (xs ys : List ℕ) → HasNoNewline xs → HasNoNewline ys → HasNoNewline (xs ++ ys)
HasNoNewline-append [] ys h k = k
HasNoNewline-append (x ∷ xs) ys h k = (h.0, HasNoNewline-append xs ys h.1 k)

feedless_digits : (digits : List ℕ) → AllPass is_hex_digit digits → HasNoNewline digits
feedless_digits [] h = tt
feedless_digits (d ∷ digits) h =
    (λ is. false≢true (subst (λ (c : ℕ). is_hex_digit c ≡ true) is (All-head (λ c. is_hex_digit c ≡ true) d digits h)), feedless_digits digits (All-tail (λ c. is_hex_digit c ≡ true) d digits h))

feedless_name : (name : List ℕ) → HasNoNewline (escaped name)
feedless_name [] = tt
feedless_name (b ∷ name) =
    let rest = feedless_name name in
    elim (cases_eq b 92) [
      | inl is ↦ rw (eq-eqb b 92 is) (λ e. absurd (omega arith), (λ e. absurd (omega arith), rest))
      | inr one ↦
          elim (cases_eq b 10) [
            | inl is ↦ rw (ne_eqb b 92 one, eq-eqb b 10 is) (λ e. absurd (omega arith), (λ e. absurd (omega arith), rest))
            | inr two ↦
                elim (cases_eq b 13) [
                  | inl is ↦ rw (ne_eqb b 92 one, ne_eqb b 10 two, eq-eqb b 13 is) (λ e. absurd (omega arith), (λ e. absurd (omega arith), rest))
                  | inr three ↦ rw (ne_eqb b 92 one, ne_eqb b 10 two, ne_eqb b 13 three) (two, rest)
                ]
          ]
    ]

feedless_mark : (t : Bool) → HasNoNewline (cond t (92 ∷ []) [])
feedless_mark true = (λ e. absurd (omega arith), tt)
feedless_mark false = tt

feedless_text : (line : Line) → IsBytes line.digest → HasNoNewline (text_of line)
feedless_text line bytes =
    let digits = encode_lower line.digest in
    let all = (decode_of-ok digits line.digest (decode_of-encode_lower line.digest bytes)).1 in
    HasNoNewline-append (mark_of line.name) (digits ++ (32 ∷ 32 ∷ escaped line.name)) (feedless_mark (needs_escapes line.name))
    (HasNoNewline-append digits (32 ∷ 32 ∷ escaped line.name) (feedless_digits digits all) (λ e. absurd (omega arith), (λ e. absurd (omega arith), feedless_name line.name)))

-- ---- the lines of what was written

pub first_of : (text rest : List ℕ) → HasNoNewline text → lines_of (text ++ 10 ∷ rest) ≡ text ∷ lines_of rest
unfolding lines_of
first_of [] rest h = refl
first_of (b ∷ text) rest h = rw (first_of text rest h.1, ne_eqb b 10 h.0) refl

pub last_of : (text : List ℕ) → HasNoNewline text → 0 < length text → lines_of text ≡ text ∷ []
unfolding lines_of
last_of [] h lt = absurd (omega arith)
last_of (b ∷ []) h lt = rw (ne_eqb b 10 h.0) refl
last_of (b ∷ c ∷ text) h lt = rw (last_of (c ∷ text) h.1 (omega arith), ne_eqb b 10 h.0) refl

lines_of-written : (line : Line) (rest : List ℕ) → IsLawful line → lines_of (written_line line ++ rest) ≡ text_of line ∷ lines_of rest
lines_of-written line rest h = ap lines_of (append_assoc (text_of line) (10 ∷ []) rest) ∙ first_of (text_of line) rest (feedless_text line h.bytes)

abbrev good : ℕ → Line → NumberedLine
good number line = record { number = number; line = Ok line }

counted_good : (number : ℕ) (line : Line) (others : List Numbered) → IsLawful line → map read_of (with_line number (text_of line) others) ≡ good number line ∷ map read_of others
counted_good number line others h =
    let kept = without_returns-text_of line h.named in
    let some : 0 < length (text_of line) = omega (arith, length-append (mark_of line.name) (encode_lower line.digest ++ (32 ∷ 32 ∷ escaped line.name)), length-append (encode_lower line.digest) (32 ∷ 32 ∷ escaped line.name)) in
    let stays : (length (without_returns (text_of line)) == 0) ≡ false = ne_eqb _ 0 (λ z. let none : length (text_of line) ≡ 0 = ap length (sym kept) ∙ z in absurd (omega arith)) in
    ap (map read_of) (cond-false _ others (record { number = number; text = text_of line } ∷ others) stays)
    ∙ ap (λ (r : Result Line Fault). record { number = number; line = r } ∷ map read_of others) (line_at-from_IsLine (text_of line) line.digest line.name (IsLine-text_of line h))

reads_written : (number : ℕ) (lines : List Line) → AllByRecursion IsLawful lines → map read_of (numbered_from number (lines_of (written_lines lines))) ≡ all_good number lines
unfolding numbered_from all_good lines_of
reads_written number [] h = refl
reads_written number (line ∷ lines) h =
    ap (λ (texts : List (List ℕ)). map read_of (numbered_from number texts)) (lines_of-written line (written_lines lines) h.0)
    ∙ counted_good number line (numbered_from (number + 1) (lines_of (written_lines lines))) h.0
    ∙ ap (λ (read : List NumberedLine). good number line ∷ read) (reads_written (number + 1) lines h.1)

-- what was written is read back
pub file_at-written_lines : (lines : List Line) → AllByRecursion IsLawful lines → file_at (written_lines lines) ≡ all_good 1 lines
file_at-written_lines lines h = reads_written 1 lines h
