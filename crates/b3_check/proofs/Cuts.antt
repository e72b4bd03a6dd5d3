-- The lines of a file, as bstr cuts them and as the definitions do.
use Rattle.std.proofs.Common.{◌≡◌, ◌≢◌, ◌∙◌, ℕ, suc, zero, ◌+◌, ◌-◌, ◌<◌, ◌≤◌, Bool, true, false, List, [], ◌∷◌, ◌++◌, refl, sym, ap, length, get_or, take, drop, cond, inl, inr, arith}
use Rattle.std.specs.Prelude.{◌==◌, ◌&&◌, ◌⊎◌, nat_lt, map, slice_index}
use Rattle.std.proofs.lemmas.Bool.{and_from, and_left, and_right, cases_Bool, cases_eq, eq-eqb, eqb-true, le-ltb, lt-ltb, ne_eqb, and_parts, cond-false, cond-true, ltb-true}
use Rattle.std.proofs.lemmas.List.{append_assoc, append-nil, get_or_at, length-append, length-drop, take_all, take_at, take_more}
use Rattle.bstr.specs.Text as cut
use Rattle.bstr.specs.Text.{line_len, lines_from, no_cr, without_terminator}
use Rattle.b3_check.specs.declared.file.NumberedLine.{NumberedLine}
use Rattle.b3_check.specs.Lines.{marked_at, without_returns}
use Rattle.edge.specs.Lines.{lines_of, with_byte}
use Rattle.b3_check.specs.Files.{Numbered, with_line, file_at, numbered_from, read_of}
use Rattle.b3_check.proofs.Returns.{without_returns-push}

-- ---- one line and the lines after it

-- up to the first newline
abbrev first_line : List ℕ → List ℕ
first_line [] = []
first_line (b ∷ bytes) = cond (b == 10) [] (b ∷ first_line bytes)

with_byte_front : (b : ℕ) (line : List ℕ) (lines others : List (List ℕ)) → (b == 10) ≡ false → others ≡ line ∷ lines → with_byte b others ≡ (b ∷ line) ∷ lines
with_byte_front b line lines others ne is = rw (ne, is) refl

lines_step : (b : ℕ) (bytes : List ℕ) → lines_of (b ∷ bytes) ≡ first_line (b ∷ bytes) ∷ lines_of (drop (line_len (b ∷ bytes)) (b ∷ bytes))
unfolding lines_of line_len
lines_step b [] = elim (cases_Bool (b == 10)) [ inl is ↦ rw is refl | inr ne ↦ rw ne refl ]
lines_step b (c ∷ bytes) =
    elim (cases_Bool (b == 10)) [
      | inl is ↦ rw is refl
      | inr ne ↦ with_byte_front b (first_line (c ∷ bytes)) (lines_of (drop (line_len (c ∷ bytes)) (c ∷ bytes))) (lines_of (c ∷ bytes)) ne (lines_step c bytes) ∙ rw ne refl
    ]

-- a line is what bstr takes, with its newline or at the end
taken : (bytes : List ℕ) → (take (line_len bytes) bytes ≡ first_line bytes ++ 10 ∷ []) ⊎ (take (line_len bytes) bytes ≡ first_line bytes)
unfolding line_len
taken [] = inr refl
taken (b ∷ bytes) =
    elim (cases_eq b 10) [
      | inl is ↦ inl (rw (eq-eqb b 10 is) (ap (λ (c : ℕ). c ∷ []) is))
      | inr ne ↦
          elim (taken bytes) [
            | inl h ↦ inl (rw (ne_eqb b 10 ne) (ap (λ (w : List ℕ). b ∷ w) h))
            | inr h ↦ inr (rw (ne_eqb b 10 ne) (ap (λ (w : List ℕ). b ∷ w) h))
          ]
    ]

front_place : (b : ℕ) (line : List ℕ) (i : ℕ) → b ≢ 10 → ((k : ℕ) → k < length line → get_or line k 0 ≢ 10) → i < suc (length line) → get_or (b ∷ line) i 0 ≢ 10
front_place b line zero ne h lt = ne
front_place b line (suc i) ne h lt = h i (omega arith)

no_line_feed : (bytes : List ℕ) (i : ℕ) → i < length (first_line bytes) → get_or (first_line bytes) i 0 ≢ 10
no_line_feed [] i lt = absurd (omega arith)
no_line_feed (b ∷ bytes) i lt =
    elim (cases_eq b 10) [
      | inl is ↦ let none : i < 0 = rw (eq-eqb b 10 is) at lt in absurd (omega arith)
      | inr ne ↦
          let more : i < suc (length (first_line bytes)) = rw (ne_eqb b 10 ne) at lt in
          rw (ne_eqb b 10 ne) (front_place b (first_line bytes) i ne (no_line_feed bytes) more)
    ]

-- ---- the carriage returns at a line's end

last_is : (bytes : List ℕ) → 0 < length bytes → take (length bytes - 1) bytes ++ get_or bytes (length bytes - 1) 0 ∷ [] ≡ bytes
last_is bytes lt =
    let all : length bytes - 1 + 1 ≡ length bytes = omega arith in
    sym (take_more bytes (length bytes - 1) 0 (omega arith)) ∙ ap (λ n. take n bytes) all ∙ take_all (length bytes) bytes (omega arith)

without_no_cr : (bytes : List ℕ) → without_returns (no_cr bytes) ≡ without_returns bytes
without_no_cr bytes =
    elim (cases_Bool (nat_lt 0 (length bytes) && slice_index bytes (length bytes - 1) == 13)) [
      | inl cr ↦
          let parts = and_parts (nat_lt 0 (length bytes)) (slice_index bytes (length bytes - 1) == 13) cr in
          let some : 0 < length bytes = ltb-true 0 (length bytes) parts.0 in
          let last : get_or bytes (length bytes - 1) 0 ≡ 13 = eqb-true _ 13 parts.1 in
          let whole = last_is bytes some in
          let ends : take (length bytes - 1) bytes ++ 13 ∷ [] ≡ bytes = rw last at whole in
          ap without_returns (cond-true _ (take (length bytes - 1) bytes) bytes cr) ∙ sym (without_returns-push (take (length bytes - 1) bytes)) ∙ ap without_returns ends
      | inr none ↦ ap without_returns (cond-false _ (take (length bytes - 1) bytes) bytes none)
    ]

-- bstr's line holds what the line holds, without the carriage returns at its end
ended : (line : List ℕ) → without_returns (without_terminator (line ++ 10 ∷ [])) ≡ without_returns line
ended line =
    let len : length (line ++ 10 ∷ []) - 1 ≡ length line = omega (arith, length-append line (10 ∷ [])) in
    let some : nat_lt 0 (length (line ++ 10 ∷ [])) ≡ true = lt-ltb 0 _ (omega (arith, length-append line (10 ∷ []))) in
    let last : slice_index (line ++ 10 ∷ []) (length (line ++ 10 ∷ []) - 1) ≡ 10 = get_or_at line 10 [] 0 _ (sym len) in
    let front : take (length (line ++ 10 ∷ []) - 1) (line ++ 10 ∷ []) ≡ line = take_at line (10 ∷ []) _ (sym len) in
    ap without_returns (cond-true _ (no_cr (take (length (line ++ 10 ∷ []) - 1) (line ++ 10 ∷ []))) (line ++ 10 ∷ []) (and_from _ _ some (eq-eqb _ 10 last)))
    ∙ ap (λ (w : List ℕ). without_returns (no_cr w)) front ∙ without_no_cr line

unended : (line : List ℕ) → ((k : ℕ) → k < length line → get_or line k 0 ≢ 10) → without_terminator line ≡ line
unended line h = cond-false _ (no_cr (take (length line - 1) line)) line (no_end (cases_eq (length line) 0))
  where
    no_end : (length line ≡ 0) ⊎ (length line ≡ 0 → ⊥) → (nat_lt 0 (length line) && slice_index line (length line - 1) == 10) ≡ false
    no_end (inl none) = and_left _ _ (le-ltb 0 (length line) (omega arith))
    no_end (inr some) = and_right _ _ (ne_eqb _ 10 (h (length line - 1) (omega arith)))

same_line : (bytes : List ℕ) → without_returns (without_terminator (take (line_len bytes) bytes)) ≡ without_returns (first_line bytes)
same_line bytes =
    elim (taken bytes) [
      | inl h ↦ rw h (ended (first_line bytes))
      | inr h ↦ rw h (ap without_returns (unended (first_line bytes) (no_line_feed bytes)))
    ]

-- ---- all lines

line_len-some : (b : ℕ) (bytes : List ℕ) → 0 < line_len (b ∷ bytes)
unfolding line_len
line_len-some b bytes = elim (cases_Bool (b == 10)) [ inl is ↦ rw is (omega arith) | inr ne ↦ rw ne (omega arith) ]

abbrev bare : List (List ℕ) → List (List ℕ)
bare lines = map without_returns lines

same_lines : (n : ℕ) (bytes : List ℕ) → length bytes ≤ n → bare (map without_terminator (lines_from n bytes)) ≡ bare (lines_of bytes)
unfolding lines_from lines_of
same_lines zero [] le = refl
same_lines zero (b ∷ bytes) le = absurd (omega arith)
same_lines (suc n) [] le = refl
same_lines (suc n) (b ∷ bytes) le =
    let rest = drop (line_len (b ∷ bytes)) (b ∷ bytes) in
    let fewer = same_lines n rest (omega (arith, length-drop (line_len (b ∷ bytes)) (b ∷ bytes), line_len-some b bytes)) in
    ap (λ (w : List ℕ). w ∷ bare (map without_terminator (lines_from n rest))) (same_line (b ∷ bytes))
    ∙ ap (λ (ws : List (List ℕ)). without_returns (first_line (b ∷ bytes)) ∷ ws) fewer ∙ ap bare (sym (lines_step b bytes))

-- what reading lines gives, of the lines without the carriage returns at their ends
unfoldable read_bare : ℕ → List (List ℕ) → List NumberedLine
read_bare number [] = []
read_bare number (text ∷ lines) = cond (length text == 0) (read_bare (number + 1) lines) (record { number = number; line = marked_at text } ∷ read_bare (number + 1) lines)

read_counted : (number : ℕ) (text : List ℕ) (others : List Numbered) (t : Bool) → map read_of (cond t others (record { number = number; text = text } ∷ others)) ≡ cond t (map read_of others) (record { number = number; line = marked_at (without_returns text) } ∷ map read_of others)
read_counted number text others true = refl
read_counted number text others false = refl

reads_bare : (number : ℕ) (lines : List (List ℕ)) → map read_of (numbered_from number lines) ≡ read_bare number (bare lines)
unfolding numbered_from read_bare
reads_bare number [] = refl
reads_bare number (text ∷ lines) =
    read_counted number text (numbered_from (number + 1) lines) (length (without_returns text) == 0)
    ∙ ap (λ (ls : List NumberedLine). cond (length (without_returns text) == 0) ls (record { number = number; line = marked_at (without_returns text) } ∷ ls)) (reads_bare (number + 1) lines)

-- the lines that bstr cuts are read as the lines of the file
pub reads_cut : (bytes : List ℕ) → map read_of (numbered_from 1 (map without_terminator (cut.lines_of bytes))) ≡ file_at bytes
reads_cut bytes =
    reads_bare 1 (map without_terminator (cut.lines_of bytes)) ∙ ap (read_bare 1) (same_lines (length bytes) bytes (omega arith)) ∙ sym (reads_bare 1 (lines_of bytes))

-- ---- one line after another

counted_front : (number : ℕ) (text : List ℕ) (others : List Numbered) (t : Bool)
    → map read_of (cond t others (record { number = number; text = text } ∷ others)) ≡ map read_of (cond t [] (record { number = number; text = text } ∷ [])) ++ map read_of others
counted_front number text others true = refl
counted_front number text others false = refl

pub reads_more : (number : ℕ) (read lines' : List NumberedLine) (text : List ℕ) (lines : List (List ℕ)) (total : List NumberedLine)
    → lines' ≡ read ++ map read_of (with_line number text [])
    → read ++ map read_of (numbered_from number (text ∷ lines)) ≡ total → lines' ++ map read_of (numbered_from (number + 1) lines) ≡ total
unfolding numbered_from
reads_more number read lines' text lines total is so_far =
    ap (λ (ls : List NumberedLine). ls ++ map read_of (numbered_from (number + 1) lines)) is
    ∙ append_assoc read (map read_of (with_line number text [])) (map read_of (numbered_from (number + 1) lines))
    ∙ ap (λ (ls : List NumberedLine). read ++ ls) (sym (counted_front number text (numbered_from (number + 1) lines) (length (without_returns text) == 0))) ∙ so_far

pub reads_all : (number : ℕ) (read total : List NumberedLine) → read ++ map read_of (numbered_from number []) ≡ total → read ≡ total
unfolding numbered_from
reads_all number read total so_far = sym (append-nil read) ∙ so_far
