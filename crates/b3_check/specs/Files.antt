-- Check files: their numbered lines.
use Rattle.std.specs.Prelude.{◌==◌, ◌+◌, ℕ, List, [], ◌∷◌, length, map, Ok, if◌then◌else◌}
use Rattle.b3_check.specs.declared.file.NumberedLine.{NumberedLine}
use Rattle.b3_check.specs.declared.line.Line.{Line}
use Rattle.edge.specs.Lines.{lines_of}
use Rattle.b3_check.specs.Lines.{line_at, without_returns}

-- a line and its number
pub record Numbered : Type 0 where
  pub number : ℕ
  pub text : List ℕ

-- a line before others, unless it consists only of carriage returns
abbrev pub with_line : ℕ → List ℕ → List Numbered → List Numbered
with_line number text others =
    if length (without_returns text) == 0 then others
    else record { number = number; text = text } ∷ others

-- the lines numbered from a number on, without those that consist only of carriage returns
unfoldable pub numbered_from : ℕ → List (List ℕ) → List Numbered
numbered_from number [] = []
numbered_from number (text ∷ lines) = with_line number text (numbered_from (number + 1) lines)

-- the lines of a file, numbered from 1, without those that consist only of carriage returns
abbrev pub lines_of_file : List ℕ → List Numbered
lines_of_file bytes = numbered_from 1 (lines_of bytes)

-- a line's number, and the result of reading it
abbrev pub read_of : Numbered → NumberedLine
read_of line = record { number = line.number; line = line_at line.text }

-- the result of reading a file
abbrev pub file_at : List ℕ → List NumberedLine
file_at bytes = map read_of (lines_of_file bytes)

-- lines numbered from a number on
unfoldable pub all_good : ℕ → List Line → List NumberedLine
all_good number [] = []
all_good number (line ∷ lines) = record { number = number; line = Ok line } ∷ all_good (number + 1) lines
