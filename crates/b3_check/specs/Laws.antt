-- Facts about check lines and check files, whatever reads and writes them.
use Rattle.std.specs.Prelude.{◌≡◌, ◌≢◌, ◌<◌, ℕ, List, [], ◌∷◌, ◌++◌, Err, length}
use Rattle.std.specs.List.{AllByRecursion}
use Rattle.b3_check.specs.declared.fault.Fault.{Fault}
use Rattle.b3_check.specs.declared.line.Line.{Line}
use Rattle.edge.specs.Lines.{newline, lines_of}
use Rattle.b3_check.specs.Files.{all_good, file_at}
use Rattle.b3_check.specs.Lines.{IsLawful, IsLine, line_at, text_of, without_returns, written_lines}
use Rattle.b3_check.specs.Names.{carriage_return}

-- ---- lines

-- all carriage returns at the end of a line are dropped, and nothing else
abbrev pub ReturnsDropped : Type 0
ReturnsDropped = (text : List ℕ) → without_returns (text ++ carriage_return ∷ []) ≡ without_returns text

abbrev pub OthersKept : Type 0
OthersKept = (text : List ℕ) (b : ℕ) → b ≢ carriage_return → without_returns (text ++ b ∷ []) ≡ text ++ b ∷ []

-- each line ends with a newline, which may be missing on the last line
abbrev pub HasNoNewline : List ℕ → Type 0
HasNoNewline text = AllByRecursion (λ b. b ≢ newline) text

abbrev pub FeedsEndLines : Type 0
FeedsEndLines = (text rest : List ℕ) → HasNoNewline text → lines_of (text ++ newline ∷ rest) ≡ text ∷ lines_of rest

abbrev pub LastLineKept : Type 0
LastLineKept = (text : List ℕ) → HasNoNewline text → 0 < length text → lines_of text ≡ text ∷ []

-- ---- the grammar, reading and writing

-- a line as it is written, without its newline, says what it was written for
abbrev pub WrittenInGrammar : Type 0
WrittenInGrammar = (line : Line) → IsLawful line → IsLine (text_of line) line.digest line.name

-- a line has at most one meaning
abbrev pub OneMeaning : Type 0
OneMeaning = (text digest name other_digest other_name : List ℕ) → IsLine text digest name → IsLine text other_digest other_name → (digest ≡ other_digest) × (name ≡ other_name)

-- a line with a fault has no meaning
abbrev pub FaultsSayNothing : Type 0
FaultsSayNothing = (text digest name : List ℕ) (fault : Fault) → line_at text ≡ Err fault → IsLine text digest name → ⊥

-- lines that were written are read back, numbered from 1
abbrev pub WrittenReadBack : Type 0
WrittenReadBack = (lines : List Line) → AllByRecursion IsLawful lines → file_at (written_lines lines) ≡ all_good 1 lines
