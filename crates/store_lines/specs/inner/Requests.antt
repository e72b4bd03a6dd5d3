-- Definitions for private functions, in addition to specs/Requests.
use Rattle.std.specs.Prelude.{◌≡◌, ◌<◌, ◌≤◌, ◌⊎◌, ℕ, Err, List, None, Ok, Option, Result, Some, length}
use Rattle.std.specs.Io.BufRead.{strip_last}
use Rattle.edge.specs.Lines.{IsLineRead}
use Rattle.edge.specs.declared.lines.LineRead.{LineRead}
use Rattle.store_lines.specs.declared.bad_lines.LineFault.{LineFault}
use Rattle.store_lines.specs.declared.request.Request.{Request}
use Rattle.store_lines.specs.declared.request.Request.TheVariants.{File, PutRaw}
use Rattle.store_lines.specs.Lines.{IsPutLine, max_request}
use Rattle.store_lines.specs.Grammar.{command_at, line_fault}
use Rattle.store_lines.specs.Requests.{request_in}
use Rattle.store_lines.specs.declared.session_line.Line.{Line}
use Rattle.store_lines.specs.declared.session_line.Line.TheVariants as lines

-- a session's line: as many of its bytes are kept as a command's line can have, and those of a short one are not lost
abbrev pub IsSessionLine : List ℕ → LineRead → List ℕ → Type 0
IsSessionLine whole read kept = IsLineRead 33554481 max_request whole read kept

-- it is the request of the line that was read
pub record AsksFor (read : LineRead) (kept : List ℕ) (request : Option Request) : Type 0 where
  pub asks : (whole : List ℕ) → IsSessionLine whole read kept → request ≡ request_in whole

-- the request of a line, or why it has none
abbrev pub read_as : Option Request → LineFault → Result Request LineFault
read_as (Some request) fault = Ok request
read_as None fault = Err fault

-- reading a line of a script may allocate: if it is long, or puts a part
abbrev pub MayTakeMemory : List ℕ → Type 0
MayTakeMemory line = (max_request ≤ length line) ⊎ IsPutLine line

-- a line of a script, without its newline, is that
abbrev pub IsLineOf : List ℕ → Line → Type 0
IsLineOf line lines.Empty = length line ≡ 0
IsLineOf line (lines.Bad fault) = (0 < length line) × (None ≡ command_at line) × (fault ≡ line_fault line)
IsLineOf line lines.NoMemory = MayTakeMemory line
IsLineOf line (lines.Has request) = (0 < length line) × (Some request ≡ command_at line)

pub record IsScriptLine (line : List ℕ) (found : Line) : Type 0 where
  pub is : IsLineOf line found

-- the same for a line that was read
pub record IsScriptFound (read : LineRead) (kept : List ℕ) (found : Line) : Type 0 where
  pub is : (whole : List ℕ) → IsSessionLine whole read kept → IsLineOf (strip_last 10 whole) found

-- a session's line is that: it has a request of its own, or is one of a script
abbrev pub IsOwnOrScript : List ℕ → Line → Type 0
IsOwnOrScript whole (lines.Has request) = (Some request ≡ request_in whole) ⊎ ((None ≡ request_in whole) × IsLineOf (strip_last 10 whole) (lines.Has request))
IsOwnOrScript whole line = (None ≡ request_in whole) × IsLineOf (strip_last 10 whole) line

pub record IsFound (read : LineRead) (kept : List ℕ) (found : Line) : Type 0 where
  pub is : (whole : List ℕ) → IsSessionLine whole read kept → IsOwnOrScript whole found

-- how many bytes follow the line of a request
abbrev pub raw_len : Option Request → ℕ
raw_len (Some (PutRaw part)) = part.len
raw_len (Some (File filing)) = filing.len
raw_len _ = 0

-- so many follow the line that was read
pub record IsRawLen (read : LineRead) (kept : List ℕ) (len : ℕ) : Type 0 where
  pub is : (whole : List ℕ) → IsSessionLine whole read kept → len ≡ raw_len (request_in whole)
