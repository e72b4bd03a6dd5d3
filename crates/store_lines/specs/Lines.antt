-- The lengths of lines, and lines that put a part.
use Rattle.std.specs.Prelude.{◌≡◌, ℕ, List, ◌++◌, codes}

-- the maximum length of a command's line without its newline: `put`, two numbers of 20 digits, and the digits of a part
abbrev pub max_line : ℕ
max_line = 33554480

-- the maximum length in bytes, with its newline, of a line with a request that a script does not have
abbrev pub max_request : ℕ
max_request = 200

-- a line starts as one that puts a part, whose bytes have to be allocated
abbrev pub IsPutLine : List ℕ → Type 0
IsPutLine line = (fields : List ℕ) × (line ≡ codes "put " ++ fields)
