-- Definitions for private functions, in addition to specs/Compression.
use Rattle.std.specs.Prelude.{ℕ}
use Rattle.std.specs.Int.{w32, rotate_right}

-- ---- the rounds

-- a word rotated right by k bits
abbrev pub turned : ℕ → ℕ → ℕ
turned k x = rotate_right w32 x k
