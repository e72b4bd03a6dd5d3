-- The lines of a text.
use Rattle.std.specs.Prelude.{◌≡◌, ◌==◌, ◌-◌, ◌<◌, ℕ, true, false, List, [], ◌∷◌, if◌then◌else◌, length, slice_index, take}
use Rattle.std.specs.Io.Iter.{u64_saturate}
use Rattle.edge.specs.declared.lines.LineRead.{LineRead}

abbrev pub newline : ℕ
newline = 10

-- a byte prepended to the first line
abbrev pub onto_first : ℕ → List (List ℕ) → List (List ℕ)
onto_first b [] = (b ∷ []) ∷ []
onto_first b (line ∷ lines) = (b ∷ line) ∷ lines

abbrev pub with_byte : ℕ → List (List ℕ) → List (List ℕ)
with_byte b lines = if b == newline then [] ∷ lines else onto_first b lines

-- the lines that newlines end, and a last one without a newline if it is not empty
unfoldable pub lines_of : List ℕ → List (List ℕ)
lines_of [] = []
lines_of (b ∷ bytes) = with_byte b (lines_of bytes)

-- a newline ends the line
abbrev pub HasNewline : List ℕ → Type 0
HasNewline line = (0 < length line) × (slice_index line (length line - 1) ≡ newline)

-- what was read of a line, and its bytes that are kept, up to a maximum length; they are lost only if they don't fit the room there was
pub record IsLineRead (max_len room : ℕ) (line : List ℕ) (read : LineRead) (kept : List ℕ) : Type 0 where
  pub count_is : read.count ≡ u64_saturate (length line)
  pub kept_is : read.is_kept ≡ true → kept ≡ take max_len line
  pub long : read.is_kept ≡ false → room < length line
  pub ended : read.is_ended ≡ true → HasNewline line
  pub unended : read.is_ended ≡ false → HasNewline line → ⊥
