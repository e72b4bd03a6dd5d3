-- The extended output of a root (BLAKE3, section 2.6).
use Rattle.std.specs.Prelude.{ℕ, ◌+◌, ◌-◌, ◌/◌, ◌%◌, ◌^◌, nat_eq, List, map, slice_index, if◌then◌else◌}
use Rattle.std.specs.List.{range_with_len}
use Rattle.std.specs.Int.{w32, to_le_bytes}
use Rattle.b3_core.specs.Compression.{compress_of, root_flag}
use Rattle.b3_core.specs.Tree.{ModelTop, block_size}

-- byte i of the words w, each with its low byte first
abbrev pub byte_of : List ℕ → ℕ → ℕ
byte_of w i = slice_index (to_le_bytes w32 (slice_index w (i / 4))) (i % 4)

-- the 16 words of block t of the extended output of the root n: its last compression with ROOT, where the counter is the number of the
-- output block
abbrev pub root_words_of : ModelTop → ℕ → List ℕ
root_words_of n t = compress_of n.chaining_value n.block_words t n.block_len (n.flags + root_flag)

-- byte i of the extended output of the root n
unfoldable pub output_byte : ModelTop → ℕ → ℕ
output_byte n i = byte_of (root_words_of n (i / block_size)) (i % block_size)

-- len bytes of the extended output, starting at byte i
abbrev pub output_of : ModelTop → ℕ → ℕ → List ℕ
output_of n i len = map (output_byte n) (range_with_len i len)

-- a reader of the output: the root, and the position of the next byte
pub record ModelOutputReader : Type 0 where
  pub root : ModelTop
  pub position : ℕ

-- the bytes from a reader's position to the end of the output
abbrev pub output_left : ModelOutputReader → List ℕ
output_left r = output_of r.root r.position (2 ^ 64 - 1 - r.position)

-- the number of blocks that len bytes starting at byte i touch
abbrev pub blocks_touched : ℕ → ℕ → ℕ
blocks_touched i len = if nat_eq len 0 then 0 else (i + len - 1) / block_size + 1 - i / block_size
