-- Nodes as named by a caller in C: by their chaining values (BLAKE3, section 2.5).
use Rattle.std.specs.Prelude.{ℕ, ◌+◌, ◌++◌, List}
use Rattle.b3_core.specs.Compression.{parent_flag}
use Rattle.b3_core.specs.Tree.{ModelTop, ModelMode, block_size}

-- the last compression of the parent of two nodes with these chaining values
abbrev pub parent_of : List ℕ → List ℕ → ModelMode → ModelTop
parent_of left right p = record {
  chaining_value = p.key;
  block_words = left ++ right;
  counter = 0;
  block_len = block_size;
  flags = p.flag + parent_flag;
}
