-- The binary tree of chunks and parents (BLAKE3, sections 2.1, 2.4 and 2.5). An input is a list of bytes.
use Rattle.std.specs.Prelude.{◌≡◌, ◌≤◌, ℕ, zero, suc, ◌+◌, ◌-◌, ◌*◌, ◌/◌, ◌^◌, nat_lt, nat_eq, true, false, max, List, [], ◌∷◌, ◌++◌, length, take, drop, replicate, slice_index, if◌then◌else◌}
use Rattle.std.specs.Int.{w32, from_le_bytes}
use Rattle.b3_core.specs.Compression.{compress_of, chunk_start, chunk_end, parent_flag}

-- what a mode means: its key words, and the flag that each of its compressions has
pub record ModelMode : Type 0 where
  pub key : List ℕ
  pub flag : ℕ

-- the inputs of a node's last compression, before ROOT is decided
pub record ModelTop : Type 0 where
  pub chaining_value : List ℕ
  pub block_words : List ℕ
  pub counter : ℕ
  pub block_len : ℕ
  pub flags : ℕ

-- the 16 words of a node's last compression
abbrev pub node_words : ModelTop → List ℕ
node_words n = compress_of n.chaining_value n.block_words n.counter n.block_len n.flags

-- the chaining value of a node: the first 8 of these words
abbrev pub chaining_value_of : ModelTop → List ℕ
chaining_value_of n = take 8 (node_words n)

-- ---- chunks (section 2.4)

-- the lengths of a chunk and of a block; the last chunk of an input and the last block of a chunk may be shorter (section 2.1)
abbrev pub chunk_len : ℕ
chunk_len = 1024

abbrev pub block_size : ℕ
block_size = 64

-- the word at byte i, low byte first
abbrev pub word_at : List ℕ → ℕ → ℕ
word_at x i = from_le_bytes w32
    (slice_index x i ∷ slice_index x (i + 1) ∷ slice_index x (i + 2) ∷ slice_index x (i + 3) ∷ [])

-- the words of a block of at most 64 bytes, padded with zeros
abbrev pub block_words_of : List ℕ → List ℕ
block_words_of x =
    let z = x ++ replicate (block_size - length x) 0 in
    word_at z 0 ∷ word_at z 4 ∷ word_at z 8 ∷ word_at z 12
    ∷ word_at z 16 ∷ word_at z 20 ∷ word_at z 24 ∷ word_at z 28
    ∷ word_at z 32 ∷ word_at z 36 ∷ word_at z 40 ∷ word_at z 44
    ∷ word_at z 48 ∷ word_at z 52 ∷ word_at z 56 ∷ word_at z 60 ∷ []

-- block j of a chunk
abbrev pub block : List ℕ → ℕ → List ℕ
block x j = take block_size (drop (block_size * j) x)

-- the flag of a chunk's first block
abbrev pub start_flag : ℕ → ℕ
start_flag j = if nat_eq j 0 then chunk_start else 0

-- the chaining value after the first j blocks of chunk c, none of which is its last
unfoldable pub chain : List ℕ → ℕ → ModelMode → ℕ → List ℕ
chain x c p zero = p.key
chain x c p (suc j) = take 8 (compress_of (chain x c p j) (block_words_of (block x j)) c block_size (p.flag + start_flag j))

-- the number of the last block of a chunk of n bytes; no bytes are one empty block
abbrev pub last_block : ℕ → ℕ
last_block n = (n - 1) / block_size

-- a chunk's last compression: chunk c with the bytes x, of which there are at most chunk_len
unfoldable pub chunk_top : List ℕ → ℕ → ModelMode → ModelTop
chunk_top x c p =
    let j = last_block (length x) in
    record {
      chaining_value = chain x c p j;
      block_words = block_words_of (block x j);
      counter = c;
      block_len = length x - block_size * j;
      flags = p.flag + start_flag j + chunk_end;
    }

-- ---- parents (section 2.5)

-- the last compression of the parent of two nodes
unfoldable pub parent_top : ModelTop → ModelTop → ModelMode → ModelTop
parent_top left right p = record {
  chaining_value = p.key;
  block_words = chaining_value_of left ++ chaining_value_of right;
  counter = 0;
  block_len = block_size;
  flags = p.flag + parent_flag;
}

-- ---- the tree (section 2.1)

-- the number of chunks of n bytes; no bytes are one empty chunk
abbrev pub chunk_count : ℕ → ℕ
chunk_count n = max 1 ((n + (chunk_len - 1)) / chunk_len)

-- the largest of the powers 2 ^ 0, .., 2 ^ n that is below k, or else 1
unfoldable pub power_below : ℕ → ℕ → ℕ
power_below zero k = 1
power_below (suc n) k = elim (nat_lt (2 ^ suc n) k) [ true ↦ 2 ^ suc n | false ↦ power_below n k ]

-- the length of the left side of n bytes, more than one chunk: the largest power of two of chunks that is below the number of all chunks
unfoldable pub left_length : ℕ → ℕ
left_length n = chunk_len * power_below (chunk_count n) (chunk_count n)

-- the top of the tree over the bytes x, whose first chunk has the number c: at most n splits deep
unfoldable pub tree_top_within : ℕ → List ℕ → ℕ → ModelMode → ModelTop
tree_top_within zero x c p = chunk_top x c p
tree_top_within (suc n) x c p = elim (nat_lt chunk_len (length x)) [
  | true ↦
      let s = left_length (length x) in
      parent_top (tree_top_within n (take s x) c p) (tree_top_within n (drop s x) (c + s / chunk_len) p) p
  | false ↦ chunk_top x c p
]

-- the top of the tree over the bytes x, whose first chunk has the number c: each side of a split is shorter than the whole, so a depth of
-- as many splits as bytes is enough
unfoldable pub tree_top : List ℕ → ℕ → ModelMode → ModelTop
tree_top x c p = tree_top_within (length x) x c p

-- n bytes from chunk c on are a subtree of the tree over an input that ends with them, or that continues after them if they are whole
-- chunks and a power of two of them: the number of their chunks is at most a power of two that divides c. No bytes are a subtree only as
-- the empty input.
abbrev pub IsSubtree : ℕ → ℕ → Type 0
IsSubtree n c = (n ≡ 0 → c ≡ 0) × (k : ℕ) × (q : ℕ) × (chunk_count n ≤ 2 ^ k) × (c ≡ q * 2 ^ k)
