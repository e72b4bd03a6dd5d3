-- The definitions of the tree in the specification's own words, and the facts about joining two neighbouring subtrees that higher layers
-- need.
use Rattle.std.specs.Prelude.{◌≡◌, ℕ, ◌+◌, ◌*◌, ◌/◌, ◌^◌, ◌<◌, ◌≤◌, ◌++◌, List, length, take, drop}
use Rattle.b3_core.specs.Tree.{ModelMode, chunk_top, parent_top, chunk_count, left_length, tree_top, chunk_len}

-- at most chunk_len bytes are one chunk
abbrev pub OneChunk : Type 0
OneChunk = (x : List ℕ) (c : ℕ) (p : ModelMode) → length x ≤ chunk_len → tree_top x c p ≡ chunk_top x c p

-- more than chunk_len bytes are split, and the numbers of the right side's chunks continue those of the left side
abbrev pub TwoSides : Type 0
TwoSides = (x : List ℕ) (c : ℕ) (p : ModelMode) → chunk_len < length x
    → let s = left_length (length x) in
    tree_top x c p ≡ parent_top (tree_top (take s x) c p) (tree_top (drop s x) (c + s / chunk_len) p) p

-- n bytes are split after 2 ^ j chunks if 2 ^ j is the largest power of two below the number of chunks
abbrev pub GreatestPower : Type 0
GreatestPower = (n j : ℕ) → 2 ^ j < chunk_count n → chunk_count n ≤ 2 ^ (j + 1) → left_length n ≡ chunk_len * 2 ^ j

-- 2 ^ k whole chunks followed by bytes of at most as many chunks: the parent of the two tops is the top of the joined bytes
abbrev pub NeighboursJoin : Type 0
NeighboursJoin = (l r : List ℕ) (c k : ℕ) (p : ModelMode) → length l ≡ chunk_len * 2 ^ k → 0 < length r → length r ≤ chunk_len * 2 ^ k
    → parent_top (tree_top l c p) (tree_top r (c + 2 ^ k) p) p ≡ tree_top (l ++ r) c p
