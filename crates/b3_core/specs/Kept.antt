-- What a hasher keeps, in a fixed amount of memory.
use Rattle.std.specs.Prelude.{◌≤◌, ℕ, List, min, reverse, take}
use Rattle.b3_core.specs.Hashers.{ModelHasher}
use Rattle.b3_core.specs.Tree.{ModelTop, ModelMode, chunk_len}
use Rattle.b3_core.specs.declared.kept.Kept.{Kept}
use Rattle.b3_core.specs.declared.places.Stack.{Stack}
use Rattle.b3_core.specs.declared.places.Tail.{Tail}

-- the number of levels of a tree over less than 2 ^ 64 bytes
abbrev pub max_levels : ℕ
max_levels = 54

-- the nodes in use, with their levels
unfoldable pub nodes_of : Stack → List (ℕ × ModelTop)
nodes_of s = take (min s.len max_levels) s.places

-- the bytes after them
unfoldable pub tail_of : Tail → List ℕ
tail_of t = take (min t.len chunk_len) t.places

-- the hasher in a mode that keeps this
abbrev pub kept_of : ModelMode → Kept → ModelHasher
kept_of p k = record {
  mode = p;
  subtrees = reverse (nodes_of k.subtrees);
  whole = k.whole;
  tail = tail_of k.tail;
}

-- the lengths fit the arrays
abbrev pub FitsItsPlaces : Kept → Type 0
FitsItsPlaces k = (k.subtrees.len ≤ max_levels) × (k.tail.len ≤ chunk_len)
