-- Bytes that arrive in pieces, and what is kept of them: one node for each whole subtree, and the bytes after these.
use Rattle.std.specs.Prelude.{◌≡◌, ℕ, ◌+◌, ◌-◌, ◌*◌, ◌/◌, ◌%◌, ◌^◌, ◌<◌, ◌≤◌, List, [], ◌∷◌, ◌++◌, length}
use Rattle.b3_core.specs.Tree.{ModelTop, ModelMode, chunk_len, tree_top}
use Rattle.b3_core.specs.Work.{counted, hash_work}

-- the nodes of whole subtrees with their levels, the last one first
abbrev pub Subtrees : Type 0
Subtrees = List (ℕ × ModelTop)

-- what a hasher keeps
pub record ModelHasher : Type 0 where
  pub mode : ModelMode
  pub subtrees : Subtrees
  pub whole : ℕ
  pub tail : List ℕ

-- the first of the subtrees has a level above k, and one of k or above
abbrev pub AreAbove : ℕ → Subtrees → Type 0
AreAbove k [] = Unit {0}
AreAbove k (s ∷ subtrees) = k < s.0

abbrev pub AreFrom : ℕ → Subtrees → Type 0
AreFrom k [] = Unit {0}
AreFrom k (s ∷ subtrees) = k ≤ s.0

-- the subtrees are those of x: each has 2^k whole chunks and is larger than those after it
abbrev pub AreSubtrees : ModelMode → Subtrees → List ℕ → Type 0
AreSubtrees p [] x = x ≡ []
AreSubtrees p (s ∷ subtrees) x =
    (before : List ℕ) × (mine : List ℕ) × (x ≡ before ++ mine) × (length mine ≡ chunk_len * 2 ^ s.0)
    × (s.1 ≡ tree_top mine (length before / chunk_len) p) × AreAbove s.0 subtrees × AreSubtrees p subtrees before

-- the hasher has been given the bytes x
abbrev pub HasInput : ModelHasher → List ℕ → Type 0
HasInput h x = (before : List ℕ) × (x ≡ before ++ h.tail) × AreSubtrees h.mode h.subtrees before × (length before ≡ h.whole) × (length h.tail < chunk_len)

-- a whole subtree of 2^k chunks can be appended to what the hasher has been given
abbrev pub HasRoomFor : ℕ → ModelHasher → Type 0
HasRoomFor k h = (h.tail ≡ []) × AreFrom k h.subtrees

-- and one is appended: after the bytes x given so far come the bytes mine, 2^k whole chunks, with the node t
abbrev pub IsAfter : ModelHasher → ℕ → ModelTop → List ℕ → List ℕ → Type 0
IsAfter h k t x mine =
    HasInput h x × HasRoomFor k h × (length mine ≡ chunk_len * 2 ^ k) × (t ≡ tree_top mine (h.whole / chunk_len) h.mode) × (length x + length mine < 2 ^ 64)

-- the number of bytes a hasher has been given, counted below 2 ^ 64
abbrev pub count_of : ModelHasher → ℕ
count_of h = (h.whole + length h.tail) % 2 ^ 64

-- the compressions that the subtrees of these nodes took
abbrev pub kept_work : Subtrees → ℕ
kept_work [] = 0
kept_work (s ∷ subtrees) = kept_work subtrees + (hash_work (chunk_len * 2 ^ s.0) - 1)

-- of a total number of compressions, some were made before, and the others are counted, from one count to another
abbrev pub CountsRest : ℕ → ℕ → ℕ → ℕ → Type 0
CountsRest before all old new = (made : ℕ) × (all ≡ before + made) × (new ≡ counted old made)
