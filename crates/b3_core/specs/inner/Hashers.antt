-- Definitions for private functions, in addition to specs/Hashers.
use Rattle.std.specs.Prelude.{◌≡◌, ℕ, ◌*◌, ◌/◌, ◌^◌, ◌<◌, List, [], ◌∷◌, ◌++◌, length}
use Rattle.b3_core.specs.Tree.{ModelTop, ModelMode, chunk_len, parent_top, tree_top}
use Rattle.b3_core.specs.Hashers.{Subtrees, ModelHasher, AreFrom, AreSubtrees, HasInput, kept_work, CountsRest}

-- the subtrees and the next one, no larger than the last of them, are those of x
abbrev pub IsNext : ModelMode → Subtrees → (ℕ × ModelTop) → List ℕ → Type 0
IsNext p subtrees s x =
    (before : List ℕ) × (mine : List ℕ) × (x ≡ before ++ mine) × (length mine ≡ chunk_len * 2 ^ s.0)
    × (s.1 ≡ tree_top mine (length before / chunk_len) p) × AreFrom s.0 subtrees × AreSubtrees p subtrees before

-- of the bytes given to a hasher after x and n compressions, `rest` remains when the hasher is h and has made m compressions
abbrev pub IsLeft : ModelHasher → List ℕ → List ℕ → ℕ → ModelHasher → List ℕ → ℕ → Type 0
IsLeft old x bytes n h rest m =
    (front : List ℕ) × (bytes ≡ front ++ rest) × HasInput h (x ++ front) × (0 < length rest → h.tail ≡ [])
    × CountsRest (kept_work old.subtrees) (kept_work h.subtrees) n m

-- the node over all subtrees followed by what this is the node of
abbrev pub joined : ModelMode → Subtrees → ModelTop → ModelTop
joined p [] right = right
joined p (s ∷ subtrees) right = joined p subtrees (parent_top s.1 right p)
