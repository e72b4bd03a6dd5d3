-- A whole subtree hashed separately, and the bytes that a hasher has been given with the compressions made.
use Rattle.std.specs.Prelude.{◌≡◌, ℕ, ◌+◌, ◌-◌, ◌≤◌, ◌++◌, List, Option, length}
use Rattle.std.specs.Io.KnownBytes.{Consumes}
use Rattle.b3_core.specs.Hashers.{HasInput, HasRoomFor, kept_work}
use Rattle.b3_core.specs.Tree.{ModelTop, ModelMode, tree_top}
use Rattle.b3_core.specs.Work.{counted, hash_work}
use Rattle.b3_parallel.specs.declared.counted_hasher.CountedHasher.{CountedHasher}

-- the node of the bytes x, whose first chunk has the number c, and a count of their compressions except the last
abbrev pub IsHashed : ModelMode → List ℕ → ℕ → ModelTop → ℕ → Type 0
IsHashed p x c top n = (top ≡ tree_top x c p) × (n ≡ counted 0 (hash_work (length x) - 1))

-- a hasher has been given the bytes x, and their compressions are counted
abbrev pub IsGiven : CountedHasher → List ℕ → Type 0
IsGiven h x = HasInput h.hasher x × (h.work ≡ counted 0 (kept_work h.hasher.subtrees))

-- a hasher in the mode p has been given the bytes x, and a block of 2^k chunks can be appended
abbrev pub IsReady : ModelMode → ℕ → CountedHasher → List ℕ → Type 0
IsReady p k h x = (h.hasher.mode ≡ p) × IsGiven h x × HasRoomFor k h.hasher

-- after the bytes x a hasher has been given what was read since the reader had the bytes `old` left: together at most `most` bytes
abbrev pub HasRead : ℕ → CountedHasher → List ℕ → Option (List ℕ) → Option (List ℕ) → Type 0
HasRead most h x old new = (y : List ℕ) × IsGiven h (x ++ y) × Consumes old new y × (length x + length y ≤ most)
