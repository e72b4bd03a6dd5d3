-- Definitions for private functions, in addition to specs/Rounds.
use Rattle.std.specs.Prelude.{◌≡◌, ℕ, ◌*◌, ◌^◌, List, [], ◌∷◌, Option, Some, None, IfSome, length, take, drop}
use Rattle.std.specs.Global.{Vec}
use Rattle.b3_core.specs.Tree.{ModelMode, chunk_len}
use Rattle.b3_parallel.specs.inner.Blocks.{IsHashed, IsReady}
use Rattle.b3_parallel.specs.declared.counted_hasher.CountedHasher.{CountedHasher}
use Rattle.b3_parallel.specs.declared.taking.Placed.{Placed}

-- the bytes x are at `start`
abbrev pub StandsAt : Option (List ℕ) → ℕ → List ℕ → Type 0
StandsAt None start x = Unit {0}
StandsAt (Some all) start x = take (length x) (drop start all) ≡ x

-- the result for a block of 2^k chunks, with as many blocks before it as its place says
abbrev pub IsPlaced : ModelMode → Option (List ℕ) → ℕ → Placed → Type 0
IsPlaced p known k s =
    (x : List ℕ) × (length x ≡ chunk_len * 2 ^ k) × IsHashed p x (s.place * 2 ^ k) s.top s.work × StandsAt known (chunk_len * (s.place * 2 ^ k)) x

-- the results of a thread, for blocks in any order
abbrev pub ArePlaced : ModelMode → Option (List ℕ) → ℕ → List Placed → Type 0
ArePlaced p known k [] = Unit {0}
ArePlaced p known k (s ∷ rest) = IsPlaced p known k s × ArePlaced p known k rest

-- the results of all threads
abbrev pub AreTaken : ModelMode → Option (List ℕ) → ℕ → List (Vec Placed) → Type 0
AreTaken p known k [] = Unit {0}
AreTaken p known k (taken ∷ rest) = ArePlaced p known k taken.items × AreTaken p known k rest

-- slots, each with the result of a thread or empty
abbrev pub AreSlots : ModelMode → Option (List ℕ) → ℕ → List (Option Placed) → Type 0
AreSlots p known k [] = Unit {0}
AreSlots p known k (s ∷ rest) = IfSome s (IsPlaced p known k) × AreSlots p known k rest

-- a hasher in the mode p has been given the first `count` blocks of 2^k chunks
abbrev pub HasFront : ModelMode → Option (List ℕ) → ℕ → CountedHasher → ℕ → Type 0
HasFront p known k front count = (x : List ℕ) × IsReady p k front x × (length x ≡ chunk_len * (count * 2 ^ k)) × StandsAt known 0 x
