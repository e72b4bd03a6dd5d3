-- A hasher, followed by the blocks that threads are hashing.
use Rattle.std.specs.Prelude.{◌≡◌, ℕ, ◌+◌, ◌*◌, ◌/◌, ◌^◌, List, [], ◌∷◌, ◌++◌, length, Option, Some, None}
use Rattle.std.specs.Global.{Vec}
use Rattle.std.specs.declared.thread.PromisedHandle.{PromisedHandle}
use Rattle.b3_core.specs.Tree.{ModelMode, chunk_len}
use Rattle.b3_parallel.specs.inner.Blocks.{IsReady}
use Rattle.b3_parallel.specs.declared.blocks.Block.{Block}
use Rattle.b3_parallel.specs.declared.blocks.BlockOf.{BlockOf}
use Rattle.b3_parallel.specs.declared.counted_hasher.CountedHasher.{CountedHasher}
use Rattle.b3_parallel.specs.declared.line.BlockLine.{BlockLine}

-- a thread that hashes a block
abbrev pub Thread : Type 0
Thread = PromisedHandle Block BlockOf

-- the threads hash the bytes z, each of them a block of 2^k chunks; the first chunk has the number c
abbrev pub AreHashing : ModelMode → ℕ → ℕ → List Thread → List ℕ → Type 0
AreHashing p k c [] z = z ≡ []
AreHashing p k c (h ∷ hs) z =
    (rest : List ℕ) × (z ≡ h.promise.bytes.value.items ++ rest) × (length h.promise.bytes.value.items ≡ chunk_len * 2 ^ k)
    × (h.promise.number ≡ c) × (h.promise.mode ≡ p) × AreHashing p k (c + 2 ^ k) hs rest

-- a hasher in the mode p has been given the first bytes of x, and the threads hash the others
abbrev pub AreCarried : ModelMode → ℕ → CountedHasher → List Thread → List ℕ → Type 0
AreCarried p k front hs x =
    (before : List ℕ) × (z : List ℕ) × (x ≡ before ++ z) × IsReady p k front before × AreHashing p k (length before / chunk_len) hs z

-- the bytes x are those of a line in the mode p
abbrev pub Carries : ModelMode → BlockLine → List ℕ → Type 0
Carries p line x = AreCarried p line.level line.front line.handles.items x

-- the bytes after the last block, if they were read
abbrev pub last_of : Option (Vec ℕ) → List ℕ
last_of None = []
last_of (Some bytes) = bytes.items
