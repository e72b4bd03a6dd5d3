-- Bytes in parts of whole chunks, each hashed separately.
use Rattle.std.specs.Prelude.{◌≡◌, ℕ, ◌+◌, ◌*◌, ◌/◌, ◌^◌, ◌<◌, List, length, take, drop, slice_index_or}
use Rattle.b3_core.specs.Hashers.{ModelHasher, HasInput, HasRoomFor}
use Rattle.b3_core.specs.Tree.{ModelMode, chunk_len}
use Rattle.b3_parallel.specs.inner.Blocks.{IsHashed}
use Rattle.b3_parallel.specs.declared.parts.Part.{Part}

-- part i of some bytes, 2^k chunks
abbrev pub stretch_at : List ℕ → ℕ → ℕ → List ℕ
stretch_at x k i = take (chunk_len * 2 ^ k) (drop (i * (chunk_len * 2 ^ k)) x)

-- the results for all parts of some bytes, the first chunk of which has the number c
abbrev pub AreHashedParts : ModelMode → List ℕ → ℕ → ℕ → List Part → Type 0
AreHashedParts p x k c parts =
    (length x ≡ chunk_len * 2 ^ k * length parts)
    × ((i : ℕ) (d : Part) → i < length parts → IsHashed p (stretch_at x k i) (c + 2 ^ k * i) (slice_index_or parts i d).top (slice_index_or parts i d).work)

-- they can be appended to the bytes x that a hasher has been given
abbrev pub AreAfter : ModelHasher → ℕ → List Part → List ℕ → List ℕ → Type 0
AreAfter h k parts x bytes =
    HasInput h x × HasRoomFor k h × (length x + length bytes < 2 ^ 64) × AreHashedParts h.mode bytes k (h.whole / chunk_len) parts
