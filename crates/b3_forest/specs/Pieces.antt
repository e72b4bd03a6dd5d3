-- Pieces: complete subtrees of the tree over an upload. What is held is a function from a chunk's number to its bytes; a chunk that is not
-- held has none.
use Rattle.std.specs.Prelude.{◌≡◌, ℕ, zero, suc, ◌+◌, ◌-◌, ◌*◌, ◌/◌, ◌^◌, nat_lt, Bool, true, false, ◌&&◌, List, [], ◌∷◌, ◌++◌, length}
use Rattle.b3_core.specs.Modes.{hash_mode}
use Rattle.b3_core.specs.Tree.{block_size, chunk_len, tree_top}
use Rattle.store_upload.specs.Uploads.{Fits, max_bytes}
use Rattle.b3_forest.specs.Parts.{ModelPrepared, chunks_of}
use Rattle.b3_forest.specs.declared.piece.Piece.{Piece}

-- the bytes of 2 ^ k chunks from chunk s on
unfoldable pub content_at : (ℕ → List ℕ) → ℕ → ℕ → List ℕ
content_at x zero s = x s
content_at x (suc k) s = content_at x k s ++ content_at x k (s + 2 ^ k)

-- whether all of 2 ^ k chunks from chunk s on are held
unfoldable pub is_full : (ℕ → List ℕ) → ℕ → ℕ → Bool
is_full x zero s = nat_lt 0 (length (x s))
is_full x (suc k) s = is_full x k s && is_full x k (s + 2 ^ k)

-- the piece of 2 ^ k chunks from chunk s on
abbrev pub piece_at : (ℕ → List ℕ) → ℕ → ℕ → Piece
piece_at x k s = record { first = s; level = k; top = tree_top (content_at x k s) s hash_mode }

-- the pieces of what is held of 2 ^ k chunks from chunk s on, in order: the largest aligned ranges of 2 ^ j chunks all of which are held
unfoldable pub pieces_of : (ℕ → List ℕ) → ℕ → ℕ → List Piece
pieces_of x zero s = elim (is_full x zero s) [ true ↦ piece_at x zero s ∷ [] | false ↦ [] ]
pieces_of x (suc k) s = elim (is_full x (suc k) s) [
  | true ↦ piece_at x (suc k) s ∷ []
  | false ↦ pieces_of x k s ++ pieces_of x k (s + 2 ^ k)
]

-- the maximum number of chunks of an upload, and the level of their range
abbrev pub max_chunks : ℕ
max_chunks = max_bytes / chunk_len

abbrev pub root_level : ℕ
root_level = 34

-- the number of pieces, a function of the held chunks alone
abbrev pub piece_count : (ℕ → List ℕ) → ℕ
piece_count x = length (pieces_of x root_level 0)

-- the compressions of the chunks of n bytes with c pieces: for each chunk one fewer than its blocks, and two for each chunk beyond the
-- number of pieces
abbrev pub part_work : ℕ → ℕ → ℕ
part_work n c = (n + (block_size - 1)) / block_size + (n + (chunk_len - 1)) / chunk_len - 2 * c

-- what a prepared part guarantees: it fits its plan, and has the pieces of its own chunks
abbrev pub IsPrepared : ModelPrepared → List Piece → Type 0
IsPrepared p pieces = Fits p.plan p.part.offset (length p.part.bytes) × (pieces ≡ pieces_of (chunks_of p.part) root_level 0)
