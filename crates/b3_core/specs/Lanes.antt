-- Compressions side by side: each word is a vector, with one lane for each of them.
use Rattle.std.specs.Prelude.{ℕ, ◌+◌, ◌*◌, List, [], ◌∷◌, take, drop}
use Rattle.b3_core.specs.Tree.{ModelMode, ModelTop, chunk_len, chunk_top}

-- the bytes of chunk i, if all chunks are whole
abbrev pub chunk_bytes : List ℕ → ℕ → List ℕ
chunk_bytes x i = take chunk_len (drop (chunk_len * i) x)

-- the last compression of chunk i of the bytes x, whose first chunk has the number c
abbrev pub chunk_at : List ℕ → ℕ → ModelMode → ℕ → ModelTop
chunk_at x c p i = chunk_top (chunk_bytes x i) (c + i) p

-- the last compressions of the eight chunks of 8192 bytes
abbrev pub eight_chunks : List ℕ → ℕ → ModelMode → List ModelTop
eight_chunks x c p =
    chunk_at x c p 0 ∷ chunk_at x c p 1 ∷ chunk_at x c p 2 ∷ chunk_at x c p 3
    ∷ chunk_at x c p 4 ∷ chunk_at x c p 5 ∷ chunk_at x c p 6 ∷ chunk_at x c p 7 ∷ []
