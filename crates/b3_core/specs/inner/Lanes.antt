-- Definitions for private functions, in addition to specs/Lanes.
use Rattle.std.specs.Prelude.{ℕ, ◌+◌, ◌*◌, List, [], ◌∷◌, map, take, drop, slice_index}
use Rattle.b3_core.specs.Tree.{ModelMode, ModelTop, chunk_len, tree_top}

-- the words of lane j of several vectors, where `word` returns the word in a vector's lane
abbrev pub lane : {V : Type 0} → (V → ℕ → ℕ) → ℕ → List V → List ℕ
lane word j x = map (λ v. word v j) x

-- lane i of four vectors
abbrev pub across : ℕ → List ℕ → List ℕ → List ℕ → List ℕ → List ℕ
across i a b c d = slice_index a i ∷ slice_index b i ∷ slice_index c i ∷ slice_index d i ∷ []

-- the top over group j of the bytes x, where a group is k whole chunks and the first chunk has the number c
abbrev pub group_top : ℕ → List ℕ → ℕ → ModelMode → ℕ → ModelTop
group_top k x c p j = tree_top (take (chunk_len * k) (drop (chunk_len * k * j) x)) (c + k * j) p
