-- The state of a compression as four rows of four words (BLAKE3, section 2.2), of one compression or of several side by side: each group of
-- four lanes of a vector is a row of one of them. G ends by rotating its last word by 8 bits and begins by rotating it by 16 more. So the
-- last row is kept as it was before that rotation by 8.
use Rattle.std.specs.Prelude.{◌≡◌, ℕ, ◌+◌, ◌*◌, List, [], ◌∷◌}
use Rattle.b3_core.specs.inner.Compression.{turned}

-- row i of a vector has these words, where `word` returns the word in a vector's lane
abbrev pub IsRowOf : {V : Type 0} → (V → ℕ → ℕ) → ℕ → V → ℕ → ℕ → ℕ → ℕ → Type 0
IsRowOf word i v a b c d = (word v (4 * i) ≡ a) × (word v (4 * i + 1) ≡ b) × (word v (4 * i + 2) ≡ c) × (word v (4 * i + 3) ≡ d)

-- the words of rows i of four vectors
abbrev pub rows_words : {V : Type 0} → (V → ℕ → ℕ) → ℕ → V → V → V → V → List ℕ
rows_words word i a b c d =
    word a (4 * i) ∷ word a (4 * i + 1) ∷ word a (4 * i + 2) ∷ word a (4 * i + 3)
    ∷ word b (4 * i) ∷ word b (4 * i + 1) ∷ word b (4 * i + 2) ∷ word b (4 * i + 3)
    ∷ word c (4 * i) ∷ word c (4 * i + 1) ∷ word c (4 * i + 2) ∷ word c (4 * i + 3)
    ∷ word d (4 * i) ∷ word d (4 * i + 1) ∷ word d (4 * i + 2) ∷ word d (4 * i + 3) ∷ []

-- state i of four rows of states
abbrev pub rows_state : {V : Type 0} → (V → ℕ → ℕ) → ℕ → V × V × V × V → List ℕ
rows_state word i v =
    word v.0 (4 * i) ∷ word v.0 (4 * i + 1) ∷ word v.0 (4 * i + 2) ∷ word v.0 (4 * i + 3)
    ∷ word v.1 (4 * i) ∷ word v.1 (4 * i + 1) ∷ word v.1 (4 * i + 2) ∷ word v.1 (4 * i + 3)
    ∷ word v.2 (4 * i) ∷ word v.2 (4 * i + 1) ∷ word v.2 (4 * i + 2) ∷ word v.2 (4 * i + 3)
    ∷ turned 8 (word v.3 (4 * i)) ∷ turned 8 (word v.3 (4 * i + 1)) ∷ turned 8 (word v.3 (4 * i + 2)) ∷ turned 8 (word v.3 (4 * i + 3)) ∷ []

-- message i, where the first two vectors have the even-numbered and the odd-numbered words of its first half, and the other two those of
-- its second
abbrev pub rows_message : {V : Type 0} → (V → ℕ → ℕ) → ℕ → V × V × V × V → List ℕ
rows_message word i m =
    word m.0 (4 * i) ∷ word m.1 (4 * i) ∷ word m.0 (4 * i + 1) ∷ word m.1 (4 * i + 1)
    ∷ word m.0 (4 * i + 2) ∷ word m.1 (4 * i + 2) ∷ word m.0 (4 * i + 3) ∷ word m.1 (4 * i + 3)
    ∷ word m.2 (4 * i) ∷ word m.3 (4 * i) ∷ word m.2 (4 * i + 1) ∷ word m.3 (4 * i + 1)
    ∷ word m.2 (4 * i + 2) ∷ word m.3 (4 * i + 2) ∷ word m.2 (4 * i + 3) ∷ word m.3 (4 * i + 3) ∷ []

-- chaining value i of two rows of chaining values
abbrev pub rows_value : {V : Type 0} → (V → ℕ → ℕ) → ℕ → V × V → List ℕ
rows_value word i h =
    word h.0 (4 * i) ∷ word h.0 (4 * i + 1) ∷ word h.0 (4 * i + 2) ∷ word h.0 (4 * i + 3)
    ∷ word h.1 (4 * i) ∷ word h.1 (4 * i + 1) ∷ word h.1 (4 * i + 2) ∷ word h.1 (4 * i + 3) ∷ []
