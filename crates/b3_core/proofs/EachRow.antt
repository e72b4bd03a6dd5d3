-- Facts of each of one or of two rows of four words, side by side.
use Rattle.std.proofs.Common.{◌≡◌, ℕ, zero, suc, ◌<◌, ◌+◌, ◌*◌, List, [], ◌∷◌, length, slice_index, arith, ap, refl, ◌∙◌}
use Rattle.b3_core.specs.inner.Rows.{rows_words}
use Rattle.b3_core.specs.Tree.{word_at}
use Rattle.b3_core.proofs.Nodes.{eight}

-- what holds of the one row of four lanes
pub only_one : (P : ℕ → Type 0) → P 0 → (i : ℕ) → 4 * i + 3 < 4 → P i
only_one P p zero h = p
only_one P p (suc n) h = absurd (omega arith)

-- what holds of each of the two rows of eight lanes
pub only_two : (P : ℕ → Type 0) → P 0 → P 1 → (i : ℕ) → 4 * i + 3 < 8 → P i
only_two P p q zero h = p
only_two P p q (suc zero) h = q
only_two P p q (suc (suc n)) h = absurd (omega arith)

-- a list of four words is the list of its words
pub four : (l : List ℕ) → length l ≡ 4 → slice_index l 0 ∷ slice_index l 1 ∷ slice_index l 2 ∷ slice_index l 3 ∷ [] ≡ l
four (a ∷ b ∷ c ∷ d ∷ []) len = refl
four [] len = absurd (omega arith)
four (a ∷ []) len = absurd (omega arith)
four (a ∷ b ∷ []) len = absurd (omega arith)
four (a ∷ b ∷ c ∷ []) len = absurd (omega arith)
four (a ∷ b ∷ c ∷ d ∷ e ∷ xs) len = absurd (omega arith)

-- a list of sixteen words is the list of its words
pub sixteen : (l : List ℕ) → length l ≡ 16
    → slice_index l 0 ∷ slice_index l 1 ∷ slice_index l 2 ∷ slice_index l 3 ∷ slice_index l 4 ∷ slice_index l 5 ∷ slice_index l 6 ∷ slice_index l 7
    ∷ slice_index l 8 ∷ slice_index l 9 ∷ slice_index l 10 ∷ slice_index l 11 ∷ slice_index l 12 ∷ slice_index l 13 ∷ slice_index l 14 ∷ slice_index l 15 ∷ [] ≡ l
sixteen (a ∷ b ∷ c ∷ d ∷ e ∷ f ∷ g ∷ h ∷ l) len = ap (λ (r : List ℕ). a ∷ b ∷ c ∷ d ∷ e ∷ f ∷ g ∷ h ∷ r) (eight l (omega arith))
sixteen [] len = absurd (omega arith)
sixteen (a ∷ []) len = absurd (omega arith)
sixteen (a ∷ b ∷ []) len = absurd (omega arith)
sixteen (a ∷ b ∷ c ∷ []) len = absurd (omega arith)
sixteen (a ∷ b ∷ c ∷ d ∷ []) len = absurd (omega arith)
sixteen (a ∷ b ∷ c ∷ d ∷ e ∷ []) len = absurd (omega arith)
sixteen (a ∷ b ∷ c ∷ d ∷ e ∷ f ∷ []) len = absurd (omega arith)
sixteen (a ∷ b ∷ c ∷ d ∷ e ∷ f ∷ g ∷ []) len = absurd (omega arith)

-- rows of two chunks, 1024 bytes apart
abbrev TwoRows : List ℕ → List ℕ → ℕ → Type 0
TwoRows x a o =
    ((i : ℕ) → i < 4 → slice_index a i ≡ word_at x (o + 4 * i)) × ((i : ℕ) → i < 4 → slice_index a (i + 4) ≡ word_at x (o + 1024 + 4 * i))

-- the words of four such rows
pub two_blocks : (x a b c d : List ℕ) (o : ℕ) → TwoRows x a o → TwoRows x b (o + 16) → TwoRows x c (o + 32) → TwoRows x d (o + 48)
    → (i : ℕ) → 4 * i + 3 < 8 → let s = 1024 * i in rows_words slice_index i a b c d
    ≡ word_at x (s + o) ∷ word_at x (s + (o + 4)) ∷ word_at x (s + (o + 8)) ∷ word_at x (s + (o + 12))
    ∷ word_at x (s + (o + 16)) ∷ word_at x (s + (o + 16 + 4)) ∷ word_at x (s + (o + 16 + 8)) ∷ word_at x (s + (o + 16 + 12))
    ∷ word_at x (s + (o + 32)) ∷ word_at x (s + (o + 32 + 4)) ∷ word_at x (s + (o + 32 + 8)) ∷ word_at x (s + (o + 32 + 12))
    ∷ word_at x (s + (o + 48)) ∷ word_at x (s + (o + 48 + 4)) ∷ word_at x (s + (o + 48 + 8)) ∷ word_at x (s + (o + 48 + 12)) ∷ []
two_blocks x a b c d o ra rb rc rd =
    let from = λ (m n : ℕ) (e : m ≡ n). ap (word_at x) e in
    only_two _
    (rw (
      ra.0 0 (omega arith) ∙ from _ (0 + o) (omega arith),
      ra.0 1 (omega arith) ∙ from _ (0 + (o + 4)) (omega arith),
      ra.0 2 (omega arith) ∙ from _ (0 + (o + 8)) (omega arith),
      ra.0 3 (omega arith) ∙ from _ (0 + (o + 12)) (omega arith),
      rb.0 0 (omega arith) ∙ from _ (0 + (o + 16)) (omega arith),
      rb.0 1 (omega arith) ∙ from _ (0 + (o + 16 + 4)) (omega arith),
      rb.0 2 (omega arith) ∙ from _ (0 + (o + 16 + 8)) (omega arith),
      rb.0 3 (omega arith) ∙ from _ (0 + (o + 16 + 12)) (omega arith),
      rc.0 0 (omega arith) ∙ from _ (0 + (o + 32)) (omega arith),
      rc.0 1 (omega arith) ∙ from _ (0 + (o + 32 + 4)) (omega arith),
      rc.0 2 (omega arith) ∙ from _ (0 + (o + 32 + 8)) (omega arith),
      rc.0 3 (omega arith) ∙ from _ (0 + (o + 32 + 12)) (omega arith),
      rd.0 0 (omega arith) ∙ from _ (0 + (o + 48)) (omega arith),
      rd.0 1 (omega arith) ∙ from _ (0 + (o + 48 + 4)) (omega arith),
      rd.0 2 (omega arith) ∙ from _ (0 + (o + 48 + 8)) (omega arith),
      rd.0 3 (omega arith) ∙ from _ (0 + (o + 48 + 12)) (omega arith),
    ) refl)
    (rw (
      ra.1 0 (omega arith) ∙ from _ (1024 + o) (omega arith),
      ra.1 1 (omega arith) ∙ from _ (1024 + (o + 4)) (omega arith),
      ra.1 2 (omega arith) ∙ from _ (1024 + (o + 8)) (omega arith),
      ra.1 3 (omega arith) ∙ from _ (1024 + (o + 12)) (omega arith),
      rb.1 0 (omega arith) ∙ from _ (1024 + (o + 16)) (omega arith),
      rb.1 1 (omega arith) ∙ from _ (1024 + (o + 16 + 4)) (omega arith),
      rb.1 2 (omega arith) ∙ from _ (1024 + (o + 16 + 8)) (omega arith),
      rb.1 3 (omega arith) ∙ from _ (1024 + (o + 16 + 12)) (omega arith),
      rc.1 0 (omega arith) ∙ from _ (1024 + (o + 32)) (omega arith),
      rc.1 1 (omega arith) ∙ from _ (1024 + (o + 32 + 4)) (omega arith),
      rc.1 2 (omega arith) ∙ from _ (1024 + (o + 32 + 8)) (omega arith),
      rc.1 3 (omega arith) ∙ from _ (1024 + (o + 32 + 12)) (omega arith),
      rd.1 0 (omega arith) ∙ from _ (1024 + (o + 48)) (omega arith),
      rd.1 1 (omega arith) ∙ from _ (1024 + (o + 48 + 4)) (omega arith),
      rd.1 2 (omega arith) ∙ from _ (1024 + (o + 48 + 8)) (omega arith),
      rd.1 3 (omega arith) ∙ from _ (1024 + (o + 48 + 12)) (omega arith),
    ) refl)
