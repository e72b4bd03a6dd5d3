-- The held chunks of a range.
use Rattle.std.proofs.Common.{◌≡◌, ℕ, zero, suc, ◌+◌, ◌*◌, ◌^◌, ◌<◌, ◌≤◌, ◌++◌, List, length, nat_lt, true, arith, ap, ap₂, sym, ◌∙◌, inl, inr}
use Rattle.std.proofs.lemmas.Bool.Decides.{nat_tests}
use Rattle.std.proofs.lemmas.Bool.{cases_lt}
use Rattle.std.proofs.lemmas.List.{length-append}
use Rattle.std.proofs.lemmas.Nat.{pow_pos}
use Rattle.std.proofs.Math.Nat.{two-pow-succ}
use Rattle.b3_core.specs.Laws.{NeighboursJoin}
use Rattle.b3_core.specs.Modes.{hash_mode}
use Rattle.b3_core.specs.Tree.{tree_top, parent_top}
use Rattle.b3_forest.specs.Forests.{IsPiece, piece_end}
use Rattle.b3_forest.specs.inner.Subtrees.{AreChunks, is_held}
use Rattle.b3_forest.specs.Pieces.{content_at, is_full}
use Rattle.b3_forest.specs.declared.piece.Piece.{Piece}
use Rattle.b3_forest.proofs.OneForest.{both_full, full_halves, full_one, bool_cases}

-- ---- full ranges

pub full_at : (x : ℕ → List ℕ) (k s i : ℕ) → is_full x k s ≡ true → s ≤ i → i < s + 2 ^ k → is_held x i ≡ true
full_at x zero s i full after before =
    let same : i ≡ s = omega (arith, after, before) in
    ap (is_held x) same ∙ sym (full_one x s) ∙ full
full_at x (suc k) s i full after before =
    let two = two-pow-succ k in
    let h = full_halves x k s full in
    elim (cases_lt i (s + 2 ^ k)) [
      | inl left ↦ full_at x k s i h.0 after left
      | inr right ↦ full_at x k (s + 2 ^ k) i h.1 right (omega (arith, two, before))
    ]

pub full_from : (x : ℕ → List ℕ) (k s : ℕ) → ((i : ℕ) → s ≤ i → i < s + 2 ^ k → is_held x i ≡ true) → is_full x k s ≡ true
full_from x zero s held = full_one x s ∙ held s (omega arith) (omega arith)
full_from x (suc k) s held =
    let two = two-pow-succ k in
    both_full x k s (full_from x k s (λ i after before. held i after (omega (arith, two, before))))
    (full_from x k (s + 2 ^ k) (λ i after before. held i (omega (arith, after)) (omega (arith, two, before))))

-- what is held in one way is held in the other, with the same bytes
abbrev pub Extends : (ℕ → List ℕ) → (ℕ → List ℕ) → Type 0
Extends x z = (i : ℕ) → is_held x i ≡ true → z i ≡ x i

pub held_same : (x z : ℕ → List ℕ) (i : ℕ) → Extends x z → is_held x i ≡ true → is_held z i ≡ true
held_same x z i extends held = ap (λ (b : List ℕ). nat_lt 0 (length b)) (extends i held) ∙ held

pub content_same : (x z : ℕ → List ℕ) (k s : ℕ) → Extends x z → is_full x k s ≡ true → content_at z k s ≡ content_at x k s
unfolding content_at
content_same x z zero s extends full = extends s (sym (full_one x s) ∙ full)
content_same x z (suc k) s extends full =
    let h = full_halves x k s full in
    ap₂ (λ (l r : List ℕ). l ++ r) (content_same x z k s extends h.0) (content_same x z k (s + 2 ^ k) extends h.1)

pub piece_same : (x z : ℕ → List ℕ) (p : Piece) → Extends x z → IsPiece x p → IsPiece z p
piece_same x z p extends piece =
    let same = content_same x z p.level p.first extends piece.full in
    let Made : List ℕ → Piece = λ b. record { first = p.first; level = p.level; top = tree_top b p.first hash_mode } in
    record {
      aligned = piece.aligned;
      full = full_from z p.level p.first (λ i after before. held_same x z i extends (full_at x p.level p.first i piece.full after before));
      value = piece.value ∙ ap Made (sym same);
    }

-- ---- lengths

chunk_most : (n : ℕ) (x : ℕ → List ℕ) (i : ℕ) → AreChunks n x → length (x i) ≤ 1024
chunk_most n x i chunks = elim (bool_cases (is_held x i)) [
  | inl held ↦ let len = chunks i held in omega (arith, len)
  | inr none ↦ let zero_len : length (x i) ≡ 0 = grind (arith, nat_tests, none) in omega (arith, zero_len)
]

pub content_most : (n : ℕ) (x : ℕ → List ℕ) (k s : ℕ) → AreChunks n x → length (content_at x k s) ≤ 1024 * 2 ^ k
unfolding content_at
content_most n x zero s chunks = chunk_most n x s chunks
content_most n x (suc k) s chunks =
    let two = two-pow-succ k in
    let left = content_most n x k s chunks in
    let right = content_most n x k (s + 2 ^ k) chunks in
    rw (length-append (content_at x k s) (content_at x k (s + 2 ^ k))) (omega (arith, two, left, right))

-- a held chunk before another is whole
chunk_whole : (n : ℕ) (x : ℕ → List ℕ) (i j : ℕ) → AreChunks n x → is_held x i ≡ true → is_held x j ≡ true → i < j → length (x i) ≡ 1024
chunk_whole n x i j chunks held later before =
    let some : 0 < length (x j) = grind (arith, nat_tests, later) in
    let len = chunks i held in
    let other = chunks j later in
    omega (arith, some, len, other, before)

pub content_whole : (n : ℕ) (x : ℕ → List ℕ) (k s j : ℕ) → AreChunks n x → is_full x k s ≡ true → is_held x j ≡ true → s + 2 ^ k ≤ j → length (content_at x k s) ≡ 1024 * 2 ^ k
unfolding content_at
content_whole n x zero s j chunks full later before = chunk_whole n x s j chunks (sym (full_one x s) ∙ full) later (omega (arith, before))
content_whole n x (suc k) s j chunks full later before =
    let two = two-pow-succ k in
    let h = full_halves x k s full in
    let left = content_whole n x k s j chunks h.0 later (omega (arith, two, before)) in
    let right = content_whole n x k (s + 2 ^ k) j chunks h.1 later (omega (arith, two, before)) in
    rw (length-append (content_at x k s) (content_at x k (s + 2 ^ k))) (omega (arith, two, left, right))

pub content_some : (x : ℕ → List ℕ) (k s : ℕ) → is_held x s ≡ true → 0 < length (content_at x k s)
unfolding content_at
content_some x zero s held = grind (arith, nat_tests, held)
content_some x (suc k) s held =
    let left = content_some x k s held in
    rw (length-append (content_at x k s) (content_at x k (s + 2 ^ k))) (omega (arith, left))

-- ---- two halves

-- the parent of two halves is the piece of both
pub halves_piece : (n : ℕ) (x : ℕ → List ℕ) (l r : Piece) → NeighboursJoin → AreChunks n x → IsPiece x l → IsPiece x r
    → r.level ≡ l.level → r.first ≡ piece_end l → ((c : ℕ) × (l.first ≡ c * 2 ^ suc l.level))
    → IsPiece x (record { first = l.first; level = suc l.level; top = parent_top l.top r.top hash_mode })
unfolding content_at
halves_piece n x l r join chunks left right level next aligned =
    let k = l.level in
    let s = l.first in
    let positive = pow_pos k in
    let full : is_full x k (s + 2 ^ k) ≡ true = ap₂ (λ i j. is_full x i j) (sym level) (sym next) ∙ right.full in
    let held = full_at x k (s + 2 ^ k) (s + 2 ^ k) full (omega arith) (omega (arith, positive)) in
    let a = content_at x k s in
    let b = content_at x k (s + 2 ^ k) in
    let left_top : l.top ≡ tree_top a s hash_mode = ap (λ (p : Piece). p.top) left.value in
    let right_top : r.top ≡ tree_top b (s + 2 ^ k) hash_mode =
    ap (λ (p : Piece). p.top) right.value ∙ ap₂ (λ i j. tree_top (content_at x i j) j hash_mode) level next in
    let joined = join a b s k hash_mode (content_whole n x k s (s + 2 ^ k) chunks left.full held (omega arith))
    (content_some x k (s + 2 ^ k) held) (content_most n x k (s + 2 ^ k) chunks) in
    let top = ap₂ (λ t u. parent_top t u hash_mode) left_top right_top ∙ joined in
    record {
      aligned = aligned;
      full = both_full x k s left.full full;
      value = ap (λ t. record { first = s; level = suc k; top = t }) top;
    }
