-- How many pieces there are.
use Rattle.std.proofs.Common.{◌≡◌, ℕ, zero, suc, ◌+◌, ◌^◌, ◌≤◌, List, length, true, false, arith, ap, ◌∙◌, inl, inr}
use Rattle.std.proofs.lemmas.List.{length-append}
use Rattle.std.proofs.lemmas.Nat.{pow_pos}
use Rattle.std.proofs.Math.Nat.{two-pow-succ}
use Rattle.b3_forest.specs.Pieces.{is_full, pieces_of}
use Rattle.b3_forest.specs.inner.Subtrees.{is_held}
use Rattle.b3_forest.proofs.Chunks.{Extends, full_at, full_from, held_same}
use Rattle.b3_forest.proofs.Growing.{IsUnionOf}
use Rattle.b3_forest.proofs.OneForest.{bool_cases, full_one, pieces_of-none_held}
use Rattle.b3_forest.proofs.Ranges.{pieces_of-full, pieces_of-halves}

full_count : (x : ℕ → List ℕ) (k s : ℕ) → is_full x k s ≡ true → length (pieces_of x k s) ≡ 1
full_count x k s full = ap length (pieces_of-full x k s full)

halves_count : (x : ℕ → List ℕ) (k s : ℕ) → is_full x (suc k) s ≡ false → length (pieces_of x (suc k) s) ≡ length (pieces_of x k s) + length (pieces_of x k (s + 2 ^ k))
halves_count x k s part = ap length (pieces_of-halves x k s part) ∙ length-append (pieces_of x k s) (pieces_of x k (s + 2 ^ k))

-- no more than chunks
pub count_most : (x : ℕ → List ℕ) (k s : ℕ) → length (pieces_of x k s) ≤ 2 ^ k
count_most x zero s = elim (bool_cases (is_full x zero s)) [
  | inl full ↦ let one = full_count x zero s full in omega (arith, one)
  | inr none ↦ let empty = ap length (pieces_of-none_held x s none) in omega (arith, empty)
]
count_most x (suc k) s =
    let two = two-pow-succ k in
    let wide = pow_pos k in
    elim (bool_cases (is_full x (suc k) s)) [
      | inl full ↦ let one = full_count x (suc k) s full in omega (arith, one, two, wide)
      | inr part ↦
          let both = halves_count x k s part in
          let left = count_most x k s in
          let right = count_most x k (s + 2 ^ k) in
          omega (arith, both, left, right, two)
    ]

-- a held chunk is in one
count_some : (x : ℕ → List ℕ) (k s : ℕ) → is_held x s ≡ true → 1 ≤ length (pieces_of x k s)
count_some x zero s held = let one = full_count x zero s (full_one x s ∙ held) in omega (arith, one)
count_some x (suc k) s held = elim (bool_cases (is_full x (suc k) s)) [
  | inl full ↦ let one = full_count x (suc k) s full in omega (arith, one)
  | inr part ↦
      let both = halves_count x k s part in
      let left = count_some x k s held in
      omega (arith, both, left)
]

not_full : (x z : ℕ → List ℕ) (k s : ℕ) → Extends x z → is_full z k s ≡ false → is_full x k s ≡ false
not_full x z k s extends part = elim (bool_cases (is_full x k s)) [
  | inr not ↦ not
  | inl full ↦ let bad = full_from z k s (λ i after before. held_same x z i extends (full_at x k s i full after before)) in cc
]

-- where a range is held as a whole, one of its chunks is in a piece
joined_full : (x y z : ℕ → List ℕ) (k s : ℕ) → IsUnionOf x y z → is_full z k s ≡ true → length (pieces_of z k s) ≤ length (pieces_of x k s) + length (pieces_of y k s)
joined_full x y z k s joined full =
    let one = full_count z k s full in
    let wide = pow_pos k in
    elim (joined.only s (full_at z k s s full (omega arith) (omega (arith, wide)))) [
      | inl left ↦ let some = count_some x k s left in omega (arith, one, some)
      | inr right ↦ let some = count_some y k s right in omega (arith, one, some)
    ]

-- what is held of two has no more pieces than both
pub count_joined : (x y z : ℕ → List ℕ) (k s : ℕ) → IsUnionOf x y z → length (pieces_of z k s) ≤ length (pieces_of x k s) + length (pieces_of y k s)
count_joined x y z zero s joined = elim (bool_cases (is_full z zero s)) [
  | inl full ↦ joined_full x y z zero s joined full
  | inr none ↦ let empty = ap length (pieces_of-none_held z s none) in omega (arith, empty)
]
count_joined x y z (suc k) s joined = elim (bool_cases (is_full z (suc k) s)) [
  | inl full ↦ joined_full x y z (suc k) s joined full
  | inr part ↦
      let all = halves_count z k s part in
      let left = halves_count x k s (not_full x z (suc k) s joined.left part) in
      let right = halves_count y k s (not_full y z (suc k) s joined.right part) in
      let first = count_joined x y z k s joined in
      let second = count_joined x y z k (s + 2 ^ k) joined in
      omega (arith, all, left, right, first, second)
]
