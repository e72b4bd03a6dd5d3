-- Merging two halves.
use Rattle.std.proofs.Common.{◌≡◌, ℕ, suc, ◌+◌, ◌^◌, ◌<◌, ◌≤◌, ◌⊎◌, List, ◌∷◌, Some, arith, refl, ap, ap₂, subst, sym, ◌∙◌, inl, inr}
use Rattle.std.specs.Prelude.{◌≢◌}
use Rattle.std.proofs.Math.Nat.{two-pow-succ}
use Rattle.b3_core.specs.Laws.{NeighboursJoin}
use Rattle.b3_core.specs.Modes.{hash_mode}
use Rattle.b3_core.specs.Tree.{parent_top}
use Rattle.b3_forest.specs.Forests.{IsPiece}
use Rattle.b3_forest.specs.Subtrees.{Subtrees, AreForest, AreHalvesAt, ArePieces, AreSettled, HasChunk, IsAmong, subtree_at, piece_from}
use Rattle.b3_forest.specs.inner.Subtrees.{AreChunks, IsAlone, IsMerged, IsPair}
use Rattle.b3_forest.specs.Pieces.{max_chunks}
use Rattle.b3_forest.specs.declared.subtrees.Halves.{Halves}
use Rattle.b3_forest.specs.declared.piece.Subtree.{Subtree}
use Rattle.b3_forest.proofs.Chunks.{halves_piece}
use Rattle.b3_forest.proofs.Maps.{same_or, three}

pub merged_subtree : Halves → Subtree
merged_subtree h = record { level = suc h.level; top = parent_top h.left_top h.right_top hash_mode }

pub some_same : (n m : Subtree) → Some n ≡ Some m → n ≡ m
some_same n m same = cc

-- what a look-up finds after a merge
Found : Subtrees → Halves → ℕ → Subtree → Type 0
Found es h s m = ((s ≡ h.left) × (m ≡ merged_subtree h)) ⊎ ((s ≢ h.left) × (s ≢ h.right) × (subtree_at es s ≡ Some m))

found : (es fs : Subtrees) (h : Halves) (s : ℕ) (m : Subtree) → IsMerged es fs h → subtree_at fs s ≡ Some m → Found es h s m
unfolding Found merged_subtree
found es fs h s m merged is = elim (same_or s h.left) [
  | inl left ↦ inl (left, some_same m _ (sym is ∙ ap (subtree_at fs) left ∙ merged.at_left))
  | inr not_left ↦ elim (same_or s h.right) [
    | inl right ↦ let none = sym is ∙ ap (subtree_at fs) right ∙ merged.at_right in cc
    | inr not_right ↦ inr (not_left, not_right, sym (merged.others s not_left not_right) ∙ is)
  ]
]

-- the two halves, as pieces
left_subtree : Halves → Subtree
left_subtree h = record { level = h.level; top = h.left_top }

right_subtree : Halves → Subtree
right_subtree h = record { level = h.level; top = h.right_top }

merged_piece : (n : ℕ) (x : ℕ → List ℕ) (es : Subtrees) (first : ℕ) (h : Halves) → NeighboursJoin → AreChunks n x → ArePieces x es → IsPair es first h
    → IsPiece x (piece_from (h.left, merged_subtree h))
unfolding merged_subtree left_subtree right_subtree
merged_piece n x es first h join chunks pieces pair =
    halves_piece n x (piece_from (h.left, left_subtree h)) (piece_from (h.right, right_subtree h)) join chunks
    (pieces.lawful h.left (left_subtree h) pair.is_left) (pieces.lawful h.right (right_subtree h) pair.is_right) refl pair.next pair.aligned

merged_within : (x : ℕ → List ℕ) (es : Subtrees) (first : ℕ) (h : Halves) → ArePieces x es → IsPair es first h → h.left + 2 ^ suc h.level ≤ max_chunks
unfolding right_subtree
merged_within x es first h pieces pair =
    let two = two-pow-succ h.level in
    let right = pieces.within h.right (right_subtree h) pair.is_right in
    let next = pair.next in
    omega (arith, two, right, next)

-- a piece that begins after the left half begins after both
after_both : (x : ℕ → List ℕ) (es : Subtrees) (first t : ℕ) (m : Subtree) (h : Halves) → ArePieces x es → IsPair es first h → subtree_at es t ≡ Some m
    → t ≢ h.right → h.left < t → h.left + 2 ^ suc h.level ≤ t
unfolding left_subtree right_subtree
after_both x es first t m h pieces pair is not_right following =
    let two = two-pow-succ h.level in
    let left = pieces.apart h.left t (left_subtree h) m pair.is_left is following in
    let next = pair.next in
    elim (three h.right t) [
      | inl after ↦ let right = pieces.apart h.right t (right_subtree h) m pair.is_right is after in omega (arith, two, right, next)
      | inr (inl same) ↦ absurd (not_right (sym same))
      | inr (inr before) ↦ absurd (omega (arith, left, next, before))
    ]

merged_pieces : (n : ℕ) (x : ℕ → List ℕ) (es fs : Subtrees) (first : ℕ) (h : Halves) → NeighboursJoin → AreChunks n x → ArePieces x es
    → IsPair es first h → IsMerged es fs h → ArePieces x fs
unfolding Found merged_subtree left_subtree
merged_pieces n x es fs first h join chunks pieces pair merged = record {
  lawful = λ s m is. elim (found es fs h s m merged is) [
    | inl at ↦ subst (IsPiece x) (ap₂ (λ (i : ℕ) (k : Subtree). piece_from (i, k)) (sym at.0) (sym at.1)) (merged_piece n x es first h join chunks pieces pair)
    | inr other ↦ pieces.lawful s m other.2
  ];
  within = λ s m is. elim (found es fs h s m merged is) [
    | inl at ↦ subst (λ i. i ≤ max_chunks) (ap₂ (λ (i : ℕ) (k : Subtree). i + 2 ^ k.level) (sym at.0) (sym at.1)) (merged_within x es first h pieces pair)
    | inr other ↦ pieces.within s m other.2
  ];
  apart = λ s t m k is_s is_t before. elim (found es fs h s m merged is_s) [
    | inl at ↦ elim (found es fs h t k merged is_t) [
      | inl other ↦ absurd (omega (arith, before, at.0, other.0))
      | inr other ↦
          let level : m.level ≡ suc h.level = ap (λ (w : Subtree). w.level) at.1 in
          let wide : 2 ^ m.level ≡ 2 ^ suc h.level = ap (λ i. 2 ^ i) level in
          let both = after_both x es first t k h pieces pair other.2 other.1 (omega (arith, before, at.0)) in
          omega (arith, both, wide, at.0)
    ]
    | inr here ↦ elim (found es fs h t k merged is_t) [
      | inl other ↦
          let below = pieces.apart s h.left m (left_subtree h) here.2 pair.is_left (omega (arith, before, other.0)) in
          omega (arith, below, other.0)
      | inr other ↦ pieces.apart s t m k here.2 other.2 before
    ]
  ];
}

-- a chunk in a piece is in one after a merge
chunk_kept : (es fs : Subtrees) (first i : ℕ) (h : Halves) → IsPair es first h → IsMerged es fs h → HasChunk es i → HasChunk fs i
unfolding merged_subtree
chunk_kept es fs first i h pair merged has =
    let two = two-pow-succ h.level in
    let next = pair.next in
    elim (same_or has.first h.left) [
      | inl left ↦
          let subtree : has.subtree ≡ record { level = h.level; top = h.left_top } = some_same _ _ (sym has.is ∙ ap (subtree_at es) left ∙ pair.is_left) in
          let wide : 2 ^ has.subtree.level ≡ 2 ^ h.level = ap (λ (w : Subtree). 2 ^ w.level) subtree in
          record { first = h.left; subtree = merged_subtree h; is = merged.at_left; after = omega (arith, left, has.after); before = omega (arith, two, wide, left, has.before) }
      | inr not_left ↦ elim (same_or has.first h.right) [
        | inl right ↦
            let subtree : has.subtree ≡ record { level = h.level; top = h.right_top } = some_same _ _ (sym has.is ∙ ap (subtree_at es) right ∙ pair.is_right) in
            let wide : 2 ^ has.subtree.level ≡ 2 ^ h.level = ap (λ (w : Subtree). 2 ^ w.level) subtree in
            record { first = h.left; subtree = merged_subtree h; is = merged.at_left; after = omega (arith, right, next, has.after); before = omega (arith, two, wide, right, next, has.before) }
        | inr not_right ↦ record { first = has.first; subtree = has.subtree; is = merged.others has.first not_left not_right ∙ has.is; after = has.after; before = has.before }
      ]
    ]

-- the first of the chunks may go, where it is not this one
other_among : (s first : ℕ) (ds : List ℕ) → s ≢ first → IsAmong s (first ∷ ds) → IsAmong s ds
other_among s first ds apart (inl same) = absurd (apart same)
other_among s first ds apart (inr later) = later

merged_settled : (es fs : Subtrees) (first : ℕ) (ds : List ℕ) (h : Halves) → IsPair es first h → IsMerged es fs h → AreSettled (first ∷ ds) es → AreSettled (h.left ∷ ds) fs
unfolding Found
merged_settled es fs first ds h pair merged settled s p =
    elim (found es fs h s p.left merged p.is_left) [
      | inl at ↦ inl (inl at.0)
      | inr here ↦ elim (found es fs h (s + 2 ^ p.left.level) p.right merged p.is_right) [
        | inl at ↦ inr (inl at.0)
        | inr there ↦
            let old : AreHalvesAt es s = record { left = p.left; right = p.right; is_left = here.2; is_right = there.2; level = p.level; aligned = p.aligned } in
            let not_first : (t : ℕ) → t ≢ h.left → t ≢ h.right → t ≢ first = λ t not_left not_right same.
            elim pair.one [ inl left ↦ not_left (same ∙ left) | inr right ↦ not_right (same ∙ right) ] in
            elim (settled s old) [
              | inl low ↦ inl (inr (other_among s first ds (not_first s here.0 here.1) low))
              | inr high ↦ inr (inr (other_among _ first ds (not_first _ there.0 there.1) high))
            ]
      ]
    ]

-- a canonical forest but for halves at `first` is, after their merge, one but for halves at the result
pub merged_forest : (n : ℕ) (x : ℕ → List ℕ) (ds : List ℕ) (es fs : Subtrees) (first : ℕ) (h : Halves) → NeighboursJoin → AreChunks n x
    → AreForest x (first ∷ ds) es → IsPair es first h → IsMerged es fs h → AreForest x (h.left ∷ ds) fs
merged_forest n x ds es fs first h join chunks forest pair merged = record {
  pieces = merged_pieces n x es fs first h join chunks forest.pieces pair merged;
  all = λ i held low. chunk_kept es fs first i h pair merged (forest.all i held low);
  settled = merged_settled es fs first ds h pair merged forest.settled;
}

-- where none begins at `first`, nothing is left to merge there
pub alone_forest : (x : ℕ → List ℕ) (ds : List ℕ) (es : Subtrees) (first : ℕ) → AreForest x (first ∷ ds) es → IsAlone es first → AreForest x ds es
alone_forest x ds es first forest alone = record {
  pieces = forest.pieces;
  all = forest.all;
  settled = λ s p. elim (forest.settled s p) [
    | inl low ↦ inl (other_among s first ds (λ same. (alone s p).0 (sym same)) low)
    | inr high ↦ inr (other_among _ first ds (λ same. (alone s p).1 (sym same)) high)
  ];
}
