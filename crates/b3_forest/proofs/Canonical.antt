-- The subtrees of a canonical forest are the pieces that halving finds.
use Rattle.std.proofs.Common.{◌≡◌, ℕ, ◌+◌, ◌^◌, ◌<◌, ◌≤◌, List, [], ◌∷◌, length, map, Some, Less, arith, refl, ap, sym, ◌∙◌, inl, inr}
use Rattle.std.specs.Prelude.{◌≢◌}
use Rattle.std.specs.List.{AllByRecursion}
use Rattle.std.specs.List.Sorted.{IsStrictlySortedBy}
use Rattle.std.specs.Map.{keys_of}
use Rattle.std.specs.Ordering.{nat_cmp}
use Rattle.std.proofs.lemmas.Bool.Decides.{nat_tests}
use Rattle.std.proofs.lemmas.List.{length-map}
use Rattle.b3_forest.specs.Forests.{IsRow, Covers, NoHalves, IsForest}
use Rattle.b3_forest.specs.Subtrees.{Subtrees, AreForest, AreHalvesAt, ArePieces, AreSettled, subtree_at, piece_from, pieces_in}
use Rattle.b3_forest.specs.Pieces.{max_chunks, piece_count, pieces_of, root_level}
use Rattle.b3_forest.specs.declared.piece.Subtree.{Subtree}
use Rattle.b3_forest.proofs.Maps.{at_same, at_other, same_or}
use Rattle.b3_forest.proofs.Merging.{some_same}
use Rattle.b3_forest.proofs.OneForest.{one_forest}

abbrev pub AreSorted : Subtrees → Type 0
AreSorted es = IsStrictlySortedBy nat_cmp (keys_of es)

-- ---- an entry and those after it

pub head_at : (e : ℕ × Subtree) (es : Subtrees) → subtree_at (e ∷ es) e.0 ≡ Some e.1
head_at e es = rw (at_same e.0) refl

pub tail_at : (e : ℕ × Subtree) (es : Subtrees) (s : ℕ) → s ≢ e.0 → subtree_at (e ∷ es) s ≡ subtree_at es s
tail_at e es s apart = rw (at_other s e.0 apart) refl

-- a key that is found is after those before
following : (k s : ℕ) (es : Subtrees) (n : Subtree) → AllByRecursion (λ y. nat_cmp k y ≡ Less) (keys_of es) → subtree_at es s ≡ Some n → k < s
following k s [] n all is = cc
following k s (e ∷ es) n all is = elim (same_or s e.0) [
  | inl same ↦ let less = all.0 in grind (arith, nat_tests)
  | inr other ↦ following k s es n all.1 (sym (tail_at e es s other) ∙ is)
]

pub in_tail : (e : ℕ × Subtree) (es : Subtrees) (s : ℕ) (n : Subtree) → AreSorted (e ∷ es) → subtree_at es s ≡ Some n → subtree_at (e ∷ es) s ≡ Some n
unfolding IsStrictlySortedBy
in_tail e es s n sorted is =
    let less = following e.0 s es n sorted.0 is in
    tail_at e es s (λ same. omega (arith, less, same)) ∙ is

tail_pieces : (x : ℕ → List ℕ) (e : ℕ × Subtree) (es : Subtrees) → AreSorted (e ∷ es) → ArePieces x (e ∷ es) → ArePieces x es
tail_pieces x e es sorted pieces = record {
  lawful = λ s n is. pieces.lawful s n (in_tail e es s n sorted is);
  within = λ s n is. pieces.within s n (in_tail e es s n sorted is);
  apart = λ s t n m is_s is_t before. pieces.apart s t n m (in_tail e es s n sorted is_s) (in_tail e es t m sorted is_t) before;
}

tail_settled : (e : ℕ × Subtree) (es : Subtrees) → AreSorted (e ∷ es) → AreSettled [] (e ∷ es) → AreSettled [] es
tail_settled e es sorted settled s h = settled s (record {
  left = h.left;
  right = h.right;
  is_left = in_tail e es s h.left sorted h.is_left;
  is_right = in_tail e es (s + 2 ^ h.left.level) h.right sorted h.is_right;
  level = h.level;
  aligned = h.aligned;
})

-- ---- the list of pieces

row_of : (x : ℕ → List ℕ) (a : ℕ) (es : Subtrees) → AreSorted es → ArePieces x es → ((s : ℕ) (n : Subtree) → subtree_at es s ≡ Some n → a ≤ s)
    → IsRow x max_chunks a (map piece_from es)
unfolding IsStrictlySortedBy
row_of x a [] sorted pieces from = tt
row_of x a (e ∷ es) sorted pieces from =
    let here = head_at e es in (
      from e.0 e.1 here,
      pieces.within e.0 e.1 here,
      pieces.lawful e.0 e.1 here,
      row_of x (e.0 + 2 ^ e.1.level) es sorted.1 (tail_pieces x e es sorted pieces)
          (λ s n is. pieces.apart e.0 s e.1 n here (in_tail e es s n sorted is) (following e.0 s es n sorted.0 is)),
    )

covers_of : (es : Subtrees) (s i : ℕ) (n : Subtree) → subtree_at es s ≡ Some n → s ≤ i → i < s + 2 ^ n.level → Covers (map piece_from es) i
covers_of [] s i n is after before = cc
covers_of (e ∷ es) s i n is after before = elim (same_or s e.0) [
  | inl same ↦
      let subtree : n ≡ e.1 = some_same n e.1 (sym is ∙ ap (subtree_at (e ∷ es)) same ∙ head_at e es) in
      let wide : 2 ^ n.level ≡ 2 ^ e.1.level = ap (λ (w : Subtree). 2 ^ w.level) subtree in
      inl (omega (arith, same, after), omega (arith, same, before, wide))
  | inr other ↦ inr (covers_of es s i n (sym (tail_at e es s other) ∙ is) after before)
]

none_settled : (es : Subtrees) (s : ℕ) → AreSettled [] es → AreHalvesAt es s → ⊥
none_settled es s settled h = elim (settled s h) [ inl w ↦ w | inr w ↦ w ]

no_halves_of : (es : Subtrees) → AreSorted es → AreSettled [] es → NoHalves (map piece_from es)
unfolding IsStrictlySortedBy
no_halves_of [] sorted settled = tt
no_halves_of (e ∷ []) sorted settled = tt
no_halves_of (e ∷ f ∷ es) sorted settled = (
  (λ halves. none_settled (e ∷ f ∷ es) e.0 settled (record {
    left = e.1;
    right = f.1;
    is_left = head_at e (f ∷ es);
    is_right = ap (subtree_at (e ∷ f ∷ es)) (sym halves.next) ∙ in_tail e (f ∷ es) f.0 f.1 sorted (head_at f es);
    level = halves.level;
    aligned = halves.aligned;
  })),
  no_halves_of (f ∷ es) sorted.1 (tail_settled e (f ∷ es) sorted settled),
)

pub forest_is_canonical : (x : ℕ → List ℕ) (es : Subtrees) → AreSorted es → AreForest x [] es → IsForest x root_level 0 (pieces_in es)
forest_is_canonical x es sorted forest = record {
  row = row_of x 0 es sorted forest.pieces (λ s n is. omega arith);
  covers = λ i after before held. let has = forest.all i held before in covers_of es has.first i has.subtree has.is has.after has.before;
  no_halves = no_halves_of es sorted forest.settled;
}

-- so the subtrees are what halving finds
pub forest_is_halved : (x : ℕ → List ℕ) (es : Subtrees) → AreSorted es → AreForest x [] es → map piece_from es ≡ pieces_of x root_level 0
forest_is_halved x es sorted forest = one_forest x root_level 0 0 (map piece_from es) (omega arith) (forest_is_canonical x es sorted forest)

pub forest_count : (x : ℕ → List ℕ) (es : Subtrees) → AreSorted es → AreForest x [] es → length es ≡ piece_count x
forest_count x es sorted forest = sym (length-map es piece_from) ∙ ap length (forest_is_halved x es sorted forest)
