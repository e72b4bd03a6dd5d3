-- The top over the pieces of an upload that is whole.
use Rattle.std.proofs.Common.{◌≡◌, ℕ, zero, suc, ◌+◌, ◌-◌, ◌*◌, ◌^◌, ◌<◌, ◌≤◌, ◌++◌, List, [], ◌∷◌, length, map, take, drop, Some, None, nat_lt, true, false, arith, refl, ap, ap₂, sym, ◌∙◌, inl, inr}
use Rattle.std.specs.Prelude.{min}
use Rattle.std.specs.Map.{values_of}
use Rattle.std.proofs.lemmas.Bool.Decides.{nat_tests}
use Rattle.std.proofs.lemmas.List.{length-take, length-drop, drop-drop, append-nil, take_all}
use Rattle.std.proofs.lemmas.Nat.{pow_pos}
use Rattle.std.proofs.Math.Nat.{two-pow-succ}
use Rattle.std.proofs.Math.Seq.{take-add}
use Rattle.b3_core.specs.Laws.{NeighboursJoin}
use Rattle.b3_core.specs.Modes.{hash_mode}
use Rattle.b3_core.specs.Tree.{tree_top}
use Rattle.b3_forest.specs.Subtrees.{Subtrees, Keeps, piece_from}
use Rattle.b3_forest.specs.inner.Subtrees.{AreChunks, AreWhole, is_held, subtree_of, over, top_before, top_over}
use Rattle.b3_forest.specs.Parts.{HeldPart, chunk_in}
use Rattle.b3_forest.specs.Pieces.{content_at, is_full, piece_at, pieces_of, root_level}
use Rattle.b3_forest.specs.Uploads.{content_of}
use Rattle.b3_forest.specs.declared.piece.Subtree.{Subtree}
use Rattle.b3_forest.specs.declared.piece.Piece.{Piece}
use Rattle.b3_forest.proofs.Canonical.{AreSorted, forest_is_halved}
use Rattle.b3_forest.proofs.Chunks.{content_most, content_some, content_whole, full_at, full_from}
use Rattle.b3_forest.proofs.Contents.{IsWhole, whole_from}
use Rattle.b3_forest.proofs.HeldParts.{held_after, placed_chunks}
use Rattle.b3_forest.proofs.OneForest.{bool_cases, full_one, pieces_of-none_held}
use Rattle.b3_forest.proofs.Ranges.{pieces_of-full, pieces_of-halves}

-- what is held comes first
abbrev pub IsFirst : (ℕ → List ℕ) → Type 0
IsFirst x = (i j : ℕ) → i ≤ j → is_held x j ≡ true → is_held x i ≡ true

after_gap : (x : ℕ → List ℕ) (i j : ℕ) → IsFirst x → is_held x i ≡ false → i ≤ j → is_held x j ≡ false
after_gap x i j first gap after = elim (bool_cases (is_held x j)) [
  | inr none ↦ none
  | inl held ↦ let bad = first i j after held in cc
]

-- ---- a range of which nothing is held

record IsEmpty (x : ℕ → List ℕ) (k s : ℕ) : Type 0 where
  pieces : pieces_of x k s ≡ []
  content : content_at x k s ≡ []

empty_chunk : (b : List ℕ) → nat_lt 0 (length b) ≡ false → b ≡ []
empty_chunk [] none = refl
empty_chunk (y ∷ b) none = let some : nat_lt 0 (length (y ∷ b)) ≡ true = grind (arith, nat_tests) in cc

nothing : (x : ℕ → List ℕ) (k s : ℕ) → IsFirst x → is_held x s ≡ false → IsEmpty x k s
unfolding content_at
nothing x zero s first none = record { pieces = pieces_of-none_held x s (full_one x s ∙ none); content = empty_chunk (x s) none }
nothing x (suc k) s first none =
    let some = pow_pos k in
    let wide = pow_pos (suc k) in
    let left = nothing x k s first none in
    let right = nothing x k (s + 2 ^ k) first (after_gap x s (s + 2 ^ k) first none (omega arith)) in
    let part : is_full x (suc k) s ≡ false = elim (bool_cases (is_full x (suc k) s)) [
      | inr part ↦ part
      | inl full ↦ let held = full_at x (suc k) s s full (omega arith) (omega (arith, wide)) in cc
    ] in
    record {
      pieces = pieces_of-halves x k s part ∙ ap₂ (λ (l r : List Piece). l ++ r) left.pieces right.pieces;
      content = ap₂ (λ (l r : List ℕ). l ++ r) left.content right.content;
    }

-- ---- the top over the pieces of a range

subtrees : List Piece → List Subtree
subtrees ps = map subtree_of ps

one_top : (x : ℕ → List ℕ) (k s : ℕ) → is_full x k s ≡ true → top_over (map subtree_of (pieces_of x k s)) ≡ Some (tree_top (content_at x k s) s hash_mode)
unfolding top_before
one_top x k s full = ap (λ (ps : List Piece). top_over (map subtree_of ps)) (pieces_of-full x k s full)

pub range_top : (n : ℕ) (x : ℕ → List ℕ) (k s : ℕ) → NeighboursJoin → AreChunks n x → IsFirst x → is_held x s ≡ true
    → top_over (map subtree_of (pieces_of x k s)) ≡ Some (tree_top (content_at x k s) s hash_mode)
unfolding content_at top_before
range_top n x zero s join chunks first held = one_top x zero s (full_one x s ∙ held)
range_top n x (suc k) s join chunks first held = elim (bool_cases (is_full x (suc k) s)) [
  | inl full ↦ one_top x (suc k) s full
  | inr part ↦
      let m = s + 2 ^ k in
      let a = content_at x k s in
      let b = content_at x k m in
      let halves = ap (λ (ps : List Piece). top_over (map subtree_of ps)) (pieces_of-halves x k s part) in
      elim (bool_cases (is_held x m)) [
        | inr none ↦
            let empty = nothing x k m first none in
            let left = range_top n x k s join chunks first held in
            halves ∙ ap (λ (r : List Piece). top_over (map subtree_of (pieces_of x k s ++ r))) empty.pieces
            ∙ ap (λ (ps : List Piece). top_over (map subtree_of ps)) (append-nil (pieces_of x k s)) ∙ left
            ∙ ap (λ (c : List ℕ). Some (tree_top c s hash_mode)) (sym (ap (λ (r : List ℕ). a ++ r) empty.content ∙ append-nil a))
        | inl more ↦
            let full = full_from x k s (λ i after before. first i m (omega (arith, before)) more) in
            let right = range_top n x k m join chunks first more in
            let joined = join a b s k hash_mode (content_whole n x k s m chunks full more (omega arith)) (content_some x k m more) (content_most n x k m chunks) in
            halves ∙ ap (λ (l : List Piece). top_over (map subtree_of (l ++ pieces_of x k m))) (pieces_of-full x k s full)
            ∙ ap (over (subtree_of (piece_at x k s))) right ∙ ap Some joined
      ]
]

-- ---- the whole upload

content_all : (x : ℕ → List ℕ) (b : List ℕ) (k s : ℕ) → ((i : ℕ) → x i ≡ take 1024 (drop (1024 * i) b)) → content_at x k s ≡ take (1024 * 2 ^ k) (drop (1024 * s) b)
unfolding content_at
content_all x b zero s chunks = chunks s
content_all x b (suc k) s chunks =
    let two = two-pow-succ k in
    let n = 1024 * 2 ^ k in
    let left = content_all x b k s chunks in
    let right = content_all x b k (s + 2 ^ k) chunks in
    let width : 1024 * 2 ^ suc k ≡ n + n = omega (arith, two) in
    let place : 1024 * s + n ≡ 1024 * (s + 2 ^ k) = omega arith in
    ap₂ (λ (l r : List ℕ). l ++ r) left right
    ∙ ap (λ i. take n (drop (1024 * s) b) ++ take n (drop i b)) (sym place)
    ∙ ap (λ (r : List ℕ). take n (drop (1024 * s) b) ++ take n r) (sym (drop-drop n (1024 * s) b))
    ∙ sym (take-add n n (drop (1024 * s) b))
    ∙ ap (λ i. take i (drop (1024 * s) b)) (sym width)

chunk_held_iff : (b : List ℕ) (i : ℕ) → (1024 * i < length b → nat_lt 0 (length (take 1024 (drop (1024 * i) b))) ≡ true)
    × (nat_lt 0 (length (take 1024 (drop (1024 * i) b))) ≡ true → 1024 * i < length b)
chunk_held_iff b i =
    let len : length (take 1024 (drop (1024 * i) b)) ≡ min 1024 (length b - 1024 * i) =
    omega (arith, length-take 1024 (drop (1024 * i) b), length-drop (1024 * i) b) in (
      (λ before. let some : 0 < length (take 1024 (drop (1024 * i) b)) = omega (arith, len, before) in grind (arith, nat_tests, some)),
      (λ held. let some : 0 < length (take 1024 (drop (1024 * i) b)) = grind (arith, nat_tests, held) in omega (arith, len, some)),
    )

pub whole_upload : (n : ℕ) (ps : List HeldPart) (es : Subtrees) → AreWhole n ps es → IsWhole n 0 ps
whole_upload n ps es whole = let all = whole.all in whole_from n 0 ps (omega arith) whole.keeps.placed (omega (arith, all))

values_are_subtrees : (es : Subtrees) → values_of es ≡ map subtree_of (map piece_from es)
values_are_subtrees [] = refl
values_are_subtrees (e ∷ es) = ap (λ (ns : List Subtree). e.1 ∷ ns) (values_are_subtrees es)

pub top_of_pieces : (n : ℕ) (ps : List HeldPart) (es : Subtrees) → AreSorted es → Keeps n ps es → top_over (values_of es) ≡ top_over (map subtree_of (pieces_of (chunk_in ps) root_level 0))
top_of_pieces n ps es sorted keeps = ap top_over (values_are_subtrees es ∙ ap (map subtree_of) (forest_is_halved (chunk_in ps) es sorted keeps.forest))

drop_zero : (b : List ℕ) → drop 0 b ≡ b
drop_zero b = refl

pub empty_top : (n : ℕ) (ps : List HeldPart) (es : Subtrees) → AreSorted es → Keeps n ps es → IsWhole n 0 ps → n ≡ 0 → top_over (values_of es) ≡ None
unfolding top_before
empty_top n ps es sorted keeps whole none =
    let x = chunk_in ps in
    let placed = keeps.placed in
    let gap : (i : ℕ) → is_held x i ≡ false = λ i. elim (bool_cases (is_held x i)) [
      | inr no_chunk ↦ no_chunk
      | inl held ↦ let low = (held_after n 0 i ps placed held).1 in absurd (omega (arith, low, none))
    ] in
    let empty = nothing x root_level 0 (λ i j low held. let bad = gap j in cc) (gap 0) in
    top_of_pieces n ps es sorted keeps ∙ ap (λ (l : List Piece). top_over (map subtree_of l)) empty.pieces

pub whole_top : (n : ℕ) (ps : List HeldPart) (es : Subtrees) → NeighboursJoin → AreSorted es → Keeps n ps es → IsWhole n 0 ps → 0 < n
    → top_over (values_of es) ≡ Some (tree_top (content_of ps) 0 hash_mode)
whole_top n ps es join sorted keeps whole some =
    let x = chunk_in ps in
    let b = content_of ps in
    let chunks : (i : ℕ) → x i ≡ take 1024 (drop (1024 * i) b) = λ i.
    let place : 1024 * i - 0 ≡ 1024 * i = omega arith in
    whole.chunks i (omega arith) ∙ ap (λ j. take 1024 (drop j b)) place in
    let sum = whole.len in
    let len : length b ≡ n = omega (arith, sum) in
    let held : (i : ℕ) → 1024 * i < n → is_held x i ≡ true = λ i before.
    ap (λ (c : List ℕ). nat_lt 0 (length c)) (chunks i) ∙ (chunk_held_iff b i).0 (omega (arith, before, len)) in
    let first : IsFirst x = λ i j low is. let before = (chunk_held_iff b j).1 (ap (λ (c : List ℕ). nat_lt 0 (length c)) (sym (chunks j)) ∙ is) in held i (omega (arith, before, low, len)) in
    let content : content_at x root_level 0 ≡ b = content_all x b root_level 0 chunks ∙ take_all (1024 * 2 ^ root_level) (drop 0 b) (omega (arith, len, keeps.most, length-drop 0 b)) ∙ drop_zero b in
    top_of_pieces n ps es sorted keeps
    ∙ range_top n x root_level 0 join (placed_chunks n 0 ps keeps.placed) first (held 0 (omega (arith, some)))
    ∙ ap (λ (c : List ℕ). Some (tree_top c 0 hash_mode)) content
