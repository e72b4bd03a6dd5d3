-- Putting the pieces of a part among those of other parts.
use Rattle.std.proofs.Common.{◌≡◌, ℕ, ◌+◌, ◌^◌, ◌<◌, ◌≤◌, ◌⊎◌, List, [], ◌∷◌, length, Option, Some, None, true, false, arith, refl, ap, ap₂, subst, sym, ◌∙◌, inl, inr}
use Rattle.std.specs.Prelude.{◌≢◌}
use Rattle.std.specs.BTreeMap.{insert_entry, is_at}
use Rattle.std.specs.Map.{remove_entry}
use Rattle.std.specs.Ordering.{nat_cmp}
use Rattle.std.proofs.lemmas.Bool.{cases_lt}
use Rattle.std.proofs.lemmas.Nat.{pow_pos}
use Rattle.b3_forest.specs.Forests.{IsPiece, IsRow, Covers, IsForest, piece_end}
use Rattle.b3_forest.specs.Subtrees.{Subtrees, AreForest, ArePieces, HasChunk, IsAmong, subtree_at, piece_from}
use Rattle.b3_forest.specs.inner.Subtrees.{AreFresh, firsts, is_held, subtree_of, with_subtrees}
use Rattle.b3_forest.specs.Pieces.{max_chunks, root_level}
use Rattle.b3_forest.specs.declared.piece.Subtree.{Subtree}
use Rattle.b3_forest.specs.declared.piece.Piece.{Piece}
use Rattle.b3_forest.proofs.Chunks.{Extends, full_at, piece_same}
use Rattle.b3_forest.proofs.Maps.{put_here, put_apart, put_and_taken, length_put, same_or}
use Rattle.b3_forest.proofs.Merging.{some_same}

-- z is what is held of x and of y, which have no chunk in common
pub record IsUnionOf (x y z : ℕ → List ℕ) : Type 0 where
  pub left : Extends x z
  pub right : Extends y z
  pub apart : (i : ℕ) → is_held x i ≡ true → is_held y i ≡ false
  pub only : (i : ℕ) → is_held z i ≡ true → (is_held x i ≡ true) ⊎ (is_held y i ≡ true)

-- pieces of both, where those of y are before chunk a
record Grows (y z : ℕ → List ℕ) (a : ℕ) (es : Subtrees) : Type 0 where
  pieces : ArePieces z es
  below : (i : ℕ) → HasChunk es i → is_held y i ≡ true → i < a

grows_from : (x y z : ℕ → List ℕ) (a : ℕ) (es : Subtrees) → IsUnionOf x y z → ArePieces x es → Grows y z a es
grows_from x y z a es joined pieces = record {
  pieces = record {
    lawful = λ s n is. piece_same x z (piece_from (s, n)) joined.left (pieces.lawful s n is);
    within = pieces.within;
    apart = pieces.apart;
  };
  below = λ i has held.
      let piece = pieces.lawful has.first has.subtree has.is in
      let other = joined.apart i (full_at x has.subtree.level has.first i piece.full has.after has.before) in
      cc;
}

-- ---- one piece more

fresh : (y z : ℕ → List ℕ) (a : ℕ) (es : Subtrees) (p : Piece) → Grows y z a es → IsPiece y p → a ≤ p.first → subtree_at es p.first ≡ None
fresh y z a es p grows piece following = go (subtree_at es p.first) refl
  where
    go : (found : Option Subtree) → subtree_at es p.first ≡ found → subtree_at es p.first ≡ None
    go None is = is
    go (Some n) is =
        let width = pow_pos n.level in
        let own = pow_pos p.level in
        let held = full_at y p.level p.first p.first piece.full (omega arith) (omega (arith, own)) in
        let has : HasChunk es p.first = record { first = p.first; subtree = n; is = is; after = omega arith; before = omega (arith, width) } in
        absurd (omega (arith, grows.below p.first has held, following))

-- what a look-up finds after a piece more
Found : Subtrees → Piece → ℕ → Subtree → Type 0
Found es p s m = ((s ≡ p.first) × (m ≡ subtree_of p)) ⊎ ((s ≢ p.first) × (subtree_at es s ≡ Some m))

put : Piece → Subtrees → Subtrees
put p es = insert_entry nat_cmp es p.first (subtree_of p)

found : (es : Subtrees) (p : Piece) (s : ℕ) (m : Subtree) → subtree_at (put p es) s ≡ Some m → Found es p s m
unfolding Found put
found es p s m is = elim (same_or s p.first) [
  | inl same ↦ inl (same, some_same m _ (sym is ∙ ap (subtree_at (put p es)) same ∙ put_here es p.first (subtree_of p)))
  | inr other ↦ inr (other, sym (put_apart es p.first s (subtree_of p) other) ∙ is)
]

-- a piece that begins at a chunk of p, or in which p begins
meets : (y z : ℕ → List ℕ) (a i : ℕ) (es : Subtrees) (p : Piece) → Grows y z a es → IsPiece y p → a ≤ p.first → HasChunk es i → p.first ≤ i → i < piece_end p → ⊥
meets y z a i es p grows piece following has after before =
    omega (arith, grows.below i has (full_at y p.level p.first i piece.full after before), following, after)

grows_by : (x y z : ℕ → List ℕ) (a : ℕ) (es : Subtrees) (p : Piece) → IsUnionOf x y z → Grows y z a es → IsPiece y p → a ≤ p.first → piece_end p ≤ max_chunks
    → Grows y z (piece_end p) (put p es)
unfolding Found
grows_by x y z a es p joined grows piece following most = record {
  pieces = record {
    lawful = λ s n is. elim (found es p s n is) [
      | inl at ↦ subst (IsPiece z) (ap₂ (λ (i : ℕ) (k : Subtree). piece_from (i, k)) (sym at.0) (sym at.1)) (piece_same y z p joined.right piece)
      | inr other ↦ grows.pieces.lawful s n other.1
    ];
    within = λ s n is. elim (found es p s n is) [
      | inl at ↦ subst (λ i. i ≤ max_chunks) (ap₂ (λ (i : ℕ) (k : Subtree). i + 2 ^ k.level) (sym at.0) (sym at.1)) most
      | inr other ↦ grows.pieces.within s n other.1
    ];
    apart = λ s t n m is_s is_t before. elim (found es p s n is_s) [
      | inl at ↦ elim (found es p t m is_t) [
        | inl same ↦ absurd (omega (arith, before, at.0, same.0))
        | inr other ↦
            let wide : 2 ^ n.level ≡ 2 ^ p.level = ap (λ (w : Subtree). 2 ^ w.level) at.1 in
            let width = pow_pos m.level in
            let has : HasChunk es t = record { first = t; subtree = m; is = other.1; after = omega arith; before = omega (arith, width) } in
            elim (cases_lt t (piece_end p)) [
              | inl inside ↦ absurd (meets y z a t es p grows piece following has (omega (arith, before, at.0)) inside)
              | inr outside ↦ omega (arith, outside, wide, at.0)
            ]
      ]
      | inr here ↦ elim (found es p t m is_t) [
        | inl at ↦
            let own = pow_pos p.level in
            elim (cases_lt p.first (s + 2 ^ n.level)) [
              | inl inside ↦
                  let has : HasChunk es p.first = record { first = s; subtree = n; is = here.1; after = omega (arith, before, at.0); before = inside } in
                  absurd (meets y z a p.first es p grows piece following has (omega arith) (omega (arith, own)))
              | inr outside ↦ omega (arith, outside, at.0)
            ]
        | inr other ↦ grows.pieces.apart s t n m here.1 other.1 before
      ]
    ];
  };
  below = λ i has held. elim (found es p has.first has.subtree has.is) [
    | inl at ↦
        let wide : 2 ^ has.subtree.level ≡ 2 ^ p.level = ap (λ (w : Subtree). 2 ^ w.level) at.1 in
        omega (arith, has.before, at.0, wide)
    | inr other ↦
        let old : HasChunk es i = record { first = has.first; subtree = has.subtree; is = other.1; after = has.after; before = has.before } in
        let low = grows.below i old held in
        omega (arith, low, following)
  ];
}

-- ---- all pieces

pub record IsGrown (z : ℕ → List ℕ) (ps : List Piece) (es : Subtrees) : Type 0 where
  pub are_fresh : AreFresh ps es
  pub pieces : ArePieces z (with_subtrees ps es)
  pub kept : (s : ℕ) (m : Subtree) → subtree_at es s ≡ Some m → subtree_at (with_subtrees ps es) s ≡ Some m
  pub found_in : (s : ℕ) (m : Subtree) → subtree_at (with_subtrees ps es) s ≡ Some m → (subtree_at es s ≡ Some m) ⊎ IsAmong s (firsts ps)
  pub covered : (i : ℕ) → Covers ps i → HasChunk (with_subtrees ps es) i
  pub len : length (with_subtrees ps es) ≡ length es + length ps

not_none : (es : Subtrees) (s t : ℕ) (m : Subtree) → subtree_at es s ≡ Some m → subtree_at es t ≡ None → s ≢ t
not_none es s t m some none same = let bad = sym some ∙ ap (subtree_at es) same ∙ none in cc

grown : (x y z : ℕ → List ℕ) (a : ℕ) (ps : List Piece) (es : Subtrees) → IsUnionOf x y z → Grows y z a es → IsRow y max_chunks a ps → IsGrown z ps es
unfolding with_subtrees AreFresh Found put
grown x y z a [] es joined grows row = record {
  are_fresh = tt;
  pieces = grows.pieces;
  kept = λ s m is. is;
  found_in = λ s m is. inl is;
  covered = λ i covers. absurd covers;
  len = omega arith;
}
grown x y z a (p ∷ ps) es joined grows row =
    let none = fresh y z a es p grows row.2 row.0 in
    let more = grows_by x y z a es p joined grows row.2 row.0 row.1 in
    let rest = grown x y z (piece_end p) ps (put p es) joined more row.3 in
    let here : subtree_at (put p es) p.first ≡ Some (subtree_of p) = put_here es p.first (subtree_of p) in
    record {
      are_fresh = (none, rest.are_fresh);
      pieces = rest.pieces;
      kept = λ s m is. rest.kept s m (put_apart es p.first s (subtree_of p) (not_none es s p.first m is none) ∙ is);
      found_in = λ s m is. elim (rest.found_in s m is) [
        | inl old ↦ elim (found es p s m old) [ inl at ↦ inr (inl at.0) | inr other ↦ inl other.1 ]
        | inr later ↦ inr (inr later)
      ];
      covered = λ i covers. elim covers [
        | inl own ↦ record { first = p.first; subtree = subtree_of p; is = rest.kept p.first (subtree_of p) here; after = own.0; before = own.1 }
        | inr later ↦ rest.covered i later
      ];
      len = rest.len ∙ (let one = length_put es p.first (subtree_of p) none in omega (arith, one));
    }

-- the pieces of a part put among those of the others: a canonical forest but for halves at the part's pieces
pub grown_forest : (x y z : ℕ → List ℕ) (ps : List Piece) (es : Subtrees) → IsUnionOf x y z → AreForest x [] es → IsForest y root_level 0 ps
    → IsGrown z ps es × AreForest z (firsts ps) (with_subtrees ps es)
grown_forest x y z ps es joined forest part =
    let g = grown x y z 0 ps es joined (grows_from x y z 0 es joined forest.pieces) part.row in (
      g,
      record {
        pieces = g.pieces;
        all = λ i held low. elim (joined.only i held) [
          | inl old ↦
              let has = forest.all i old low in
              record { first = has.first; subtree = has.subtree; is = g.kept has.first has.subtree has.is; after = has.after; before = has.before }
          | inr new ↦ g.covered i (part.covers i (omega arith) low new)
        ];
        settled = λ s h. elim (g.found_in s h.left h.is_left) [
          | inr among ↦ inl among
          | inl left ↦ elim (g.found_in (s + 2 ^ h.left.level) h.right h.is_right) [
            | inr among ↦ inr among
            | inl right ↦ absurd (elim (forest.settled s (record { left = h.left; right = h.right; is_left = left; is_right = right; level = h.level; aligned = h.aligned })) [ inl w ↦ w | inr w ↦ w ])
          ]
        ];
      },
    )

-- ---- putting in, step by step

pub with_none : (ps : List Piece) (es : Subtrees) → length ps ≡ 0 → es ≡ with_subtrees ps es
unfolding with_subtrees
with_none [] es none = refl
with_none (p ∷ ps) es none = absurd (omega (arith, none))

pub with_first : (ps rest : List Piece) (p : Piece) (n : Subtree) (es mid : Subtrees) → ps ≡ p ∷ rest → n ≡ subtree_of p → mid ≡ insert_entry nat_cmp es p.first n
    → with_subtrees rest mid ≡ with_subtrees ps es
unfolding with_subtrees
with_first ps rest p n es mid cut subtree put =
    ap (with_subtrees rest) (put ∙ ap (insert_entry nat_cmp es p.first) subtree) ∙ sym (ap (λ (l : List Piece). with_subtrees l es) cut)

pub fresh_rest : (ps rest : List Piece) (p : Piece) (n : Subtree) (es mid : Subtrees) → ps ≡ p ∷ rest → n ≡ subtree_of p → mid ≡ insert_entry nat_cmp es p.first n
    → AreFresh ps es → AreFresh rest mid
unfolding AreFresh
fresh_rest ps rest p n es mid cut subtree put fresh =
    let all = subst (λ (l : List Piece). AreFresh l es) cut fresh in
    subst (AreFresh rest) (sym (put ∙ ap (insert_entry nat_cmp es p.first) subtree)) all.1

pub fresh_taken : (ps rest : List Piece) (p : Piece) (n : Subtree) (es mid after last : Subtrees) → ps ≡ p ∷ rest → mid ≡ insert_entry nat_cmp es p.first n
    → AreFresh ps es → after ≡ mid → last ≡ remove_entry (is_at (nat_cmp p.first)) after → last ≡ es
unfolding AreFresh
fresh_taken ps rest p n es mid after last cut put fresh same taken =
    let all = subst (λ (l : List Piece). AreFresh l es) cut fresh in
    taken ∙ ap (remove_entry (is_at (nat_cmp p.first))) (same ∙ put) ∙ put_and_taken es p.first n all.0
