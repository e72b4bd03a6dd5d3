-- What the pieces of an upload say of its parts.
use Rattle.std.proofs.Common.{◌≡◌, ℕ, ◌+◌, ◌-◌, ◌≤◌, List, [], ◌∷◌, length, Some, None, false, arith, refl, ap, ap₂, subst, sym, ◌∙◌, inl, inr}
use Rattle.std.specs.Prelude.{OnErr, Result, Ok, Err}
use Rattle.std.specs.List.Sorted.{IsStrictlySortedBy}
use Rattle.std.specs.Map.{values_of}
use Rattle.std.proofs.lemmas.Bool.{cases_lt}
use Rattle.b3_core.specs.Laws.{NeighboursJoin}
use Rattle.b3_core.specs.Modes.{hash_mode}
use Rattle.b3_core.specs.Tree.{ModelTop, tree_top}
use Rattle.store_upload.specs.Uploads.{max_bytes}
use Rattle.b3_forest.specs.Forests.{IsForest}
use Rattle.b3_forest.specs.Subtrees.{Subtrees, AreForest, Keeps}
use Rattle.b3_forest.specs.inner.Subtrees.{AreFresh, AreWhole, HaveRoom, firsts, is_held, top_over, with_subtrees}
use Rattle.b3_forest.specs.Parts.{HeldPart, Part, chunk_in, chunks_of, held_as}
use Rattle.b3_forest.specs.Pieces.{max_chunks, piece_count, pieces_of, root_level}
use Rattle.b3_forest.specs.Uploads.{content_of, merges_of, with_part}
use Rattle.b3_forest.specs.declared.piece.Piece.{Piece}
use Rattle.b3_forest.proofs.Canonical.{AreSorted, forest_count}
use Rattle.b3_forest.proofs.Finishing.{empty_top, whole_top, whole_upload}
use Rattle.b3_forest.proofs.Growing.{grown_forest}
use Rattle.b3_forest.proofs.HeldParts.{held_after, parts_joined, placed_chunks, placed_more}
use Rattle.b3_forest.proofs.OneForest.{bool_cases}
use Rattle.b3_forest.proofs.PiecesAreForest.{pieces_are_forest}
use Rattle.b3_forest.specs.inner.Subtrees.{AreChunks}

pub nothing_past : (n : ℕ) (ps : List HeldPart) (es : Subtrees) → Keeps n ps es → (i : ℕ) → max_chunks ≤ i → is_held (chunk_in ps) i ≡ false
nothing_past n ps es keeps i high = elim (bool_cases (is_held (chunk_in ps) i)) [
  | inr none ↦ none
  | inl held ↦ let low = (held_after n 0 i ps keeps.placed held).1 in absurd (omega (arith, low, high, keeps.most))
]

pub on_err : {A B : Type 0} (r : Result A B) (P : Type 0) → P → OnErr r P
on_err (Ok a) P holds = tt
on_err (Err b) P holds = holds

-- ---- a part more

pub record IsPut (n : ℕ) (ps : List HeldPart) (p : Part) (pieces : List Piece) (es mid : Subtrees) : Type 0 where
  pub fresh : AreFresh pieces es
  pub chunks : AreChunks n (chunk_in (with_part p ps))
  pub forest : AreForest (chunk_in (with_part p ps)) (firsts pieces) mid
  pub len : length mid ≡ length es + piece_count (chunks_of p)

pub is_put : (n : ℕ) (ps : List HeldPart) (p : Part) (pieces : List Piece) (es mid : Subtrees) → HaveRoom n ps p es → pieces ≡ pieces_of (chunks_of p) root_level 0 → mid ≡ with_subtrees pieces es
    → IsPut n ps p pieces es mid
is_put n ps p pieces es mid room is put =
    let part = subst (λ (l : List Piece). IsForest (chunks_of p) root_level 0 l) (sym is) (pieces_are_forest (chunks_of p) root_level 0 0 (omega arith)) in
    let joined = parts_joined n (held_as p) ps room.fits.some room.keeps.placed room.apart in
    let g = grown_forest (chunk_in ps) (chunks_of p) (chunk_in (with_part p ps)) pieces es joined room.keeps.forest part in
    let grown = g.0 in
    record {
      fresh = grown.are_fresh;
      chunks = placed_chunks n 0 (with_part p ps) (placed_more n 0 (held_as p) ps (omega arith) room.fits room.keeps.placed room.apart);
      forest = subst (AreForest (chunk_in (with_part p ps)) (firsts pieces)) (sym put) g.1;
      len = ap length put ∙ grown.len ∙ ap (λ (l : List Piece). length es + length l) is;
    }

pub put_fresh : (n : ℕ) (ps : List HeldPart) (p : Part) (pieces : List Piece) (es : Subtrees) → HaveRoom n ps p es → pieces ≡ pieces_of (chunks_of p) root_level 0 → AreFresh pieces es
put_fresh n ps p pieces es room is = (is_put n ps p pieces es (with_subtrees pieces es) room is refl).fresh

pub put_keeps : (n : ℕ) (ps : List HeldPart) (p : Part) (es fs : Subtrees) → HaveRoom n ps p es → AreForest (chunk_in (with_part p ps)) [] fs → AreSorted fs
    → Keeps n (with_part p ps) fs
put_keeps n ps p es fs room forest sorted = record {
  most = room.keeps.most;
  placed = placed_more n 0 (held_as p) ps (omega arith) room.fits room.keeps.placed room.apart;
  forest = forest;
  sorted = sorted;
}

pub put_merges : (n : ℕ) (ps : List HeldPart) (p : Part) (es mid fs : Subtrees) → Keeps n ps es → Keeps n (with_part p ps) fs
    → length mid ≡ length es + piece_count (chunks_of p) → length mid - length fs ≡ merges_of ps p
put_merges n ps p es mid fs old new len =
    let before = forest_count (chunk_in ps) es old.sorted old.forest in
    let after = forest_count (chunk_in (with_part p ps)) fs new.sorted new.forest in
    ap₂ (λ i j. i - j) (len ∙ ap (λ i. i + piece_count (chunks_of p)) before) after

-- ---- the top

same_top : (t u : ModelTop) → Some t ≡ Some u → t ≡ u
same_top t u same = cc

no_bytes : (b : List ℕ) → length b ≡ 0 → b ≡ []
no_bytes [] none = refl
no_bytes (x ∷ b) none = absurd (omega (arith, none))

pub finish_top : (n : ℕ) (ps : List HeldPart) (es : Subtrees) (top : ModelTop) → NeighboursJoin → AreWhole n ps es → Some top ≡ top_over (values_of es) → top ≡ tree_top (content_of ps) 0 hash_mode
finish_top n ps es top join all is =
    let keeps = all.keeps in
    let whole = whole_upload n ps es all in
    elim (cases_lt 0 n) [
      | inl some ↦ same_top top (tree_top (content_of ps) 0 hash_mode) (is ∙ whole_top n ps es join keeps.sorted keeps whole some)
      | inr empty ↦ let bad = is ∙ empty_top n ps es keeps.sorted keeps whole (omega (arith, empty)) in cc
    ]

pub finish_empty : (n : ℕ) (ps : List HeldPart) (es : Subtrees) → NeighboursJoin → AreWhole n ps es → None ≡ top_over (values_of es) → content_of ps ≡ []
finish_empty n ps es join all is =
    let keeps = all.keeps in
    let whole = whole_upload n ps es all in
    elim (cases_lt 0 n) [
      | inl some ↦ let bad = is ∙ whole_top n ps es join keeps.sorted keeps whole some in cc
      | inr empty ↦ let sum = whole.len in no_bytes (content_of ps) (omega (arith, sum, empty))
    ]

pub finish_length : (n : ℕ) (ps : List HeldPart) (es : Subtrees) → AreWhole n ps es → length (content_of ps) ≡ n
finish_length n ps es all = let sum = (whole_upload n ps es all).len in omega (arith, sum)

-- ---- no parts

pub keeps_nothing : (n : ℕ) (ps : List HeldPart) (es : Subtrees) → n ≤ max_bytes → ps ≡ [] → es ≡ [] → Keeps n ps es
unfolding chunk_in IsStrictlySortedBy
keeps_nothing n ps es most no_parts no_subtrees = subst (λ (qs : List HeldPart). Keeps n qs es) (sym no_parts) (subst (Keeps n []) (sym no_subtrees) (record {
  most = most;
  placed = tt;
  forest = record {
    pieces = record { lawful = λ s k is. cc; within = λ s k is. cc; apart = λ s t k l is_s is_t before. cc };
    all = λ i held low. cc;
    settled = λ s h. let bad = h.is_left in cc;
  };
  sorted = tt;
}))
