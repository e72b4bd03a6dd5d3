-- What is noted of borrowed bytes.
use Rattle.std.proofs.Common.{◌≡◌, ℕ, zero, suc, ◌+◌, ◌-◌, ◌*◌, ◌/◌, ◌%◌, ◌^◌, ◌<◌, ◌≤◌, ◌⊎◌, ◌++◌, List, [], ◌∷◌, length, take, drop, Some, None, true, false, nat_lt, arith, refl, ap, ap₂, subst, sym, ◌∙◌, inl, inr}
use Rattle.std.specs.Prelude.{Bool, nat_le, ◌&&◌, ◌||◌, ◌↔◌, IfNone, IfSome}
use Rattle.std.specs.List.Sorted.{IsStrictlySortedBy}
use Rattle.std.proofs.lemmas.Bool.{cases_lt}
use Rattle.std.proofs.lemmas.Bool.Decides.{nat_tests}
use Rattle.std.proofs.lemmas.List.{drop-drop, drop_all, length-append, length-drop, length-take, take-append-drop}
use Rattle.b3_forest.specs.Followed.{AllNoted, ArePartsOf, ModelFollow, Follows, IsFirstNoted, IsFirstUnnoted, IsNoted, IsNotedWith, NothingNoted, bytes_at, followed, has_chunk, noted_chunk, noting_merges, pieces_noted, range_of}
use Rattle.b3_forest.specs.Subtrees.{HasChunk, Keeps, Subtrees, subtree_at}
use Rattle.b3_forest.specs.inner.Subtrees.{HaveRoom, is_held}
use Rattle.store_upload.specs.Laws.{IsFirstMissing, IsFirstOverlap, IsHeldAt, LeastMissing, LeastOverlap}
use Rattle.store_upload.specs.Uploads.{ArePlaced, Fits, IsUpload, ModelUpload, UploadPlan, closed_plan, end_of, first_gap, first_missing}
use Rattle.b3_forest.specs.Parts.{HeldPart, Part, ModelPrepared, chunk_in, chunks_of, held_as}
use Rattle.b3_forest.specs.Pieces.{is_full, piece_count, pieces_of, root_level}
use Rattle.b3_forest.specs.Uploads.{content_of, merges_of, with_part}
use Rattle.b3_forest.specs.inner.Uploads.{overlap_at}
use Rattle.b3_forest.specs.declared.piece.Subtree.{Subtree}
use Rattle.b3_forest.proofs.Canonical.{AreSorted, forest_count, head_at, in_tail, tail_at}
use Rattle.b3_forest.proofs.Contents.{gap_follows, gap_here}
use Rattle.b3_forest.proofs.HeldParts.{IsApart, goes, held_after, held_here, held_there, in_or_out, no_overlap, none_held_in_nothing, with_held}
use Rattle.b3_forest.proofs.Maps.{same_or}
use Rattle.b3_forest.proofs.Merging.{some_same}
use Rattle.b3_forest.proofs.OneForest.{bool_cases}
use Rattle.b3_forest.proofs.Places.{held_in}
use Rattle.b3_forest.proofs.Ranges.{pieces_of-full, pieces_of-halves}

-- ---- offsets and chunks

-- a part is within the upload
offset_after : (n a i : ℕ) (ps : List HeldPart) → ArePlaced length n a ps → IsHeldAt length ps i → i < n
offset_after n a i [] placed held = absurd held
offset_after n a i (p ∷ ps) placed (inl inside) = omega (arith, inside.1, placed.1.within)
offset_after n a i (p ∷ ps) placed (inr later) = offset_after n (end_of length p) i ps placed.2 later

chunk_of_offset : (n a i : ℕ) (ps : List HeldPart) → ArePlaced length n a ps → IsHeldAt length ps i → is_held (chunk_in ps) (i / 1024) ≡ true
chunk_of_offset n a i [] placed held = absurd held
chunk_of_offset n a i (p ∷ ps) placed held = elim (in_or_out p (i / 1024)) [
  | inl inside ↦ held_here p ps (i / 1024) inside
  | inr out ↦ held_there p ps (i / 1024) out ∙ elim held [
    | inr later ↦ chunk_of_offset n (end_of length p) i ps placed.2 later
    | inl inside ↦ absurd (elim out [ inl before ↦ omega (arith, before, inside.0, placed.1.aligned) | inr following ↦ omega (arith, following, inside.1) ])
  ]
]

offset_of_chunk : (n a i : ℕ) (ps : List HeldPart) → ArePlaced length n a ps → i < n → is_held (chunk_in ps) (i / 1024) ≡ true → IsHeldAt length ps i
offset_of_chunk n a i [] placed low held = let none = none_held_in_nothing (i / 1024) in cc
offset_of_chunk n a i (p ∷ ps) placed low held = elim (in_or_out p (i / 1024)) [
  | inr out ↦ inr (offset_of_chunk n (end_of length p) i ps placed.2 low (sym (held_there p ps (i / 1024) out) ∙ held))
  | inl inside ↦ inl (
    omega (arith, inside.0),
    elim (cases_lt 0 (length p.1 % 1024)) [
      | inl ragged ↦ let end = placed.1.whole refl (λ none. omega (arith, none, ragged)) in omega (arith, end, low)
      | inr whole ↦ omega (arith, whole, placed.1.aligned, inside.1)
    ],
  )
]

-- ---- chunks in pieces

in_subtrees : (es : Subtrees) (s i : ℕ) (n : Subtree) → subtree_at es s ≡ Some n → s ≤ i → i < s + 2 ^ n.level → has_chunk (range_of es) i ≡ true
in_subtrees [] s i n is after before = cc
in_subtrees (e ∷ es) s i n is after before = elim (same_or s e.0) [
  | inl same ↦
      let subtree : n ≡ e.1 = some_same n e.1 (sym is ∙ ap (subtree_at (e ∷ es)) same ∙ head_at e es) in
      let wide : 2 ^ n.level ≡ 2 ^ e.1.level = ap (λ (w : Subtree). 2 ^ w.level) subtree in
      let low : nat_le e.0 i ≡ true = grind (arith, nat_tests) in
      let high : nat_lt i (e.0 + 2 ^ e.1.level) ≡ true = grind (arith, nat_tests) in
      rw (low, high) refl
  | inr other ↦ rw (in_subtrees es s i n (sym (tail_at e es s other) ∙ is) after before) (or_true _)
]
  where
    or_true : (p : Bool) → (p || true) ≡ true
    or_true true = refl
    or_true false = refl

subtree_over : (es : Subtrees) (i : ℕ) → AreSorted es → has_chunk (range_of es) i ≡ true → HasChunk es i
unfolding IsStrictlySortedBy
subtree_over [] i sorted noted = cc
subtree_over (e ∷ es) i sorted noted = elim (cases_lt i e.0) [
  | inl early ↦
      let low : nat_le e.0 i ≡ false = grind (arith, nat_tests) in
      subtree_later e es i sorted (subtree_over es i sorted.1 (rw low at noted))
  | inr after ↦ elim (cases_lt i (e.0 + 2 ^ e.1.level)) [
    | inl before ↦ record { first = e.0; subtree = e.1; is = head_at e es; after = after; before = before }
    | inr following ↦
        let low : nat_le e.0 i ≡ true = grind (arith, nat_tests) in
        let high : nat_lt i (e.0 + 2 ^ e.1.level) ≡ false = grind (arith, nat_tests) in
        subtree_later e es i sorted (subtree_over es i sorted.1 (rw (low, high) at noted))
  ]
]
  where
    subtree_later : (e : ℕ × Subtree) (es : Subtrees) (i : ℕ) → AreSorted (e ∷ es) → HasChunk es i → HasChunk (e ∷ es) i
    subtree_later e es i sorted has = record { first = has.first; subtree = has.subtree; is = in_tail e es has.first has.subtree sorted has.is; after = has.after; before = has.before }

pub noted_of : (b : List ℕ) (ps : List HeldPart) (es : Subtrees) (i : ℕ) → Keeps (length b) ps es → IsHeldAt length ps i → IsNoted (followed b es) i
noted_of b ps es i keeps held =
    let low = offset_after (length b) 0 i ps keeps.placed held in
    let chunk = chunk_of_offset (length b) 0 i ps keeps.placed held in
    let has = keeps.forest.all (i / 1024) chunk (omega (arith, low, keeps.most)) in
    (low, in_subtrees es has.first (i / 1024) has.subtree has.is has.after has.before)

pub held_of : (b : List ℕ) (ps : List HeldPart) (es : Subtrees) (i : ℕ) → Keeps (length b) ps es → IsNoted (followed b es) i → IsHeldAt length ps i
held_of b ps es i keeps noted =
    let has = subtree_over es (i / 1024) keeps.sorted noted.1 in
    let chunk = held_in (chunk_in ps) es has.first (i / 1024) has.subtree keeps.forest.pieces has.is has.after has.before in
    offset_of_chunk (length b) 0 i ps keeps.placed noted.0 chunk

-- ---- what is reported

abbrev pub Missing : Type 0
Missing = LeastMissing (λ (x : List ℕ). length x)

abbrev pub Overlap : Type 0
Overlap = LeastOverlap (λ (x : List ℕ). length x)

-- an upload of n bytes that holds these parts
abbrev pub upload_of : ℕ → List HeldPart → ModelUpload (List ℕ)
upload_of n ps = record { plan = closed_plan n; end = Some n; parts = ps }

is_upload : (n : ℕ) (ps : List HeldPart) (es : Subtrees) → Keeps n ps es → IsUpload length (upload_of n ps)
is_upload n ps es keeps = record { most = keeps.most; within = omega arith; placed = keeps.placed; closed = λ _. refl; whole = λ none. cc }

pub reported_missing : (b : List ℕ) (ps : List HeldPart) (es : Subtrees) (m : ℕ) → Missing → Keeps (length b) ps es → m ≡ first_gap length 0 ps → m < length b → IsFirstUnnoted (followed b es) m
reported_missing b ps es m law keeps is below =
    let u : ModelUpload (List ℕ) = upload_of (length b) ps in
    let low : first_gap length 0 ps < length b = omega (arith, is, below) in
    let test : nat_lt (first_gap length 0 ps) (length b) ≡ true = grind (arith, nat_tests, low) in
    let some : first_missing length u ≡ Some (first_gap length 0 ps) = rw test refl in
    let reported : first_missing length u ≡ Some m = some ∙ ap Some (sym is) in
    let first = subst (λ o. IfSome o (IsFirstMissing length u)) reported (law u (is_upload (length b) ps es keeps)).some in
    record {
      below = first.below;
      missing = λ noted. first.missing (held_of b ps es m keeps noted);
      least = λ i before. noted_of b ps es i keeps (first.least i before);
    }

pub reported_all : (b : List ℕ) (ps : List HeldPart) (es : Subtrees) → Missing → Keeps (length b) ps es → length b ≤ first_gap length 0 ps → AllNoted (followed b es)
reported_all b ps es law keeps all i low =
    let u : ModelUpload (List ℕ) = upload_of (length b) ps in
    let test : nat_lt (first_gap length 0 ps) (length b) ≡ false = grind (arith, nat_tests, all) in
    let none : first_missing length u ≡ None = rw test refl in
    let held = subst (λ o. IfNone o ((j : ℕ) → j < length b → IsHeldAt length ps j)) none (law u (is_upload (length b) ps es keeps)).none in
    noted_of b ps es i keeps (held i low)

pub reported_overlap : (b : List ℕ) (ps : List HeldPart) (es : Subtrees) (p : Part) (at : ℕ) → Overlap → Keeps (length b) ps es → 0 < length p.bytes → overlap_at p ps ≡ Some at → IsFirstNoted (followed b es) p at
reported_overlap b ps es p at law keeps some is =
    let n = length p.bytes in
    let first = subst (λ o. IfSome o (IsFirstOverlap length p.offset n ps)) is (law (upload_of (length b) ps) p.offset n (is_upload (length b) ps es keeps) some).some in
    record {
      inside = (first.after, first.before);
      noted = noted_of b ps es at keeps first.held;
      least = λ i after before noted. first.least i after before (held_of b ps es i keeps noted);
    }

pub reported_apart : (b : List ℕ) (ps : List HeldPart) (es : Subtrees) (p : Part) → Overlap → Keeps (length b) ps es → 0 < length p.bytes → overlap_at p ps ≡ None → NothingNoted (followed b es) p
reported_apart b ps es p law keeps some is i inside noted =
    let n = length p.bytes in
    let none = subst (λ o. IfNone o ((j : ℕ) → p.offset ≤ j → j < p.offset + n → IsHeldAt length ps j → ⊥)) is (law (upload_of (length b) ps) p.offset n (is_upload (length b) ps es keeps) some).none in
    none i inside.0 inside.1 (held_of b ps es i keeps noted)

-- ---- a part more

abbrev IsInside : HeldPart → ℕ → Type 0
IsInside p i = (p.0 ≤ i) × (i < end_of length p)

held_with_more : (n a : ℕ) (p : HeldPart) (ps : List HeldPart) (i : ℕ) → 0 < length p.1 → ArePlaced length n a ps → IsApart p ps → IsHeldAt length (with_held p ps) i → IsHeldAt length ps i ⊎ IsInside p i
held_with_more n a p [] i some placed none held = elim held [ inl own ↦ inr own | inr no_more ↦ inl no_more ]
held_with_more n a p (q ∷ qs) i some placed none held =
    let apart = no_overlap p.0 (length p.1) q qs none in
    elim (goes p q qs some placed.1.some apart.0) [
      | inl before ↦ elim (subst (λ (l : List HeldPart). IsHeldAt length l i) before.put held) [ inl own ↦ inr own | inr others ↦ inl others ]
      | inr after ↦ elim (subst (λ (l : List HeldPart). IsHeldAt length l i) after.put held) [
        | inl first ↦ inl (inl first)
        | inr later ↦ elim (held_with_more n (end_of length q) p qs i some placed.2 apart.1 later) [ inl others ↦ inl (inr others) | inr own ↦ inr own ]
      ]
    ]

held_more_of : (n a : ℕ) (p : HeldPart) (ps : List HeldPart) (i : ℕ) → 0 < length p.1 → ArePlaced length n a ps → IsApart p ps → IsHeldAt length ps i ⊎ IsInside p i → IsHeldAt length (with_held p ps) i
held_more_of n a p [] i some placed none (inl held) = absurd held
held_more_of n a p [] i some placed none (inr own) = inl own
held_more_of n a p (q ∷ qs) i some placed none held =
    let apart = no_overlap p.0 (length p.1) q qs none in
    elim (goes p q qs some placed.1.some apart.0) [
      | inl before ↦ subst (λ (l : List HeldPart). IsHeldAt length l i) (sym before.put) (elim held [ inl others ↦ inr others | inr own ↦ inl own ])
      | inr after ↦ subst (λ (l : List HeldPart). IsHeldAt length l i) (sym after.put) (elim held [
        | inr own ↦ inr (held_more_of n (end_of length q) p qs i some placed.2 apart.1 (inr own))
        | inl others ↦ elim others [ inl first ↦ inl first | inr later ↦ inr (held_more_of n (end_of length q) p qs i some placed.2 apart.1 (inl later)) ]
      ])
    ]

pub noted_with : (b : List ℕ) (ps : List HeldPart) (es fs : Subtrees) (p : Part) → HaveRoom (length b) ps p es → Keeps (length b) (with_part p ps) fs → IsNotedWith (followed b es) (followed b fs) p
noted_with b ps es fs p room new = record {
  bytes = refl;
  noted = λ i. (
    (λ noted. elim (held_with_more (length b) 0 (held_as p) ps i room.fits.some room.keeps.placed room.apart (held_of b (with_part p ps) fs i new noted)) [
      | inl held ↦ inl (noted_of b ps es i room.keeps held)
      | inr own ↦ inr own
    ]),
    (λ either. noted_of b (with_part p ps) fs i new (held_more_of (length b) 0 (held_as p) ps i room.fits.some room.keeps.placed room.apart (elim either [
      | inl noted ↦ inl (held_of b ps es i room.keeps noted)
      | inr own ↦ inr own
    ]))),
  );
}

parts_put : (b : List ℕ) (n a : ℕ) (p : HeldPart) (ps : List HeldPart) → 0 < length p.1 → ArePlaced length n a ps → IsApart p ps → p.1 ≡ take (length p.1) (drop p.0 b) → ArePartsOf b ps → ArePartsOf b (with_held p ps)
parts_put b n a p [] some placed none same all = (same, all)
parts_put b n a p (q ∷ qs) some placed none same all =
    let apart = no_overlap p.0 (length p.1) q qs none in
    elim (goes p q qs some placed.1.some apart.0) [
      | inl before ↦ subst (ArePartsOf b) (sym before.put) (same, all)
      | inr after ↦ subst (ArePartsOf b) (sym after.put) (all.0, parts_put b n (end_of length q) p qs some placed.2 apart.1 same all.1)
    ]

pub parts_with : (b : List ℕ) (es : Subtrees) (p : Part) (ps : List HeldPart) → HaveRoom (length b) ps p es → p.bytes ≡ bytes_at b p → ArePartsOf b ps → ArePartsOf b (with_part p ps)
parts_with b es p ps room same all = parts_put b (length b) 0 (held_as p) ps room.fits.some room.keeps.placed room.apart same all

-- the pieces have room for a part of the bytes' plan that overlaps no other
pub room_of : (b : List ℕ) (es : Subtrees) (w : Follows b es) (p : ModelPrepared) → p.plan ≡ closed_plan (length b) → Fits p.plan p.part.offset (length p.part.bytes)
    → None ≡ overlap_at p.part w.parts → HaveRoom (length b) w.parts p.part es
room_of b es w p plan fits apart = record {
  keeps = w.keeps;
  fits = subst (λ (q : UploadPlan). Fits q p.part.offset (length p.part.bytes)) plan fits;
  apart = sym apart;
}

-- ---- the content

content_from : (b : List ℕ) (a : ℕ) (ps : List HeldPart) → a ≤ length b → ArePlaced length (length b) a ps → length b ≤ first_gap length a ps → ArePartsOf b ps → content_of ps ≡ drop a b
unfolding content_of first_gap
content_from b a [] most placed all same = sym (drop_all a b all)
content_from b a (p ∷ ps) most placed all same = elim (same_or p.0 a) [
  | inr other ↦ let here = gap_here a p ps other in absurd (omega (arith, here, all, placed.0, placed.1.within, placed.1.some))
  | inl at ↦
      let rest = content_from b (end_of length p) ps placed.1.within placed.2 (subst (λ i. length b ≤ i) (gap_follows a p ps at) all) same.1 in
      let own : p.1 ≡ take (length p.1) (drop a b) = same.0 ∙ ap (λ i. take (length p.1) (drop i b)) at in
      let next : drop (end_of length p) b ≡ drop (length p.1) (drop a b) = ap (λ i. drop (i + length p.1) b) at ∙ sym (drop-drop (length p.1) a b) in
      ap₂ (λ (l r : List ℕ). l ++ r) own (rest ∙ next) ∙ take-append-drop (length p.1) (drop a b)
]

pub content_is : (b : List ℕ) (es : Subtrees) (w : Follows b es) → length b ≤ first_gap length 0 w.parts → content_of w.parts ≡ b
content_is b es w all = content_from b 0 w.parts (omega arith) w.keeps.placed all w.same

-- ---- counts

-- what is noted and what is held have as many pieces where they are the same chunks
same_full : (x y : ℕ → List ℕ) (k s : ℕ) → ((i : ℕ) → is_held x i ≡ is_held y i) → is_full x k s ≡ is_full y k s
unfolding is_full
same_full x y zero s same = same s
same_full x y (suc k) s same = ap₂ (λ a b. a && b) (same_full x y k s same) (same_full x y k (s + 2 ^ k) same)

same_count : (x y : ℕ → List ℕ) (k s : ℕ) → ((i : ℕ) → is_held x i ≡ is_held y i) → length (pieces_of x k s) ≡ length (pieces_of y k s)
unfolding pieces_of
same_count x y zero s same = elim (bool_cases (is_full x zero s)) [
  | inl full ↦ ap length (pieces_of-full x zero s full) ∙ sym (ap length (pieces_of-full y zero s (sym (same_full x y zero s same) ∙ full)))
  | inr none ↦
      let other : is_full y zero s ≡ false = sym (same_full x y zero s same) ∙ none in
      rw (none, other, pieces_of) refl
]
same_count x y (suc k) s same = elim (bool_cases (is_full x (suc k) s)) [
  | inl full ↦ ap length (pieces_of-full x (suc k) s full) ∙ sym (ap length (pieces_of-full y (suc k) s (sym (same_full x y (suc k) s same) ∙ full)))
  | inr part ↦
      ap length (pieces_of-halves x k s part) ∙ length-append (pieces_of x k s) (pieces_of x k (s + 2 ^ k))
      ∙ ap₂ (λ a b. a + b) (same_count x y k s same) (same_count x y k (s + 2 ^ k) same)
      ∙ sym (ap length (pieces_of-halves y k s (sym (same_full x y (suc k) s same) ∙ part)) ∙ length-append (pieces_of y k s) (pieces_of y k (s + 2 ^ k)))
]

some_noted : (f : ModelFollow) (i : ℕ) → has_chunk f.ranges i ≡ true → 1024 * i < length f.bytes → is_held (noted_chunk f) i ≡ true
some_noted f i has low =
    let some : 0 < length (take 1024 (drop (1024 * i) f.bytes)) = omega (arith, length-take 1024 (drop (1024 * i) f.bytes), length-drop (1024 * i) f.bytes) in
    let test : nat_lt 0 (length (take 1024 (drop (1024 * i) f.bytes))) ≡ true = grind (arith, nat_tests) in
    rw (has, test) refl

noted_some : (f : ModelFollow) (i : ℕ) → is_held (noted_chunk f) i ≡ true → IsNoted f (1024 * i)
noted_some f i held = elim (bool_cases (has_chunk f.ranges i)) [
  | inr not ↦ let bad : false ≡ true = rw not at held in cc
  | inl has ↦
      let at : 1024 * i / 1024 ≡ i = omega arith in
      let there : has_chunk f.ranges (1024 * i / 1024) ≡ true = ap (has_chunk f.ranges) at ∙ has in
      elim (cases_lt (1024 * i) (length f.bytes)) [
        | inl low ↦ (low, there)
        | inr past ↦
            let none : length (take 1024 (drop (1024 * i) f.bytes)) ≡ 0 = omega (arith, length-take 1024 (drop (1024 * i) f.bytes), length-drop (1024 * i) f.bytes) in
            let test : nat_lt 0 (length (take 1024 (drop (1024 * i) f.bytes))) ≡ false = grind (arith, nat_tests) in
            let bad : false ≡ true = rw (has, test) at held in cc
      ]
]

noted_as_held : (f : ModelFollow) (n : ℕ) (ps : List HeldPart) → n ≡ length f.bytes → ArePlaced length n 0 ps → ((i : ℕ) → IsNoted f i ↔ IsHeldAt length ps i)
    → (i : ℕ) → is_held (noted_chunk f) i ≡ is_held (chunk_in ps) i
noted_as_held f n ps len placed same i =
    let at : 1024 * i / 1024 ≡ i = omega arith in
    elim (bool_cases (is_held (chunk_in ps) i)) [
      | inl held ↦
          let low = (held_after n 0 i ps placed held).1 in
          let noted = (same (1024 * i)).1 (offset_of_chunk n 0 (1024 * i) ps placed low (ap (is_held (chunk_in ps)) at ∙ held)) in
          some_noted f i (ap (has_chunk f.ranges) (sym at) ∙ noted.1) noted.0 ∙ sym held
      | inr none ↦ elim (bool_cases (is_held (noted_chunk f) i)) [
        | inr out ↦ out ∙ sym none
        | inl inside ↦
            let held = chunk_of_offset n 0 (1024 * i) ps placed ((same (1024 * i)).0 (noted_some f i inside)) in
            let bad = sym none ∙ ap (is_held (chunk_in ps)) (sym at) ∙ held in cc
      ]
    ]

pub noted_pieces : (f : ModelFollow) (n : ℕ) (ps : List HeldPart) → n ≡ length f.bytes → ArePlaced length n 0 ps → ((i : ℕ) → IsNoted f i ↔ IsHeldAt length ps i)
    → pieces_noted f ≡ piece_count (chunk_in ps)
noted_pieces f n ps len placed same = same_count (noted_chunk f) (chunk_in ps) root_level 0 (noted_as_held f n ps len placed same)

pub noted_count : (b : List ℕ) (ps : List HeldPart) (es : Subtrees) → Keeps (length b) ps es → piece_count (chunk_in ps) ≡ pieces_noted (followed b es)
noted_count b ps es keeps =
    sym (noted_pieces (followed b es) (length b) ps refl keeps.placed (λ i. (held_of b ps es i keeps, noted_of b ps es i keeps)))

pub nothing_noted : (b : List ℕ) (es : Subtrees) → Keeps (length b) [] es → es ≡ [] → pieces_noted (followed b es) ≡ 0
nothing_noted b es keeps empty = sym (noted_count b [] es keeps) ∙ sym (forest_count (chunk_in []) es keeps.sorted keeps.forest) ∙ ap length empty

pub merges_noted : (b : List ℕ) (ps : List HeldPart) (es fs : Subtrees) (p : Part) → Keeps (length b) ps es → Keeps (length b) (with_part p ps) fs
    → merges_of ps p ≡ noting_merges (followed b es) (followed b fs) p
merges_noted b ps es fs p old new = ap₂ (λ i j. i + piece_count (chunks_of p) - j) (noted_count b ps es old) (noted_count b (with_part p ps) fs new)
