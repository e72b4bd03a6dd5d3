-- The content of an upload that is whole, and the first offset that one misses.
use Rattle.std.proofs.Common.{◌≡◌, ℕ, ◌+◌, ◌-◌, ◌*◌, ◌/◌, ◌%◌, ◌<◌, ◌≤◌, ◌++◌, List, [], ◌∷◌, length, take, drop, true, false, arith, refl, ap, subst, sym, ◌∙◌, inl, inr}
use Rattle.std.specs.Prelude.{◌≢◌, ◌==◌, min}
use Rattle.std.proofs.lemmas.Bool.Decides.{nat_tests}
use Rattle.std.proofs.lemmas.Bool.{cases_lt}
use Rattle.std.proofs.lemmas.List.{length-append, take-append-le, drop-append-le, length-drop, length-take, append-nil}
use Rattle.std.proofs.Math.Seq.{drop-append-add}
use Rattle.b3_forest.specs.inner.Subtrees.{IsFirstGap, is_held}
use Rattle.store_upload.specs.Uploads.{ArePlaced, end_of, first_gap}
use Rattle.b3_forest.specs.Parts.{HeldPart, chunk_in}
use Rattle.b3_forest.specs.Uploads.{content_of}
use Rattle.b3_forest.proofs.HeldParts.{in_or_out, chunk_here, chunk_there, held_here, held_there, held_after, none_held_in_nothing}
use Rattle.b3_forest.proofs.Maps.{same_or}

-- ---- the first gap

pub gap_follows : (a : ℕ) (p : HeldPart) (ps : List HeldPart) → p.0 ≡ a → first_gap length a (p ∷ ps) ≡ first_gap length (end_of length p) ps
unfolding first_gap
gap_follows a p ps same = let test : (p.0 == a) ≡ true = grind (arith, nat_tests, same) in rw (test, first_gap) refl

pub gap_here : (a : ℕ) (p : HeldPart) (ps : List HeldPart) → p.0 ≢ a → first_gap length a (p ∷ ps) ≡ a
unfolding first_gap
gap_here a p ps other = let test : (p.0 == a) ≡ false = grind (arith, nat_tests, other) in rw (test, first_gap) refl

-- from an offset on, chunk c is the first that is not held
record IsGapFrom (ps : List HeldPart) (a c : ℕ) : Type 0 where
  low : a ≤ 1024 * c
  held : (i : ℕ) → a ≤ 1024 * i → i < c → is_held (chunk_in ps) i ≡ true
  gap : is_held (chunk_in ps) c ≡ false

-- nothing is after the end
nothing_after : (n : ℕ) (ps : List HeldPart) → ArePlaced length n n ps → ps ≡ []
nothing_after n [] placed = refl
nothing_after n (p ∷ ps) placed = absurd (omega (arith, placed.0, placed.1.within, placed.1.some))

gap_from : (n a c : ℕ) (ps : List HeldPart) → a ≤ n → a % 1024 ≡ 0 → ArePlaced length n a ps → IsGapFrom ps a c → first_gap length a ps ≡ min (1024 * c) n
unfolding first_gap
gap_from n a c [] most aligned placed gap = elim (cases_lt (a / 1024) c) [
  | inl less ↦
      let held = gap.held (a / 1024) (omega (arith, aligned)) less in
      let none = none_held_in_nothing (a / 1024) in cc
  | inr same ↦ omega (arith, same, gap.low, aligned, most)
]
gap_from n a c (p ∷ ps) most aligned placed gap = elim (same_or p.0 a) [
  | inr other ↦ gap_here a p ps other ∙ elim (cases_lt (a / 1024) c) [
    | inl less ↦
        let held = gap.held (a / 1024) (omega (arith, aligned)) less in
        let later = held_after n p.0 (a / 1024) (p ∷ ps) (omega arith, placed.1, placed.2) held in
        absurd (other (omega (arith, later.0, placed.0, aligned)))
    | inr same ↦ omega (arith, same, gap.low, aligned, most)
  ]
  | inl same ↦
      let reached : end_of length p ≤ 1024 * c = elim (cases_lt (1024 * c) (end_of length p)) [
        | inr ok ↦ ok
        | inl inside ↦ let held = held_here p ps c (omega (arith, same, gap.low), inside) in let none = gap.gap in cc
      ] in
      gap_follows a p ps same ∙ elim (cases_lt 0 (length p.1 % 1024)) [
        | inl ragged ↦
            let end : end_of length p ≡ n = placed.1.whole refl (λ none. omega (arith, none, ragged)) in
            let empty = nothing_after n ps (subst (λ i. ArePlaced length n i ps) end placed.2) in
            ap (first_gap length (end_of length p)) empty ∙ omega (arith, end, reached)
        | inr whole ↦ gap_from n (end_of length p) c ps placed.1.within (omega (arith, whole, aligned, same)) placed.2 (record {
          low = reached;
          held = λ i after before. sym (held_there p ps i (inr after)) ∙ gap.held i (omega (arith, after, same)) before;
          gap = sym (held_there p ps c (inr reached)) ∙ gap.gap;
        })
      ]
]

pub missing_at : (n c : ℕ) (ps : List HeldPart) → ArePlaced length n 0 ps → IsFirstGap (chunk_in ps) c → first_gap length 0 ps ≡ min (1024 * c) n
missing_at n c ps placed gap = gap_from n 0 c ps (omega arith) refl placed (record { low = omega arith; held = λ i after before. gap.held i before; gap = gap.gap })

-- ---- the content

-- an offset that is held is not the first gap
pub record IsWhole (n a : ℕ) (ps : List HeldPart) : Type 0 where
  pub len : a + length (content_of ps) ≡ n
  pub chunks : (i : ℕ) → a ≤ 1024 * i → chunk_in ps i ≡ take 1024 (drop (1024 * i - a) (content_of ps))

take_front : (k m : ℕ) (xs ys : List ℕ) → m ≤ length xs → k + m ≤ length xs → take k (drop m (xs ++ ys)) ≡ take k (drop m xs)
take_front k m xs ys low high =
    let len = length-drop m xs in
    ap (take k) (drop-append-le m xs ys low) ∙ take-append-le k (drop m xs) ys (omega (arith, len, high))

no_elements : (b : List ℕ) → length b ≡ 0 → b ≡ []
no_elements [] none = refl
no_elements (x ∷ b) none = absurd (omega (arith, none))

take_nothing : (k m : ℕ) (b : List ℕ) → length b ≡ 0 → take k (drop m b) ≡ []
take_nothing k m b none =
    let dropped = length-drop m b in
    let taken = length-take k (drop m b) in
    no_elements (take k (drop m b)) (omega (arith, none, dropped, taken))

pub whole_from : (n a : ℕ) (ps : List HeldPart) → a ≤ n → ArePlaced length n a ps → n ≤ first_gap length a ps → IsWhole n a ps
unfolding content_of first_gap chunk_in
whole_from n a [] most placed all = record { len = omega (arith, most, all); chunks = λ i after. sym (take_nothing 1024 (1024 * i - a) [] refl) }
whole_from n a (p ∷ ps) most placed all = elim (same_or p.0 a) [
  | inr other ↦
      let here = gap_here a p ps other in
      absurd (omega (arith, here, all, placed.0, placed.1.within, placed.1.some))
  | inl same ↦
      let rest = whole_from n (end_of length p) ps placed.1.within placed.2 (subst (λ i. n ≤ i) (gap_follows a p ps same) all) in
      record {
        len = let sum = length-append p.1 (content_of ps) in omega (arith, sum, rest.len, same);
        chunks = λ i after. elim (in_or_out p i) [
          | inr (inl before) ↦ absurd (omega (arith, before, after, same))
          | inr (inr following) ↦
              let place : 1024 * i - a ≡ length p.1 + (1024 * i - end_of length p) = omega (arith, following, same) in
              chunk_there p ps i (inr following) ∙ rest.chunks i following
              ∙ ap (take 1024) (sym (ap (λ m. drop m (p.1 ++ content_of ps)) place ∙ drop-append-add p.1 (content_of ps) (1024 * i - end_of length p)))
          | inl inside ↦
              let place : 1024 * i - p.0 ≡ 1024 * i - a = omega (arith, same) in
              let m = 1024 * i - a in
              chunk_here p ps i inside ∙ ap (λ j. take 1024 (drop j p.1)) place ∙ sym (elim (cases_lt 0 (length p.1 % 1024)) [
                | inl ragged ↦
                    let end : end_of length p ≡ n = placed.1.whole refl (λ none. omega (arith, none, ragged)) in
                    let empty = nothing_after n ps (subst (λ j. ArePlaced length n j ps) end placed.2) in
                    ap (λ (l : List HeldPart). take 1024 (drop m (p.1 ++ content_of l))) empty ∙ ap (λ (b : List ℕ). take 1024 (drop m b)) (append-nil p.1)
                | inr whole ↦ take_front 1024 m p.1 (content_of ps) (omega (arith, same, inside.1, inside.0)) (omega (arith, same, inside.1, inside.0, whole, placed.1.aligned))
              ])
        ];
      }
]
