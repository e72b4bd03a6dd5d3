-- Some of the bytes of segments: a number of bytes from an offset on.
use Rattle.std.proofs.Common.{◌≡◌, ◌∙◌, ◌+◌, ◌-◌, ◌<◌, ◌≤◌, ◌++◌, ℕ, List, [], ◌∷◌, inl, inr, min, refl, ap, sym, append-nil, append_assoc, arith, drop, get_or, length, map, take, take_all}
use Rattle.std.specs.Arc.{arc_value}
use Rattle.std.proofs.lemmas.Bool.{cases_lt}
use Rattle.std.proofs.lemmas.List.{at_drop_more, drop-append-le, drop_all, take-append-le}
use Rattle.std.proofs.lemmas.Slice.{drop-append-drop}
use Rattle.std.proofs.Math.Seq.{drop-append-add, take-append-add, take-append_seam}
use Rattle.b3_forest.specs.declared.segment.Segment.{Segment}
use Rattle.b3_forest.specs.Uploads.{content_of, part_of}

-- two lists without their first `s` elements
drop_of_two : (s : ℕ) (xs ys : List ℕ) → drop s (xs ++ ys) ≡ drop s xs ++ drop (s - length xs) ys
drop_of_two s xs ys =
    elim (cases_lt (length xs) s) [
      | inl past ↦
          let e : s ≡ length xs + (s - length xs) = omega arith in
          ap (λ k. drop k (xs ++ ys)) e ∙ drop-append-add xs ys (s - length xs) ∙ ap (λ l. l ++ drop (s - length xs) ys) (sym (drop_all s xs (omega arith)))
      | inr within ↦
          let e : s - length xs ≡ 0 = omega arith in
          drop-append-le s xs ys (omega arith) ∙ ap (λ k. drop s xs ++ drop k ys) (sym e)
    ]

-- the first `n` elements of two lists
take_of_two : (n : ℕ) (xs ys : List ℕ) → take n (xs ++ ys) ≡ take n xs ++ take (n - length xs) ys
take_of_two n xs ys =
    elim (cases_lt (length xs) n) [
      | inl longer ↦
          let e : n ≡ length xs + (n - length xs) = omega arith in
          ap (λ k. take k (xs ++ ys)) e ∙ take-append-add xs ys (n - length xs) ∙ ap (λ l. l ++ take (n - length xs) ys) (sym (take_all n xs (omega arith)))
      | inr within ↦
          let e : n - length xs ≡ 0 = omega arith in
          take-append-le n xs ys (omega arith) ∙ sym (append-nil (take n xs)) ∙ ap (λ k. take n xs ++ take k ys) (sym e)
    ]

pub take_min : (n : ℕ) (xs : List ℕ) → take (min (length xs) n) xs ≡ take n xs
take_min n xs =
    elim (cases_lt (length xs) n) [
      | inl longer ↦
          let e : min (length xs) n ≡ length xs = omega arith in
          ap (λ k. take k xs) e ∙ take_all (length xs) xs (omega arith) ∙ sym (take_all n xs (omega arith))
      | inr within ↦
          let e : min (length xs) n ≡ n = omega arith in
          ap (λ k. take k xs) e
    ]

-- what was taken, and what is left to take, where n bytes more are taken of the first of two lists
pub taken_more : (done all xs ys : List ℕ) (l s n : ℕ) → n ≡ min (length (drop s xs)) l → done ++ take l (drop s (xs ++ ys)) ≡ all → (done ++ take n (drop s xs)) ++ take (l - n) (drop (s - length xs) ys) ≡ all
taken_more done all xs ys l s n is h =
    let first : take n (drop s xs) ≡ take l (drop s xs) = ap (λ k. take k (drop s xs)) is ∙ take_min l (drop s xs) in
    let left : l - n ≡ l - length (drop s xs) = omega (arith, is) in
    append_assoc done (take n (drop s xs)) (take (l - n) (drop (s - length xs) ys))
    ∙ ap (λ z. done ++ (z ++ take (l - n) (drop (s - length xs) ys))) first
    ∙ ap (λ k. done ++ (take l (drop s xs) ++ take k (drop (s - length xs) ys))) left
    ∙ ap (λ z. done ++ z) (sym (ap (take l) (drop_of_two s xs ys) ∙ take_of_two l (drop s xs) (drop (s - length xs) ys)))
    ∙ h

-- a piece more is in the room
pub room_more : (old now new done piece : List ℕ) (at n : ℕ) → length done ≡ at → n ≡ length piece → now ≡ done ++ drop at old → new ≡ take at now ++ (piece ++ drop (at + n) now) → new ≡ (done ++ piece) ++ drop (at + n) old
room_more old now new done piece at n long count was is =
    let front : take at now ≡ done = ap (take at) was ∙ ap (λ k. take k (done ++ drop at old)) (sym long) ∙ take-append_seam done (drop at old) in
    let back : drop (at + n) now ≡ drop (at + n) old = ap (drop (at + n)) was ∙ drop-append-drop at old done (at + n) (omega arith) long in
    is ∙ ap (λ z. z ++ (piece ++ drop (at + n) now)) front ∙ ap (λ z. done ++ (piece ++ z)) back ∙ sym (append_assoc done piece (drop (at + n) old))

-- ---- segments

content_step : (s : Segment) (segments : List Segment) → content_of (map part_of (s ∷ segments)) ≡ (arc_value s.bytes).items ++ content_of (map part_of segments)
unfolding content_of
content_step s segments = refl

-- the segments that are left are this one and those after it
pub segment_next : (segments : List Segment) (i : ℕ) (s : Segment) → i < length segments → s ≡ get_or segments i s → content_of (map part_of (drop i segments)) ≡ (arc_value s.bytes).items ++ content_of (map part_of (drop (i + 1) segments))
segment_next segments i s there is =
    at_drop_more (λ ss. content_of (map part_of ss)) segments i s there ∙ ap (λ y. content_of (map part_of (y ∷ drop (i + 1) segments))) (sym is) ∙ content_step s (drop (i + 1) segments)

no_segments : content_of (map part_of []) ≡ []
unfolding content_of
no_segments = refl

none_left : (l s : ℕ) → ◌≡◌ {A = List ℕ} (take l (drop s [])) []
none_left l s = ap (take l) (drop_all s [] (omega arith)) ∙ take_all l [] (omega arith)

-- after the last segment nothing is left
pub all_taken : (done all : List ℕ) (l s : ℕ) (segments : List Segment) (i : ℕ) → length segments ≤ i → done ++ take l (drop s (content_of (map part_of (drop i segments)))) ≡ all → done ≡ all
all_taken done all l s segments i past h =
    let none : content_of (map part_of (drop i segments)) ≡ [] = ap (λ ss. content_of (map part_of ss)) (drop_all i segments past) ∙ no_segments in
    sym (append-nil done) ∙ ap (λ z. done ++ z) (sym (ap (λ bytes. take l (drop s bytes)) none ∙ none_left l s)) ∙ h
