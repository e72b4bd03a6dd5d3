-- A complete upload's content has, at each offset, what the upload holds there.
use Rattle.std.proofs.Common.{◌≡◌, ℕ, Bool, ◌+◌, ◌-◌, ◌<◌, ◌≤◌, ◌++◌, List, [], ◌∷◌, Some, length, take, drop, true, false, arith, cond, refl, ap, subst, sym, ◌∙◌, inl, inr}
use Rattle.std.specs.Map.{lookup}
use Rattle.std.proofs.Math.Seq.{drop-append-add}
use Rattle.std.proofs.lemmas.Bool.{eqb-true}
use Rattle.b3_forest.specs.Parts.{HeldPart}
use Rattle.b3_forest.specs.Uploads.{content_of}
use Rattle.b3_forest.proofs.Contents.{gap_follows, gap_here}
use Rattle.b3_forest.proofs.Maps.{same_or}
use Rattle.store_books.specs.Books.{is_number}
use Rattle.store_books.proofs.Numbers.{at_is}
use Rattle.store_upload.specs.Uploads.{ArePlaced, end_of, first_gap}
use Rattle.store_upload.proofs.Places.{some_is}

take_whole : (xs ys : List ℕ) → take (length xs) (xs ++ ys) ≡ xs
take_whole [] ys = refl
take_whole (x ∷ xs) ys = ap (λ (l : List ℕ). x ∷ l) (take_whole xs ys)

-- placed parts begin where they are placed
placed_from : (n a offset : ℕ) (bytes : List ℕ) (ps : List HeldPart) → ArePlaced length n a ps → lookup (is_number offset) ps ≡ Some bytes → a ≤ offset
placed_from n a offset bytes [] placed found = absurd (cc)
placed_from n a offset bytes (p ∷ ps) placed found = by (is_number offset p.0) refl (λ there. placed_from n (end_of length p) offset bytes ps placed.2 there) found
  where
    by : (x : Bool) → is_number offset p.0 ≡ x → (lookup (is_number offset) ps ≡ Some bytes → end_of length p ≤ offset) → cond x (Some p.1) (lookup (is_number offset) ps) ≡ Some bytes → a ≤ offset
    by true is rest here = let same : offset ≡ p.0 = eqb-true offset p.0 (sym (at_is offset p.0) ∙ is) in omega (arith, same, placed.0)
    by false other rest there = let later = rest there in omega (arith, later, placed.0)

-- and have bytes
pub placed_some : (n a offset : ℕ) (bytes : List ℕ) (ps : List HeldPart) → ArePlaced length n a ps → lookup (is_number offset) ps ≡ Some bytes → 0 < length bytes
placed_some n a offset bytes [] placed found = absurd (cc)
placed_some n a offset bytes (p ∷ ps) placed found = by (is_number offset p.0) (λ there. placed_some n (end_of length p) offset bytes ps placed.2 there) found
  where
    by : (x : Bool) → (lookup (is_number offset) ps ≡ Some bytes → 0 < length bytes) → cond x (Some p.1) (lookup (is_number offset) ps) ≡ Some bytes → 0 < length bytes
    by true rest here = subst (λ (b : List ℕ). 0 < length b) (some_is p.1 bytes here) placed.1.some
    by false rest there = rest there

pub slice_from : (n a offset : ℕ) (bytes : List ℕ) (ps : List HeldPart) → ArePlaced length n a ps → n ≤ first_gap length a ps → lookup (is_number offset) ps ≡ Some bytes → take (length bytes) (drop (offset - a) (content_of ps)) ≡ bytes
unfolding content_of
slice_from n a offset bytes [] placed all found = absurd (cc)
slice_from n a offset bytes (p ∷ ps) placed all found = elim (same_or p.0 a) [
  | inr other ↦
      let here = gap_here a p ps other in
      absurd (omega (arith, here, all, placed.0, placed.1.within, placed.1.some))
  | inl same ↦ by same (is_number offset p.0) refl (λ there. slice_from n (end_of length p) offset bytes ps placed.2 (subst (λ i. n ≤ i) (gap_follows a p ps same) all) there) found
]
  where
    by : p.0 ≡ a → (x : Bool) → is_number offset p.0 ≡ x → (lookup (is_number offset) ps ≡ Some bytes → take (length bytes) (drop (offset - end_of length p) (content_of ps)) ≡ bytes) → cond x (Some p.1) (lookup (is_number offset) ps) ≡ Some bytes
        → take (length bytes) (drop (offset - a) (p.1 ++ content_of ps)) ≡ bytes
    by same true is rest here =
        let at : offset ≡ p.0 = eqb-true offset p.0 (sym (at_is offset p.0) ∙ is) in
        let first : offset - a ≡ 0 = omega (arith, at, same) in
        let mine : p.1 ≡ bytes = some_is p.1 bytes here in
        ap (λ (m : ℕ). take (length bytes) (drop m (p.1 ++ content_of ps))) first ∙ (ap (λ (b : List ℕ). take (length b) (p.1 ++ content_of ps)) (sym mine) ∙ (take_whole p.1 (content_of ps) ∙ mine))
    by same false other rest there =
        let later : end_of length p ≤ offset = placed_from n (end_of length p) offset bytes ps placed.2 there in
        let place : offset - a ≡ length p.1 + (offset - end_of length p) = omega (arith, later, same) in
        ap (take (length bytes)) (ap (λ (m : ℕ). drop m (p.1 ++ content_of ps)) place ∙ drop-append-add p.1 (content_of ps) (offset - end_of length p)) ∙ rest there
