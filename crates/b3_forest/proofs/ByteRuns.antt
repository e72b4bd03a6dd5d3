-- The places of bytes that are kept in stretches of one length.
use Rattle.std.proofs.Common.{◌≡◌, ℕ, zero, suc, ◌+◌, ◌-◌, ◌*◌, ◌/◌, ◌%◌, ◌<◌, ◌≤◌, ◌++◌, List, [], ◌∷◌, length, min, take, drop, arith, ap, ap₂, lt_of_not-le, subst, sym, ◌∙◌}
use Rattle.std.specs.Prelude.{All, flat_map, get_or, ◌↔◌}
use Rattle.std.proofs.lemmas.List.{append_assoc, flat_map_more, drop-append-le, drop-drop, drop-take, length-append, length-drop, length-take-le, take-take}
use Rattle.std.proofs.lemmas.List.Concat.{flat_map-cons}
use Rattle.std.proofs.lemmas.List.Elements.{All-get_or, All-head, All-tail}
use Rattle.std.proofs.lemmas.Nat.{div-add-mod'}
use Rattle.std.proofs.Math.Nat.{div-mul-le_self, mod-lt, mul-le-mul_right}
use Rattle.std.proofs.Math.Seq.{drop-append-add, drop-append_seam, take-add, take-append_seam, take-length}
use Rattle.b3_forest.specs.Stretches.{AreBytesFrom, StandsAt}

-- ---- stretches of n bytes each, and some bytes after them

abbrev AreOf : {X : Type 0} → (X → List ℕ) → ℕ → List X → Type 0
AreOf f n xs = All (λ x. length (f x) ≡ n) xs

pub their_length : {X : Type 0} (f : X → List ℕ) (n : ℕ) (xs : List X) → AreOf f n xs → length (flat_map f xs) ≡ length xs * n
their_length f n [] all = omega arith
their_length f n (x ∷ xs) all =
    let head = All-head (λ x. length (f x) ≡ n) x xs all in
    let rest = their_length f n xs (All-tail (λ x. length (f x) ≡ n) x xs all) in
    let split : length (flat_map f (x ∷ xs)) ≡ length (f x) + length (flat_map f xs) = ap length (flat_map-cons f x xs) ∙ length-append (f x) (flat_map f xs) in
    omega (arith, split, head, rest)

-- the bytes from within stretch k on
from_stretch : {X : Type 0} (f : X → List ℕ) (n k r : ℕ) (xs : List X) (last : List ℕ) (d : X) → AreOf f n xs → k < length xs → r ≤ n
    → (following : List ℕ) × (drop (k * n + r) (flat_map f xs ++ last) ≡ drop r (f (get_or xs k d)) ++ following)
from_stretch f n k r [] last d all low within = absurd (omega (arith, low))
from_stretch f n zero r (x ∷ xs) last d all low within =
    let head = All-head (λ x. length (f x) ≡ n) x xs all in
    let whole : flat_map f (x ∷ xs) ++ last ≡ f x ++ (flat_map f xs ++ last) = ap (λ b. b ++ last) (flat_map-cons f x xs) ∙ append_assoc (f x) (flat_map f xs) last in
    ((flat_map f xs ++ last), ap₂ drop (omega arith) whole ∙ drop-append-le r (f x) (flat_map f xs ++ last) (omega (arith, head, within)))
from_stretch f n (suc k) r (x ∷ xs) last d all low within =
    let head = All-head (λ x. length (f x) ≡ n) x xs all in
    let whole : flat_map f (x ∷ xs) ++ last ≡ f x ++ (flat_map f xs ++ last) = ap (λ b. b ++ last) (flat_map-cons f x xs) ∙ append_assoc (f x) (flat_map f xs) last in
    let later = from_stretch f n k r xs last d (All-tail (λ x. length (f x) ≡ n) x xs all) (omega (arith, low)) within in
    let place : suc k * n + r ≡ length (f x) + (k * n + r) = omega (arith, head) in
    (later.0, ap₂ drop place whole ∙ drop-append-add (f x) (flat_map f xs ++ last) (k * n + r) ∙ later.1)

-- a prefix of bytes is at their start
front_stands : (b : List ℕ) (at : ℕ) (found following : List ℕ) → drop at b ≡ found ++ following → StandsAt b at found
front_stands b at found following is = sym (ap (take (length found)) is ∙ take-append_seam found following)

-- the bytes from an offset in a full stretch on
pub in_full : {X : Type 0} (f : X → List ℕ) (n at : ℕ) (xs : List X) (last : List ℕ) (d : X) → 0 < n → AreOf f n xs → at / n < length xs
    → AreBytesFrom (flat_map f xs ++ last) at (drop (at % n) (f (get_or xs (at / n) d)))
in_full f n at xs last d some all low =
    let stretch = f (get_or xs (at / n) d) in
    let less = mod-lt at some in
    let (following, is) = from_stretch f n (at / n) (at % n) xs last d all low (omega (arith, less)) in
    let len = All-get_or (λ x. length (f x) ≡ n) xs (at / n) d low all in
    let left = length-drop (at % n) stretch in
    record {
      same = front_stands (flat_map f xs ++ last) at (drop (at % n) stretch) following (ap (λ i. drop i (flat_map f xs ++ last)) (sym (div-add-mod' at n)) ∙ is);
      some = λ _. omega (arith, len, left, less);
    }

-- and the bytes from an offset after them on
pub in_last : {X : Type 0} (f : X → List ℕ) (n at : ℕ) (xs : List X) (last : List ℕ) → AreOf f n xs → length xs * n ≤ at
    → AreBytesFrom (flat_map f xs ++ last) at (drop (at - length xs * n) last)
in_last f n at xs last all low =
    let len = their_length f n xs all in
    let skip = at - length xs * n in
    let place : at ≡ length (flat_map f xs) + skip = omega (arith, len, low) in
    let is : drop at (flat_map f xs ++ last) ≡ drop skip last = ap (λ i. drop i (flat_map f xs ++ last)) place ∙ drop-append-add (flat_map f xs) last skip in
    let sum = length-append (flat_map f xs) last in
    let left = length-drop skip last in
    record {
      same = sym (ap (take (length (drop skip last))) is ∙ take-length (drop skip last));
      some = λ below. omega (arith, below, sum, len, left, low);
    }

-- the stretch of a number, as far as they are full
pub full_stands : {X : Type 0} (f : X → List ℕ) (n at : ℕ) (xs : List X) (last : List ℕ) (d : X) → 0 < n → AreOf f n xs → at / n < length xs → at % n ≡ 0
    → StandsAt (flat_map f xs ++ last) at (f (get_or xs (at / n) d))
full_stands f n at xs last d some all low aligned =
    let found = in_full f n at xs last d some all low in
    subst (λ i. StandsAt (flat_map f xs ++ last) at (drop i (f (get_or xs (at / n) d)))) aligned found.same

pub last_stands : {X : Type 0} (f : X → List ℕ) (n at : ℕ) (xs : List X) (last : List ℕ) → AreOf f n xs → at / n ≡ length xs → at % n ≡ 0
    → StandsAt (flat_map f xs ++ last) at last
last_stands f n at xs last all number aligned =
    let place : at ≡ length xs * n = sym (div-add-mod' at n) ∙ ap₂ (λ k r. k * n + r) number aligned ∙ omega arith in
    let found = in_last f n at xs last all (omega (arith, place)) in
    let none : at - length xs * n ≡ 0 = omega (arith, place) in
    subst (λ i. StandsAt (flat_map f xs ++ last) at (drop i last)) none found.same

-- a number of stretches that an offset is after
pub before : (n at k : ℕ) → k ≤ at / n → k * n ≤ at
before n at k low = omega (arith, mul-le-mul_right n low, div-mul-le_self at n)

-- ---- how long they are

-- the remaining bytes of a full stretch that more bytes follow
pub full_length : {X : Type 0} (f : X → List ℕ) (n at : ℕ) (xs : List X) (last : List ℕ) (d : X) → 0 < n → AreOf f n xs → at / n < length xs
    → length (drop (at % n) (f (get_or xs (at / n) d))) ≡ min (n - at % n) (length (flat_map f xs ++ last) - at)
full_length f n at xs last d some all low =
    let q = at / n in
    let stretch = f (get_or xs q d) in
    let len = All-get_or (λ x. length (f x) ≡ n) xs q d low all in
    let left = length-drop (at % n) stretch in
    let sum = length-append (flat_map f xs) last in
    let whole = their_length f n xs all in
    let place : q * n + at % n ≡ at = div-add-mod' at n in
    let next : (q + 1) * n ≤ length xs * n = mul-le-mul_right n (omega (arith, low)) in
    let more : (q + 1) * n ≡ q * n + n = omega arith in
    let less = mod-lt at some in
    omega (arith, len, left, sum, whole, place, next, more, less)

-- the rest of the last one
pub last_length : {X : Type 0} (f : X → List ℕ) (n at : ℕ) (xs : List X) (last : List ℕ) → 0 < n → AreOf f n xs → length last ≤ n → length xs ≤ at / n
    → length (drop (at - length xs * n) last) ≡ min (n - at % n) (length (flat_map f xs ++ last) - at)
last_length f n at xs last some all short low =
    let left = length-drop (at - length xs * n) last in
    let sum = length-append (flat_map f xs) last in
    let whole = their_length f n xs all in
    let place : at / n * n + at % n ≡ at = div-add-mod' at n in
    let following : length xs * n ≤ at / n * n = mul-le-mul_right n low in
    let less = mod-lt at some in
    omega (arith, left, sum, whole, place, following, short, less)

-- all of it
pub last_whole : {X : Type 0} (f : X → List ℕ) (n at : ℕ) (xs : List X) (last : List ℕ) → 0 < n → AreOf f n xs → length last ≤ n → at / n ≡ length xs → at % n ≡ 0
    → length last ≡ min (n - at % n) (length (flat_map f xs ++ last) - at)
last_whole f n at xs last some all short number aligned =
    let place : at ≡ length xs * n = sym (div-add-mod' at n) ∙ ap₂ (λ k r. k * n + r) number aligned ∙ omega arith in
    let none : at - length xs * n ≡ 0 = omega (arith, place) in
    ap (λ i. length (drop i last)) (sym none) ∙ last_length f n at xs last some all short (omega (arith, number))

-- all bytes end before an offset after the last stretch
pub all_before : {X : Type 0} (f : X → List ℕ) (n at : ℕ) (xs : List X) (last : List ℕ) → AreOf f n xs → length last ≤ n → length xs < at / n → length (flat_map f xs ++ last) ≤ at
all_before f n at xs last all short low =
    let sum = length-append (flat_map f xs) last in
    let whole = their_length f n xs all in
    let following = before n at (length xs + 1) (omega (arith, low)) in
    let more : (length xs + 1) * n ≡ length xs * n + n = omega arith in
    omega (arith, sum, whole, following, more, short)

-- an offset before the end, and after all full stretches, is in the last one
pub number_of_last : {X : Type 0} (f : X → List ℕ) (n at : ℕ) (xs : List X) (last : List ℕ) → AreOf f n xs → length last ≤ n → at < length (flat_map f xs ++ last) → length xs ≤ at / n → at / n ≡ length xs
number_of_last f n at xs last all short below low =
    let not_more : suc (length xs) ≤ at / n → ⊥ = λ more. omega (arith, all_before f n at xs last all short more, below) in
    omega (arith, lt_of_not-le not_more, low)

-- ---- bytes joined

-- bytes are where their first bytes and the remaining ones are
pub stands_in_two : (b : List ℕ) (at : ℕ) (front following : List ℕ) → StandsAt b at (front ++ following) ↔ (StandsAt b at front × StandsAt b (at + length front) following)
stands_in_two b at front following =
    let n = length front in
    let m = length following in
    let len = length-append front following in
    let both : take (length (front ++ following)) (drop at b) ≡ take n (drop at b) ++ take m (drop (at + n) b) =
    ap (λ i. take i (drop at b)) len ∙ take-add n m (drop at b) ∙ ap (λ x. take n (drop at b) ++ take m x) (drop-drop n at b) in (
      (λ stands.
          let is : front ++ following ≡ take (n + m) (drop at b) = stands ∙ ap (λ i. take i (drop at b)) len in (
            sym (take-append_seam front following) ∙ ap (take n) is ∙ take-take n (n + m) (drop at b) (omega arith),
            sym (drop-append_seam front following) ∙ ap (drop n) is ∙ drop-take n m (drop at b) ∙ ap (take m) (drop-drop n at b),
          )),
      (λ parts. ap₂ (λ x y. x ++ y) parts.0 parts.1 ∙ sym both),
    )

-- all that is left
pub whole_rest : (i : ℕ) (b : List ℕ) → take (length b - i) (drop i b) ≡ drop i b
whole_rest i b = ap (λ n. take n (drop i b)) (sym (length-drop i b)) ∙ take-length (drop i b)

-- bytes with more after them
pub stands_more : (b : List ℕ) (at : ℕ) (front found : List ℕ) (m : ℕ) → StandsAt b at front → StandsAt b (at + length front) found → m ≤ length found → StandsAt b at (front ++ take m found)
stands_more b at front found m first then_found short =
    let taken : take m found ≡ take m (drop (at + length front) b) = ap (take m) then_found ∙ take-take m (length found) (drop (at + length front) b) short in
    let len = length-take-le m found short in
    (stands_in_two b at front (take m found)).1 (first, taken ∙ ap (λ i. take i (drop (at + length front) b)) (sym len))

-- a prefix of some bytes, at the same place
pub stands_front : (b : List ℕ) (at : ℕ) (found : List ℕ) (m : ℕ) → StandsAt b at found → m ≤ length found → StandsAt b at (take m found)
stands_front b at found m stands short =
    ap (take m) stands ∙ take-take m (length found) (drop at b) short ∙ ap (λ i. take i (drop at b)) (sym (length-take-le m found short))

-- ---- more stretches

pub with_stretch : {X : Type 0} (f : X → List ℕ) (xs : List X) (x : X) → flat_map f (xs ++ x ∷ []) ≡ flat_map f xs ++ f x
with_stretch f xs x = sym (flat_map_more f [] xs x)

pub more_after : (before last front following : List ℕ) → (before ++ (last ++ front)) ++ following ≡ (before ++ last) ++ (front ++ following)
more_after before last front following = ap (λ b. b ++ following) (sym (append_assoc before last front)) ∙ append_assoc (before ++ last) front following

-- as many bytes at one place are the same
pub same_place : (b : List ℕ) (at : ℕ) (x y : List ℕ) → StandsAt b at x → StandsAt b at y → length x ≡ length y → x ≡ y
same_place b at x y left right len = left ∙ ap (λ i. take i (drop at b)) len ∙ sym right
