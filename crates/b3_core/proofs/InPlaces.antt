-- What is in a number of places, from the first on.
use Rattle.std.proofs.Common.{◌≡◌, ℕ, ◌+◌, ◌-◌, ◌<◌, ◌≤◌, ◌++◌, List, [], ◌∷◌, Some, length, reverse, take, slice_set, arith, ap, sym, ◌∙◌}
use Rattle.std.specs.List.{slice_get}
use Rattle.std.proofs.lemmas.Grind.{take_at_read}
use Rattle.std.proofs.lemmas.List.{length-take-le, reverse-append, take-take, take_all, take_more_set}
use Rattle.std.proofs.lemmas.Option.{get_or_from_slice_get, slice_get_within}

-- one more
pub pushed : {A : Type 0} (xs : List A) (n m : ℕ) (y : A) → n < length xs → m ≡ n → reverse (take (n + 1) (slice_set xs n y)) ≡ y ∷ reverse (take m xs)
pushed xs n m y room same = ap reverse (take_more_set xs n y room) ∙ reverse-append (take n xs) (y ∷ []) ∙ ap (λ k. y ∷ reverse (take k xs)) (sym same)

-- the last of them, and those before it
pub popped : {A : Type 0} (xs : List A) (k m : ℕ) (y : A) → k ≤ length xs → m ≡ k - 1
    → slice_get (take k xs) (length (take k xs) - 1) ≡ Some y → reverse (take k xs) ≡ y ∷ reverse (take m xs)
popped xs k m y within before is =
    let zs = take k xs in
    let len : length zs ≡ k = length-take-le k xs within in
    let some = slice_get_within zs (length zs - 1) y is in
    let at = get_or_from_slice_get zs (length zs - 1) y y is in
    let all : take (length zs - 1 + 1) zs ≡ zs = take_all (length zs - 1 + 1) zs (omega (arith, some)) in
    let split : zs ≡ take (length zs - 1) zs ++ y ∷ [] = sym all ∙ (take_at_read zs (length zs - 1) y some).1 ∙ ap (λ z. take (length zs - 1) zs ++ z ∷ []) at in
    let front : take (length zs - 1) zs ≡ take m xs = take-take (length zs - 1) k xs (omega (arith, len)) ∙ ap (λ n. take n xs) (omega (arith, len, before)) in
    ap reverse split ∙ reverse-append (take (length zs - 1) zs) (y ∷ []) ∙ ap (λ z. y ∷ reverse z) front
