-- Pages follow each other.
use Rattle.std.proofs.Common.{◌≡◌, ◌∙◌, ◌+◌, ◌<◌, ◌≤◌, ℕ, Bool, true, false, cond, List, [], ◌∷◌, ◌++◌, refl, ap, sym, subst, suc, zero, arith, map, drop, take}
use Rattle.std.specs.Prelude.{◌&&◌, filter, nat_le}
use Rattle.std.proofs.lemmas.Bool.{le-leb, leb-false, leb-true, lt-leb}
use Rattle.std.proofs.lemmas.List.{drop-take, take-append-drop, take-take, take_all}
use Rattle.store_books.specs.Books.{Filed, IsRisingFrom, is_held_by}
use Rattle.store_books.specs.Pages.{AllPagesFollow, held_from, next_from}
use Rattle.store_books.proofs.Pairs.{and_false}

taken_twice : {X : Type 0} (a b : ℕ) (xs : List X) → take a (take (a + b) xs) ≡ take a xs
taken_twice a b xs = take-take a (a + b) xs (omega arith)

both_taken : {X : Type 0} (a b : ℕ) (xs : List X) → take (a + b) xs ≡ take a xs ++ take b (drop a xs)
both_taken a b xs = sym (take-append-drop a (take (a + b) xs)) ∙ ap (λ ys. ys ++ drop a (take (a + b) xs)) (taken_twice a b xs) ∙ ap (λ ys. take a xs ++ ys) (drop-take a b xs)

-- the next number is not below the first one
not_before : (from : ℕ) (numbers : List ℕ) → IsRisingFrom from numbers → from ≤ next_from from numbers
not_before from [] rising = omega arith
not_before from (n ∷ numbers) rising = let later = not_before (n + 1) numbers rising.1 in omega (arith, rising.0, later)

module _ {O : Type 0} (tenant : ℕ) where
  abbrev numbers : List (Filed O) → List ℕ
  numbers objects = map (λ o. o.number) objects

  abbrev passes : ℕ → Filed O → Bool
  passes from o = is_held_by tenant o && nat_le from o.number

  abbrev held : ℕ → List (Filed O) → List (Filed O)
  held from objects = filter (passes from) objects

  -- below all numbers it doesn't matter where a page begins
  same_held : (a b least : ℕ) (os : List (Filed O)) → a ≤ least → b ≤ least → IsRisingFrom least (numbers os) → held a os ≡ held b os
  same_held a b least [] one two rising = refl
  same_held a b least (o ∷ os) one two rising =
      let first : nat_le a o.number ≡ nat_le b o.number = le-leb a o.number (omega (arith, one, rising.0)) ∙ sym (le-leb b o.number (omega (arith, two, rising.0))) in
      ap (λ (t : Bool). cond (is_held_by tenant o && t) (o ∷ held a os) (held a os)) first
      ∙ ap (λ (xs : List (Filed O)). cond (passes b o) (o ∷ xs) xs) (same_held a b (o.number + 1) os (omega (arith, one, rising.0)) (omega (arith, two, rising.0)) rising.1)

  passes_later : (a : ℕ) (o : Filed O) (held : Bool) → (held && nat_le a o.number) ≡ true → a ≤ o.number
  passes_later a o true is = leb-true a o.number is
  passes_later a o false is = absurd (cc is)

  passes_not : (a b : ℕ) (o : Filed O) (held : Bool) → a ≤ b → (held && nat_le a o.number) ≡ false → (held && nat_le b o.number) ≡ false
  passes_not a b o true le is = lt-leb b o.number (let below = leb-false a o.number is in omega (arith, le, below))
  passes_not a b o false le is = refl

  passed : (n : ℕ) (o : Filed O) → o.number < n → passes n o ≡ false
  passed n o below = ap (λ (t : Bool). is_held_by tenant o && t) (lt-leb n o.number below) ∙ and_false (is_held_by tenant o)

  -- the numbers of a page rise
  rising_step : (from count : ℕ) (o : Filed O) (os : List (Filed O)) (b : Bool) → passes from o ≡ b → (from ≤ o.number → IsRisingFrom (o.number + 1) (numbers (take count (held from os)))) → IsRisingFrom from (numbers (take (suc count) (held from os)))
      → IsRisingFrom from (numbers (take (suc count) (cond b (o ∷ held from os) (held from os))))
  rising_step from count o os true is first others = let later = passes_later from o (is_held_by tenant o) is in (later, first later)
  rising_step from count o os false is first others = others

  rising_page : (least from count : ℕ) (os : List (Filed O)) → IsRisingFrom least (numbers os) → IsRisingFrom from (numbers (take count (held from os)))
  rising_page least from zero os rising = tt
  rising_page least from (suc count) [] rising = tt
  rising_page least from (suc count) (o ∷ os) rising = rising_step from count o os (passes from o) refl
      (λ later. subst (λ (xs : List (Filed O)). IsRisingFrom (o.number + 1) (numbers (take count xs))) (same_held (o.number + 1) from (o.number + 1) os (omega arith) (omega (arith, later)) rising.1) (rising_page (o.number + 1) (o.number + 1) count os rising.1))
      (rising_page (o.number + 1) from (suc count) os rising.1)

  -- the number that follows a page
  abbrev after : ℕ → List (Filed O) → ℕ
  after from page = next_from from (numbers page)

  left_step : (from count : ℕ) (o : Filed O) (os : List (Filed O)) (b : Bool) → passes from o ≡ b → (from ≤ o.number → drop count (held from os) ≡ held (after (o.number + 1) (take count (held from os))) (o ∷ os))
      → (passes from o ≡ false → drop (suc count) (held from os) ≡ held (after from (take (suc count) (held from os))) (o ∷ os))
      → drop (suc count) (cond b (o ∷ held from os) (held from os)) ≡ held (after from (take (suc count) (cond b (o ∷ held from os) (held from os)))) (o ∷ os)
  left_step from count o os true is first others = first (passes_later from o (is_held_by tenant o) is)
  left_step from count o os false is first others = others is

  -- after an object that is passed, the same objects are held
  first_passed : (n : ℕ) (o : Filed O) (os : List (Filed O)) → passes n o ≡ false → held n os ≡ held n (o ∷ os)
  first_passed n o os is = sym (ap (λ (b : Bool). cond b (o ∷ held n os) (held n os)) is)

  -- what a page leaves is what is held from the number that follows it
  left : (least from count : ℕ) (os : List (Filed O)) → IsRisingFrom least (numbers os) → drop count (held from os) ≡ held (after from (take count (held from os))) os
  left least from zero os rising = refl
  left least from (suc count) [] rising = refl
  left least from (suc count) (o ∷ os) rising = left_step from count o os (passes from o) refl
      (λ later.
      let next = o.number + 1 in
      let n = after next (take count (held next os)) in
      let above : next ≤ n = not_before next (numbers (take count (held next os))) (rising_page next next count os rising.1) in
      subst (λ (xs : List (Filed O)). drop count xs ≡ held (after next (take count xs)) (o ∷ os)) (same_held next from next os (omega arith) (omega (arith, later)) rising.1)
      (left next next count os rising.1 ∙ first_passed n o os (passed n o (omega (arith, above)))))
      (λ not_held.
      let n = after from (take (suc count) (held from os)) in
      let above : from ≤ n = not_before from (numbers (take (suc count) (held from os))) (rising_page (o.number + 1) from (suc count) os rising.1) in
      left (o.number + 1) from (suc count) os rising.1 ∙ first_passed n o os (passes_not from n o (is_held_by tenant o) above not_held))

  all_step : (b : Bool) (o : Filed O) (xs ys : List (Filed O)) → xs ≡ ys → cond (b && true) (o ∷ xs) xs ≡ cond b (o ∷ ys) ys
  all_step true o xs ys same = ap (λ (zs : List (Filed O)). o ∷ zs) same
  all_step false o xs ys same = same

  held_all : (os : List (Filed O)) → held 0 os ≡ filter (is_held_by tenant) os
  held_all [] = refl
  held_all (o ∷ os) =
      ap (λ (t : Bool). cond (is_held_by tenant o && t) (o ∷ held 0 os) (held 0 os)) (le-leb 0 o.number (omega arith)) ∙ all_step (is_held_by tenant o) o (held 0 os) (filter (is_held_by tenant) os) (held_all os)

pub pages_follow : (O : Type 0) → AllPagesFollow O
pages_follow O objects rising = record {
  joined = λ tenant from first second. both_taken first second (held tenant from objects) ∙ ap (λ xs. held_from tenant from first objects ++ take second xs) (left tenant 0 from first objects rising);
  all = λ tenant count few. ap (take count) (held_all tenant objects) ∙ take_all count (filter (is_held_by tenant) objects) few;
}
