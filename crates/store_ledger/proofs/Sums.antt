-- Sums over the views that the threads have of a shared structure.
use Rattle.std.proofs.Common.{◌≡◌, ◌≢◌, ℕ, zero, suc, ◌+◌, ◌<◌, ◌≤◌, ◌⊎◌, List, [], ◌∷◌, sum_by, length, nat_eq, cond, set, sym, refl, ap, inl, inr, arith}
use mathlib.Core.Option.{some, some-ne-none, some-injective}
use lib.ListN.{get_elem?}
use Rattle.std.proofs.lemmas.List.Sums.{sum_by-cons}
use Rattle.std.proofs.lemmas.Bool.Decides.{nat_tests}
use Rattle.store_ledger.specs.Counts.{times, once_below}

-- a number is 0 or above it
pub pos_or_zero : (n : ℕ) → (n ≡ 0) ⊎ (0 < n)
pos_or_zero zero = inl refl
pos_or_zero (suc n) = inr (omega arith)

-- 1 where n is k, else 0
abbrev pub hit : ℕ → ℕ → ℕ
hit k n = cond (nat_eq n k) 1 0

-- a number is itself
pub hit_self : (k : ℕ) → hit k k ≡ 1
hit_self k = grind (arith, nat_tests)

-- one more number below the limit
pub once_step : (k n : ℕ) → once_below k (n + 1) ≡ once_below k n + hit k n
once_step k n = grind (arith, nat_tests)

-- an empty list has no number
pub times_empty : (k : ℕ) (xs : List ℕ) → length xs ≡ 0 → times k xs ≡ 0
times_empty k [] e = refl
times_empty k (x ∷ xs) e = absurd (omega (arith, e))

-- the sum after one view has changed
pub sum_at : {X : Type 0} (f : X → ℕ) (views : List X) (i : ℕ) (v w : X) → get_elem? views i ≡ some v → sum_by f (set views i w) + f v ≡ sum_by f views + f w
sum_at f [] i v w e = absurd (some-ne-none v (sym e))
sum_at f (x ∷ xs) zero v w e = omega (arith, sum_by-cons f x xs, sum_by-cons f w xs, ap f (some-injective x v e))
sum_at f (x ∷ xs) (suc i) v w e = omega (arith, sum_by-cons f x xs, sum_by-cons f x (set xs i w), sum_at f xs i v w e)

-- the number of one view is at most the sum
pub at_le : {X : Type 0} (f : X → ℕ) (views : List X) (i : ℕ) (v : X) → get_elem? views i ≡ some v → f v ≤ sum_by f views
at_le f [] i v e = absurd (some-ne-none v (sym e))
at_le f (x ∷ xs) zero v e = omega (arith, sum_by-cons f x xs, ap f (some-injective x v e))
at_le f (x ∷ xs) (suc i) v e = omega (arith, sum_by-cons f x xs, at_le f xs i v e)

-- the numbers of two views are at most the sum
pub two_le : {X : Type 0} (f : X → ℕ) (views : List X) (i j : ℕ) (v u : X) → i ≢ j → get_elem? views i ≡ some v → get_elem? views j ≡ some u → f v + f u ≤ sum_by f views
two_le f [] i j v u n e d = absurd (some-ne-none v (sym e))
two_le f (x ∷ xs) zero zero v u n e d = absurd (n refl)
two_le f (x ∷ xs) zero (suc j) v u n e d = omega (arith, sum_by-cons f x xs, ap f (some-injective x v e), at_le f xs j u d)
two_le f (x ∷ xs) (suc i) zero v u n e d = omega (arith, sum_by-cons f x xs, ap f (some-injective x u d), at_le f xs i v e)
two_le f (x ∷ xs) (suc i) (suc j) v u n e d = omega (arith, sum_by-cons f x xs, two_le f xs i j v u (λ k. n (ap suc k)) e d)

-- where f is at most g of each view, its sum is at most that of g
pub sum_le : {X : Type 0} (f g : X → ℕ) (views : List X) → ((i : ℕ) (v : X) → get_elem? views i ≡ some v → f v ≤ g v) → sum_by f views ≤ sum_by g views
sum_le f g [] each = omega arith
sum_le f g (x ∷ xs) each = omega (arith, sum_by-cons f x xs, sum_by-cons g x xs, each 0 x refl, sum_le f g xs (λ i v e. each (suc i) v e))

-- f is 0 of each view that has no right
abbrev pub IsIdle : {X : Type 0} → (X → ℕ) → (X → ℕ) → List X → Type 0
IsIdle {X} rights f views = (i : ℕ) (u : X) → get_elem? views i ≡ some u → rights u ≡ 0 → f u ≡ 0

-- views without rights have nothing
no_rights : {X : Type 0} (rights f : X → ℕ) (views : List X) → sum_by rights views ≡ 0 → IsIdle rights f views → sum_by f views ≡ 0
no_rights rights f [] e idle = refl
no_rights rights f (x ∷ xs) e idle =
    let r = sum_by-cons rights x xs in
    omega (arith, sum_by-cons f x xs, idle 0 x refl (omega (arith, r, e)), no_rights rights f xs (omega (arith, r, e)) (λ i u g. idle (suc i) u g))

-- where one view has every right, it has all that there is
pub alone : {X : Type 0} (rights f : X → ℕ) (views : List X) (id : ℕ) (v : X) → get_elem? views id ≡ some v → sum_by rights views ≡ rights v → IsIdle rights f views → sum_by f views ≡ f v
alone rights f [] id v at e idle = absurd (some-ne-none v (sym at))
alone rights f (x ∷ xs) zero v at e idle =
    let same = some-injective x v at in
    let r = sum_by-cons rights x xs in
    omega (arith, sum_by-cons f x xs, ap f same, no_rights rights f xs (omega (arith, r, ap rights same, e)) (λ i u g. idle (suc i) u g))
alone rights f (x ∷ xs) (suc id) v at e idle =
    let r = sum_by-cons rights x xs in
    let le = at_le rights xs id v at in
    omega (arith, sum_by-cons f x xs, idle 0 x refl (omega (arith, r, le, e)), alone rights f xs id v at (omega (arith, r, le, e)) (λ i u g. idle (suc i) u g))
