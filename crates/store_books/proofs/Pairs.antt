-- Pairs of tenants and filings: the holders that they give a filing, and what changes with one pair.
use Rattle.std.proofs.Common.{◌≡◌, ◌≢◌, ◌∙◌, ◌+◌, ◌≤◌, ℕ, Bool, true, false, cond, List, [], ◌∷◌, refl, ap, sym, subst, arith, inl, inr, length, map}
use Rattle.std.specs.Prelude.{◌==◌, ◌||◌, ◌&&◌, filter, not}
use Rattle.std.specs.BTreeMap.{is_at}
use Rattle.std.specs.List.{AllByRecursion}
use Rattle.std.specs.List.Sorted.{IsStrictlySortedBy}
use Rattle.std.specs.declared.cmp.Ordering.TheVariants.{Less}
use Rattle.std.proofs.lemmas.Bool.{cases_eq, cases_lt, eq-eqb, le-ltb, lt-ltb, ne_eqb}
use Rattle.std.proofs.lemmas.Map.Keys.{sorted_head, sorted_tail}
use Rattle.store_books.specs.Books.{IsRisingFrom}
use Rattle.store_books.specs.inner.Catalog.{holders_in, is_paired, pair_cmp}
use Rattle.store_books.specs.Commands.{with_holder, without_holder}
use Rattle.store_books.proofs.Numbers.{at_is, below_is}
use Rattle.store_books.proofs.RisingHolders.{eqb_turned, has, has_with, has_without, rising_with, rising_without, same_rows}

abbrev pub Pairs : Type 0
Pairs = List (ℕ × ℕ)

pub at_pair : (t n : ℕ) (p : ℕ × ℕ) → is_at (pair_cmp (t, n)) p ≡ ((t == p.0) && (n == p.1))
at_pair t n p = elim (cases_lt t p.0) [
  | inl less ↦ rw (lt-ltb t p.0 less, ne_eqb t p.0 (λ same. absurd (omega (arith, same, less)))) refl
  | inr more ↦ elim (cases_eq t p.0) [
    | inl same ↦ rw (le-ltb t p.0 more, eq-eqb t p.0 same) (at_is n p.1)
    | inr apart ↦ rw (le-ltb t p.0 more, ne_eqb t p.0 apart) refl
  ]
]

pub and_false : (b : Bool) → (b && false) ≡ false
and_false true = refl
and_false false = refl

pub and_true : (b : Bool) → (b && true) ≡ b
and_true true = refl
and_true false = refl

-- ---- the holders that pairs give a filing

has_step : (t n : ℕ) (p : ℕ × ℕ) (rest : Pairs) (others : Bool) → has t (map (λ q. q.0) rest) ≡ others → has t (map (λ q. q.0) (cond (p.1 == n) (p ∷ rest) rest)) ≡ (is_at (pair_cmp (t, n)) p || others)
has_step t n p rest others is = elim (cases_eq p.1 n) [
  | inl same ↦
      let here : is_at (pair_cmp (t, n)) p ≡ (p.0 == t) = at_pair t n p ∙ rw (eq-eqb n p.1 (sym same)) (and_true (t == p.0) ∙ eqb_turned t p.0) in
      rw (eq-eqb p.1 n same, here) (ap (λ (b : Bool). (p.0 == t) || b) is)
  | inr apart ↦
      let here : is_at (pair_cmp (t, n)) p ≡ false = at_pair t n p ∙ rw (ne_eqb n p.1 (λ same. apart (sym same))) (and_false (t == p.0)) in
      rw (ne_eqb p.1 n apart, here) is
]

-- a tenant is among them if it is paired with the filing
pub has_pair : (t n : ℕ) (ps : Pairs) → has t (holders_in ps n) ≡ is_paired ps t n
has_pair t n [] = refl
has_pair t n (p ∷ ps) = has_step t n p (filter (λ q. q.1 == n) ps) (is_paired ps t n) (has_pair t n ps)

later_tenant : (p q : ℕ × ℕ) → p.1 ≡ q.1 → pair_cmp p q ≡ Less → p.0 + 1 ≤ q.0
later_tenant p q one less = elim (cases_lt p.0 q.0) [
  | inl is ↦ omega (arith, is)
  | inr more ↦ elim (cases_eq p.0 q.0) [
    | inl same ↦ absurd (let below = below_is p.1 q.1 (rw (le-ltb p.0 q.0 more, eq-eqb p.0 q.0 same) at less) in omega (arith, below, one))
    | inr apart ↦ absurd (let no = rw (le-ltb p.0 q.0 more, ne_eqb p.0 q.0 apart) at less in cc)
  ]
]

later_tenants : (n : ℕ) (p : ℕ × ℕ) (ps : Pairs) → p.1 ≡ n → AllByRecursion (λ q. pair_cmp p q ≡ Less) ps → AllByRecursion (λ q. q.1 ≡ n → p.0 + 1 ≤ q.0) ps
later_tenants n p [] is h = tt
later_tenants n p (q ∷ ps) is h = ((λ same. later_tenant p q (is ∙ sym same) h.0), later_tenants n p ps is h.1)

rising_in : (m n : ℕ) (ps : Pairs) → IsStrictlySortedBy pair_cmp ps → AllByRecursion (λ p. p.1 ≡ n → m ≤ p.0) ps → IsRisingFrom m (holders_in ps n)
rising_in m n [] sorted h = tt
rising_in m n (p ∷ ps) sorted h = elim (cases_eq p.1 n) [
  | inl same ↦ rw (eq-eqb p.1 n same) (h.0 same, rising_in (p.0 + 1) n ps (sorted_tail pair_cmp p ps sorted) (later_tenants n p ps same (sorted_head pair_cmp p ps sorted)))
  | inr apart ↦ rw (ne_eqb p.1 n apart) (rising_in m n ps (sorted_tail pair_cmp p ps sorted) h.1)
]

from_none : (n : ℕ) (ps : Pairs) → AllByRecursion (λ p. p.1 ≡ n → 0 ≤ p.0) ps
from_none n [] = tt
from_none n (p ∷ ps) = ((λ same. omega arith), from_none n ps)

-- they are in ascending order
pub rising_pairs : (n : ℕ) (ps : Pairs) → IsStrictlySortedBy pair_cmp ps → IsRisingFrom 0 (holders_in ps n)
rising_pairs n ps sorted = rising_in 0 n ps sorted (from_none n ps)

-- there are no more of them than pairs
pub few_holders : (n : ℕ) (ps : Pairs) → length (holders_in ps n) ≤ length ps
few_holders n [] = omega arith
few_holders n (p ∷ ps) = elim (cases_eq p.1 n) [
  | inl same ↦ rw (eq-eqb p.1 n same) (omega (arith, few_holders n ps))
  | inr apart ↦ rw (ne_eqb p.1 n apart) (omega (arith, few_holders n ps))
]

module _ (ps qs : Pairs) (sorted : IsStrictlySortedBy pair_cmp ps) (ordered : IsStrictlySortedBy pair_cmp qs) where
  -- they are determined by the pairs with the filing
  pub holders_same : (n : ℕ) → ((t : ℕ) → is_paired qs t n ≡ is_paired ps t n) → holders_in qs n ≡ holders_in ps n
  holders_same n same = same_rows 0 (holders_in qs n) (holders_in ps n) (rising_pairs n qs ordered) (rising_pairs n ps sorted) (λ t. has_pair t n qs ∙ same t ∙ sym (has_pair t n ps))

-- a filing without pairs has no holders
pub holders_none : (n : ℕ) (ps : Pairs) → ((t : ℕ) → is_paired ps t n ≡ false) → IsStrictlySortedBy pair_cmp ps → holders_in ps n ≡ []
holders_none n ps none sorted = same_rows 0 (holders_in ps n) [] (rising_pairs n ps sorted) tt (λ t. has_pair t n ps ∙ none t)

-- ---- one pair changes

-- the pairs after one came or went
abbrev pub Changes : ℕ → ℕ → Bool → Pairs → Pairs → Type 0
Changes t k b ps qs = (q : ℕ × ℕ) → is_paired qs q.0 q.1 ≡ cond (is_at (pair_cmp (t, k)) q) b (is_paired ps q.0 q.1)

module _ (t k : ℕ) (b : Bool) (ps qs : Pairs) (changes : Changes t k b ps qs) where
  -- another filing has the same pairs
  pub elsewhere : (u n : ℕ) → k ≢ n → is_paired qs u n ≡ is_paired ps u n
  elsewhere u n apart = changes (u, n) ∙ rw (at_pair t k (u, n), ne_eqb k n apart, and_false (t == u)) refl

  -- the filing has those of other tenants
  pub at_filing : (u : ℕ) → is_paired qs u k ≡ cond (t == u) b (is_paired ps u k)
  at_filing u = changes (u, k) ∙ rw (at_pair t k (u, k), eq-eqb k k refl, and_true (t == u)) refl

  module _ (sorted : IsStrictlySortedBy pair_cmp ps) (ordered : IsStrictlySortedBy pair_cmp qs) where
    pub holders_elsewhere : (n : ℕ) → k ≢ n → holders_in qs n ≡ holders_in ps n
    holders_elsewhere n apart = holders_same ps qs sorted ordered n (λ u. elsewhere u n apart)

or_cond : (a b : Bool) → cond a true b ≡ (a || b)
or_cond true b = refl
or_cond false b = refl

and_cond : (a b : Bool) → cond a false b ≡ (b && not a)
and_cond true b = sym (and_false b)
and_cond false b = sym (and_true b)

module _ (t k : ℕ) (ps qs : Pairs) (sorted : IsStrictlySortedBy pair_cmp ps) (ordered : IsStrictlySortedBy pair_cmp qs) where
  -- a pair that came adds its tenant to the holders of its filing
  pub holders_with : Changes t k true ps qs → holders_in qs k ≡ with_holder t (holders_in ps k)
  holders_with changes =
      let hs = holders_in ps k in
      let rising = rising_pairs k ps sorted in
      same_rows 0 (holders_in qs k) (with_holder t hs) (rising_pairs k qs ordered) (rising_with 0 t hs (omega arith) rising) (λ u.
      has_pair u k qs ∙ at_filing t k true ps qs changes u ∙ or_cond (t == u) (is_paired ps u k) ∙ ap (λ (b : Bool). (t == u) || b) (sym (has_pair u k ps)) ∙ sym (has_with t u hs))

  -- a pair that went removes it
  pub holders_without : Changes t k false ps qs → holders_in qs k ≡ without_holder t (holders_in ps k)
  holders_without changes =
      let hs = holders_in ps k in
      let rising = rising_pairs k ps sorted in
      same_rows 0 (holders_in qs k) (without_holder t hs) (rising_pairs k qs ordered) (rising_without 0 t hs rising) (λ u.
      has_pair u k qs ∙ at_filing t k false ps qs changes u ∙ and_cond (t == u) (is_paired ps u k) ∙ ap (λ (b : Bool). b && not (t == u)) (sym (has_pair u k ps)) ∙ sym (has_without t u 0 hs rising))

-- ---- nothing changes

undone_step : (at : Bool) (before after : Bool) → (at ≡ true → before ≡ false) → after ≡ cond at false (cond at true before) → after ≡ before
undone_step true before after fresh is = is ∙ sym (fresh refl)
undone_step false before after fresh is = is

-- a pair that was new came, and went again
pub undone : (t k : ℕ) (ps rs qs : Pairs) → is_paired ps t k ≡ false → Changes t k true ps rs → Changes t k false rs qs → (u n : ℕ) → is_paired qs u n ≡ is_paired ps u n
undone t k ps rs qs fresh came went u n =
    undone_step (is_at (pair_cmp (t, k)) (u, n)) (is_paired ps u n) (is_paired qs u n) (λ at. same_pair (sym (at_pair t k (u, n)) ∙ at))
    (went (u, n) ∙ ap (λ (b : Bool). cond (is_at (pair_cmp (t, k)) (u, n)) false b) (came (u, n)))
  where
    same_pair : ((t == u) && (k == n)) ≡ true → is_paired ps u n ≡ false
    same_pair both = elim (cases_eq t u) [
      | inl one ↦ elim (cases_eq k n) [
        | inl two ↦ subst (λ (j : ℕ). is_paired ps u j ≡ false) two (subst (λ (v : ℕ). is_paired ps v k ≡ false) one fresh)
        | inr apart ↦ absurd (let no = rw (ne_eqb k n apart, and_false (t == u)) at both in cc)
      ]
      | inr apart ↦ absurd (let no = rw (ne_eqb t u apart) at both in cc)
    ]

-- what is new was not there
pub was_absent : (is_new there : Bool) → is_new ≡ not there → is_new ≡ true → there ≡ false
was_absent is_new true is new = absurd (cc)
was_absent is_new false is new = refl
