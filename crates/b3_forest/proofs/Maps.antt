-- Look-ups in a map of pieces.
use Rattle.std.proofs.Common.{◌≡◌, ℕ, ◌+◌, ◌<◌, ◌⊎◌, List, [], ◌∷◌, length, Some, None, true, false, Less, Equal, Greater, arith, refl, ap, sym, ◌∙◌, inl, inr}
use Rattle.std.specs.Prelude.{◌≢◌, cond}
use Rattle.std.specs.BTreeMap.{insert_entry, is_at}
use Rattle.std.specs.Map.{lookup, remove_entry}
use Rattle.std.specs.Ordering.{nat_cmp}
use Rattle.std.proofs.lemmas.Bool.Decides.{nat_tests}
use Rattle.std.proofs.lemmas.Bool.{cases_lt}
use Rattle.b3_forest.specs.Subtrees.{Subtrees, subtree_at}
use Rattle.b3_forest.specs.declared.piece.Subtree.{Subtree}

pub at_same : (k : ℕ) → is_at (nat_cmp k) k ≡ true
at_same k = grind (arith, nat_tests)

pub at_other : (q k : ℕ) → q ≢ k → is_at (nat_cmp q) k ≡ false
at_other q k apart = grind (arith, nat_tests)

-- a number is below another, is it, or is above it
pub three : (a b : ℕ) → (a < b) ⊎ ((a ≡ b) ⊎ (b < a))
three a b = elim (cases_lt a b) [
  | inl less ↦ inl less
  | inr not_less ↦ elim (cases_lt b a) [ inl more ↦ inr (inr more) | inr same ↦ inr (inl (omega arith)) ]
]

pub same_or : (a b : ℕ) → (a ≡ b) ⊎ (a ≢ b)
same_or a b = elim (three a b) [
  | inl less ↦ inr (λ same. omega (arith, less, same))
  | inr (inl same) ↦ inl same
  | inr (inr more) ↦ inr (λ same. omega (arith, more, same))
]

-- ---- an entry put in

pub put_here : {X : Type 0} (es : List (ℕ × X)) (k : ℕ) (v : X) → lookup (is_at (nat_cmp k)) (insert_entry nat_cmp es k v) ≡ Some v
put_here [] k v = rw (at_same k) refl
put_here (e ∷ es) k v = elim (three k e.0) [
  | inl less ↦ let c : nat_cmp k e.0 ≡ Less = grind (arith, nat_tests) in rw (c, at_same k) refl
  | inr (inl same) ↦
      let c : nat_cmp k e.0 ≡ Equal = grind (arith, nat_tests) in
      let at : is_at (nat_cmp k) e.0 ≡ true = grind (arith, nat_tests) in
      rw (c, at) refl
  | inr (inr more) ↦
      let c : nat_cmp k e.0 ≡ Greater = grind (arith, nat_tests) in
      let other = at_other k e.0 (λ h. omega (arith, more, h)) in
      rw (c, other) (put_here es k v)
]

pub put_apart : {X : Type 0} (es : List (ℕ × X)) (k q : ℕ) (v : X) → q ≢ k → lookup (is_at (nat_cmp q)) (insert_entry nat_cmp es k v) ≡ lookup (is_at (nat_cmp q)) es
put_apart [] k q v apart = rw (at_other q k apart) refl
put_apart (e ∷ es) k q v apart = elim (three k e.0) [
  | inl less ↦ let c : nat_cmp k e.0 ≡ Less = grind (arith, nat_tests) in rw (c, at_other q k apart) refl
  | inr (inl same) ↦
      let c : nat_cmp k e.0 ≡ Equal = grind (arith, nat_tests) in
      let other = at_other q e.0 (λ h. apart (h ∙ sym same)) in
      rw (c, other) refl
  | inr (inr more) ↦
      let c : nat_cmp k e.0 ≡ Greater = grind (arith, nat_tests) in
      rw c (ap (cond (is_at (nat_cmp q) e.0) (Some e.1)) (put_apart es k q v apart))
]

-- what is put in where nothing stood, and taken out again
pub put_and_taken : (es : Subtrees) (k : ℕ) (v : Subtree) → subtree_at es k ≡ None → remove_entry (is_at (nat_cmp k)) (insert_entry nat_cmp es k v) ≡ es
put_and_taken [] k v none = rw (at_same k) refl
put_and_taken (e ∷ es) k v none = elim (three k e.0) [
  | inl less ↦ let c : nat_cmp k e.0 ≡ Less = grind (arith, nat_tests) in rw (c, at_same k) refl
  | inr (inl same) ↦
      let at : is_at (nat_cmp k) e.0 ≡ true = grind (arith, nat_tests) in
      let found : subtree_at (e ∷ es) k ≡ Some e.1 = rw at refl in
      cc
  | inr (inr more) ↦
      let c : nat_cmp k e.0 ≡ Greater = grind (arith, nat_tests) in
      let other = at_other k e.0 (λ h. omega (arith, more, h)) in
      let rest : subtree_at es k ≡ None = sym (rw other refl) ∙ none in
      rw (c, other) (ap (λ (r : Subtrees). e ∷ r) (put_and_taken es k v rest))
]

pub length_put : (es : Subtrees) (k : ℕ) (v : Subtree) → subtree_at es k ≡ None → length (insert_entry nat_cmp es k v) ≡ length es + 1
length_put [] k v none = refl
length_put (e ∷ es) k v none = elim (three k e.0) [
  | inl less ↦ let c : nat_cmp k e.0 ≡ Less = grind (arith, nat_tests) in rw c (omega arith)
  | inr (inl same) ↦
      let at : is_at (nat_cmp k) e.0 ≡ true = grind (arith, nat_tests) in
      let found : subtree_at (e ∷ es) k ≡ Some e.1 = rw at refl in
      cc
  | inr (inr more) ↦
      let c : nat_cmp k e.0 ≡ Greater = grind (arith, nat_tests) in
      let other = at_other k e.0 (λ h. omega (arith, more, h)) in
      let rest : subtree_at es k ≡ None = sym (rw other refl) ∙ none in
      let more = length_put es k v rest in
      rw c (omega (arith, more))
]
