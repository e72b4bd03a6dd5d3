-- Where pieces are in a map.
use Rattle.std.proofs.Common.{◌≡◌, ℕ, ◌+◌, ◌^◌, ◌<◌, ◌≤◌, ◌++◌, List, [], ◌∷◌, Option, Some, None, true, false, arith, refl, ap, sym, ◌∙◌, inl, inr}
use Rattle.std.specs.Prelude.{IfNone, IfSome, IsSome}
use Rattle.std.specs.BTreeMap.{BTreeMap}
use Rattle.std.specs.BTreeMap.Range.{IsRangeOf}
use Rattle.std.specs.Ordering.{nat_cmp}
use Rattle.std.specs.declared.ops.Bound.TheVariants.{Included, Excluded, Unbounded}
use Rattle.std.proofs.lemmas.Bool.Decides.{nat_tests}
use Rattle.std.proofs.lemmas.Bool.{cases_lt}
use Rattle.std.proofs.lemmas.Nat.{pow_pos}
use Rattle.b3_forest.specs.Subtrees.{Subtrees, AreForest, ArePieces, HasChunk, subtree_at}
use Rattle.b3_forest.specs.inner.Subtrees.{IsLastUpto, IsLeastHeld, IsNextFrom, NoneFrom, NoneHeld, NoneUpto, is_held}
use Rattle.b3_forest.specs.Pieces.{max_chunks}
use Rattle.b3_forest.specs.declared.piece.Subtree.{Subtree}
use Rattle.b3_forest.proofs.Chunks.{full_at}
use Rattle.b3_forest.proofs.Maps.{three}
use Rattle.b3_forest.proofs.Merging.{some_same}
use Rattle.b3_forest.proofs.OneForest.{bool_cases}

is_some_of : (o : Option Subtree) (m : Subtree) → o ≡ Some m → IsSome o
is_some_of (Some n) m is = refl
is_some_of None m is = cc

pub if_some_by : (o : Option ℕ) (P Q : ℕ → Type 0) → ((v : ℕ) → P v → Q v) → IfSome o P → IfSome o Q
if_some_by (Some v) P Q by holds = by v holds
if_some_by None P Q by holds = tt

pub if_none_by : (o : Option ℕ) (P Q : Type 0) → (P → Q) → IfNone o P → IfNone o Q
if_none_by (Some v) P Q by holds = tt
if_none_by None P Q by holds = by holds

-- ---- ranges of the map

pub last_upto : (m : BTreeMap ℕ Subtree) (start first : ℕ) (n : Subtree) (r t : List (ℕ × Subtree)) → IsRangeOf nat_cmp Unbounded (Included start) m r
    → r ≡ t ++ (first, n) ∷ [] → IsLastUpto m.entries start first n
last_upto m start first n r t range cut =
    let e = range.3 (first, n) t cut in
    record {
      upto = let low = e.0.1 in grind (arith, nat_tests, low);
      is = e.1;
      last = λ s k is upto. let order = range.4 (first, n) t cut s (tt, grind (arith, nat_tests)) (is_some_of _ k is) in grind (arith, nat_tests, order);
    }

pub none_upto : (m : BTreeMap ℕ Subtree) (start : ℕ) (r : List (ℕ × Subtree)) → IsRangeOf nat_cmp Unbounded (Included start) m r → r ≡ [] → NoneUpto m.entries start
none_upto m start r range empty s k is = elim (cases_lt start s) [
  | inl following ↦ following
  | inr upto ↦ let none = range.5 empty s (tt, grind (arith, nat_tests)) in let bad = sym is ∙ none in cc
]

pub next_from : (m : BTreeMap ℕ Subtree) (start end first : ℕ) (n : Subtree) (r t : List (ℕ × Subtree)) → IsRangeOf nat_cmp (Included start) (Excluded end) m r
    → r ≡ (first, n) ∷ t → IsNextFrom m.entries start end first
next_from m start end first n [] t range cut = cc
next_from m start end first n (f ∷ r) t range cut =
    let same : f ≡ (first, n) = cc in
    let key : f.0 ≡ first = ap (λ (e : ℕ × Subtree). e.0) same in
    let subtree : f.1 ≡ n = ap (λ (e : ℕ × Subtree). e.1) same in
    let e = range.1 in
    let below : first < end = let high = e.0.1 in grind (arith, nat_tests, high, key) in
    record {
      from = let low = e.0.0 in grind (arith, nat_tests, low, key);
      below = below;
      is = (n, ap (subtree_at m.entries) (sym key) ∙ e.1 ∙ ap Some subtree);
      next = λ s k is from. elim (cases_lt s end) [
        | inl inside ↦ let order = range.2 s (grind (arith, nat_tests), grind (arith, nat_tests)) (is_some_of _ k is) in grind (arith, nat_tests, order, key)
        | inr outside ↦ omega (arith, below, outside)
      ];
    }

pub none_from : (m : BTreeMap ℕ Subtree) (start end : ℕ) (r : List (ℕ × Subtree)) → IsRangeOf nat_cmp (Included start) (Excluded end) m r → r ≡ [] → NoneFrom m.entries start end
none_from m start end r range empty s k is from = elim (cases_lt s end) [
  | inl inside ↦ let none = range.5 empty s (grind (arith, nat_tests), grind (arith, nat_tests)) in let bad = sym is ∙ none in cc
  | inr outside ↦ outside
]

-- ---- held chunks

pub held_in : (x : ℕ → List ℕ) (es : Subtrees) (s i : ℕ) (n : Subtree) → ArePieces x es → subtree_at es s ≡ Some n → s ≤ i → i < s + 2 ^ n.level → is_held x i ≡ true
held_in x es s i n pieces is after before = full_at x n.level s i (pieces.lawful s n is).full after before

-- what is not held, where no piece can be
not_held : (x : ℕ → List ℕ) (es : Subtrees) (i : ℕ) → AreForest x [] es → i < max_chunks → (HasChunk es i → ⊥) → is_held x i ≡ false
not_held x es i forest low never = elim (bool_cases (is_held x i)) [
  | inl held ↦ absurd (never (forest.all i held low))
  | inr none ↦ none
]

pub least_at_start : (x : ℕ → List ℕ) (es : Subtrees) (start end first : ℕ) (n : Subtree) → AreForest x [] es → start < end → IsLastUpto es start first n → start < first + 2 ^ n.level
    → IsLeastHeld x start end start
least_at_start x es start end first n forest order last inside = record {
  after = omega arith;
  before = order;
  held = held_in x es first start n forest.pieces last.is last.upto inside;
  least = λ i after before. absurd (omega (arith, after, before));
}

-- no piece reaches past the start
pub record NoneReaches (es : Subtrees) (start : ℕ) : Type 0 where
  pub none : (s : ℕ) (m : Subtree) → subtree_at es s ≡ Some m → s ≤ start → s + 2 ^ m.level ≤ start

pub none_reaches : (x : ℕ → List ℕ) (es : Subtrees) (start first : ℕ) (n : Subtree) → AreForest x [] es → IsLastUpto es start first n → first + 2 ^ n.level ≤ start → NoneReaches es start
none_reaches x es start first n forest last before = record {
  none = λ s m is upto. elim (three s first) [
    | inl less ↦ let apart = forest.pieces.apart s first m n is last.is less in omega (arith, apart, last.upto)
    | inr (inl same) ↦
        let subtree : m ≡ n = some_same m n (sym is ∙ ap (subtree_at es) same ∙ last.is) in
        let wide : 2 ^ m.level ≡ 2 ^ n.level = ap (λ (k : Subtree). 2 ^ k.level) subtree in
        omega (arith, before, same, wide)
    | inr (inr more) ↦ let late = last.last s m is upto in absurd (omega (arith, late, more))
  ];
}

pub nothing_reaches : (es : Subtrees) (start : ℕ) → NoneUpto es start → NoneReaches es start
nothing_reaches es start none = record { none = λ s m is upto. let late = none s m is in absurd (omega (arith, late, upto)) }

pub least_next : (x : ℕ → List ℕ) (es : Subtrees) (start end first : ℕ) → AreForest x [] es → NoneReaches es start → IsNextFrom es start end first → IsLeastHeld x start end first
least_next x es start end first forest reaches next =
    let found = next.is in
    let wide = pow_pos found.0.level in
    let most = forest.pieces.within first found.0 found.1 in
    record {
      after = next.from;
      before = next.below;
      held = held_in x es first first found.0 forest.pieces found.1 (omega arith) (omega (arith, wide));
      least = λ i after before. not_held x es i forest (omega (arith, before, most, wide)) (λ has.
          elim (cases_lt start has.first) [
            | inl following ↦ let late = next.next has.first has.subtree has.is (omega (arith, following)) in omega (arith, late, has.after, before)
            | inr upto ↦ let short = reaches.none has.first has.subtree has.is upto in omega (arith, short, has.before, after)
          ]);
    }

pub none_held : (x : ℕ → List ℕ) (es : Subtrees) (start end : ℕ) → AreForest x [] es → end ≤ max_chunks → NoneReaches es start → NoneFrom es start end → NoneHeld x start end
none_held x es start end forest most reaches none i after before = not_held x es i forest (omega (arith, before, most)) (λ has.
    elim (cases_lt start has.first) [
      | inl following ↦ let late = none has.first has.subtree has.is (omega (arith, following)) in omega (arith, late, has.after, before)
      | inr upto ↦ let short = reaches.none has.first has.subtree has.is upto in omega (arith, short, has.before, after)
    ])
