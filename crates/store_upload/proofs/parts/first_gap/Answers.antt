use Rattle.std.proofs.Common.{◌≡◌, ◌∙◌, ◌+◌, ◌≤◌, ℕ, List, [], ◌∷◌, arith, ap, refl, sym, subst}
use Rattle.std.proofs.lemmas.Bool.{eq-eqb, ne_eqb}
use Rattle.store_upload.specs.inner.Places.{AreApart}
use Rattle.store_upload.specs.Uploads.{end_of, first_gap}
use Rattle.store_upload.proofs.parts.first_gap.Goals as goal

module _ {P : Type 0} (len : P → ℕ) where
  gap_none : (a : ℕ) → first_gap len a [] ≡ a
  unfolding first_gap
  gap_none a = refl

  gap_stop : (a : ℕ) (p : ℕ × P) (ps : List (ℕ × P)) → (p.0 ≡ a → ⊥) → first_gap len a (p ∷ ps) ≡ a
  unfolding first_gap
  gap_stop a p ps other = rw (ne_eqb p.0 a other, first_gap) refl

  gap_step : (a : ℕ) (p : ℕ × P) (ps : List (ℕ × P)) → p.0 ≡ a → first_gap len a (p ∷ ps) ≡ first_gap len (a + len p.1) ps
  unfolding first_gap
  gap_step a p ps same = rw (eq-eqb p.0 a same, first_gap) (ap (λ (k : ℕ). first_gap len (k + len p.1) ps) same)

  apart_within : (a n : ℕ) (ps : List (ℕ × P)) → AreApart len a n ps → a ≤ n
  apart_within a n [] h = h
  apart_within a n (p ∷ ps) h = let rest = apart_within (end_of len p) n ps h.2 in omega (arith, rest, h.0)

pub returns-then-start-at : goal.returns-then-start-at
returns-then-start-at g c =
    let len = g.P.Length.len in
    let inv = c.loop-start.invariant in
    sym (inv.3 ∙ ap (first_gap len c.loop-start.at) c.in-Some.ensures.steps ∙ gap_stop len c.loop-start.at (c.in-Some.start.now, c.in-Some.part.now) c.next.new.self c.if-start-at.true)

pub overflow_add-at : goal.overflow_add-at
overflow_add-at g c =
    let len = g.P.Length.len in
    let inv = c.loop-start.invariant in
    let here = subst (AreApart len c.loop-start.at inv.0) c.in-Some.ensures.steps inv.2 in
    let most = apart_within len (c.in-Some.start.now + len c.in-Some.part.now) inv.0 c.next.new.self here.2 in
    let fits = inv.1 in
    omega (arith, most, fits, c.if-start-at.false, c.length-at.ensures)

pub loop-start-preserved : goal.loop-start-preserved
loop-start-preserved g c =
    let len = g.P.Length.len in
    let inv = c.loop-start.invariant in
    let same = c.if-start-at.false in
    let here = subst (AreApart len c.loop-start.at inv.0) c.in-Some.ensures.steps inv.2 in
    let at : c.in-Some.start.now + len c.in-Some.part.now ≡ c.loop-start.at + c.length-at.result = omega (arith, same, c.length-at.ensures) in
    let next : c.loop-start.at + len c.in-Some.part.now ≡ c.loop-start.at + c.length-at.result = omega (arith, c.length-at.ensures) in (
      inv.0,
      inv.1,
      subst (λ (k : ℕ). AreApart len k inv.0 c.next.new.self) at here.2,
      inv.3 ∙ ap (first_gap len c.loop-start.at) c.in-Some.ensures.steps ∙ gap_step len c.loop-start.at (c.in-Some.start.now, c.in-Some.part.now) c.next.new.self same ∙ ap (λ (k : ℕ). first_gap len k c.next.new.self) next,
    )

pub returns : goal.returns
returns g c =
    let len = g.P.Length.len in
    let inv = c.loop-start.invariant in
    sym (inv.3 ∙ ap (first_gap len c.loop-start.at) c.in-None.ensures.steps.0 ∙ gap_none len c.loop-start.at)
