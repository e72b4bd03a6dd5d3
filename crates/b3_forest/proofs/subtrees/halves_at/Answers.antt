use Rattle.std.proofs.Common.{ℕ, arith, ap, sym, ◌∙◌, subst}
use Rattle.std.proofs.lemmas.Nat.{pow_pos}
use Rattle.b3_core.specs.Tree.{ModelTop}
use Rattle.b3_forest.specs.inner.Subtrees.{IsPair}
use Rattle.b3_forest.specs.declared.piece.Subtree.{Subtree}
use Rattle.b3_forest.proofs.Merging.{some_same}
use Rattle.b3_forest.proofs.Pairs.{level_most, other_alone, other_place, pair_of, pair_to}
use Rattle.b3_forest.proofs.subtrees.halves_at.Goals as goal
use Rattle.b3_forest.proofs.subtrees.halves_at.Goals.{then-first-place, else-first-place}

pub width-requires : goal.width-requires
width-requires c = level_most c.requires.0 c.args.subtrees.now.entries c.args.first c.in-Some.subtree.now c.requires.1 (sym c.in-Some.ensures.value)

pub other_half-place-requires : goal.other_half-place-requires
other_half-place-requires c =
    let within = c.requires.1.within c.args.first c.in-Some.subtree.now (sym c.in-Some.ensures.value) in
    let pos = pow_pos c.in-Some.subtree.now.level in
    record { positive = omega (arith, c.width.ensures, pos); within = omega (arith, c.width.ensures, within) }

pub returns-in_default-get-clause-alone : goal.returns-in_default-get-clause-alone
returns-in_default-get-clause-alone c =
    let x = c.requires.0 in
    let pieces = c.requires.1 in
    let es = c.args.subtrees.now.entries in
    let here = sym c.in-Some.ensures.value in
    let other = other_place x es c.args.first c.in-Some.subtree.now c.width.result c.other_half-place.result pieces here c.width.ensures c.other_half-place.ensures in
    other_alone es c.args.first c.other_half-place.result c.in-Some.subtree.now here other (λ m is. let none = c.in_default-get.ensures.value ∙ is in cc)

pub returns-then-other-subtree-clause-alone : goal.returns-then-other-subtree-clause-alone
returns-then-other-subtree-clause-alone c =
    let x = c.requires.0 in
    let pieces = c.requires.1 in
    let es = c.args.subtrees.now.entries in
    let here = sym c.in-Some.ensures.value in
    let other = other_place x es c.args.first c.in-Some.subtree.now c.width.result c.other_half-place.result pieces here c.width.ensures c.other_half-place.ensures in
    other_alone es c.args.first c.other_half-place.result c.in-Some.subtree.now here other
    (λ m is level. c.if-other-subtree.true (ap (λ (k : Subtree). k.level) (some_same _ m (c.in-Some-get.ensures.value ∙ is)) ∙ level))

pub returns-clause-pair : goal.returns-clause-pair
returns-clause-pair c =
    let x = c.requires.0 in
    let pieces = c.requires.1 in
    let es = c.args.subtrees.now.entries in
    let here = sym c.in-Some.ensures.value in
    let there = sym c.in-Some-get.ensures.value in
    let place = c.other_half-place.result in
    let subtree = c.in-Some.subtree.now in
    let other = c.in-Some-get.other.now in
    let half = other_place x es c.args.first subtree c.width.result place pieces here c.width.ensures c.other_half-place.ensures in
    let Made = λ (p : ℕ × ℕ × ModelTop × ModelTop). IsPair es c.args.first (record { left = p.0; right = p.1; level = subtree.level; left_top = p.2; right_top = p.3 }) in
    elim c.if-first-place.branch [
      | then-first-place w ↦ subst Made (sym w.left-is) (pair_of x es c.args.first place subtree other pieces here there c.if-other-subtree.false half w.if-first-place.true)
      | else-first-place w ↦ subst Made (sym w.left-is) (pair_to x es c.args.first place subtree other pieces here there c.if-other-subtree.false half (λ before. omega (arith, before, w.if-first-place.false)))
    ]
