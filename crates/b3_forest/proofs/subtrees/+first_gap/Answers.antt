use Rattle.std.proofs.Common.{◌≡◌, ◌+◌, ◌^◌, arith, sym, inl, inr}
use Rattle.std.proofs.lemmas.Bool.{cases_lt}
use Rattle.b3_forest.proofs.Pairs.{level_most}
use Rattle.b3_forest.proofs.Places.{held_in}
use Rattle.b3_forest.proofs.subtrees.+first_gap.Goals as goal

pub width-requires : goal.width-requires
width-requires t c = level_most c.requires.0 c.args.subtrees.now.entries c.args.next c.in-Some.subtree.now c.requires.1 (sym c.in-Some.ensures.value)

pub overflow_add-next : goal.overflow_add-next
overflow_add-next t c =
    let within = c.requires.1.within c.args.next c.in-Some.subtree.now (sym c.in-Some.ensures.value) in
    omega (arith, c.width.ensures, within)

pub returns-in-Some-clause-gap : goal.returns-in-Some-clause-gap
returns-in-Some-clause-gap t c x forest most bound held past =
    let es = c.args.subtrees.now.entries in
    let n = c.in-Some.subtree.now in
    let here = sym c.in-Some.ensures.value in
    let within = forest.pieces.within c.args.next n here in
    let next : c.args.next + c.width.result ≡ c.args.next + 2 ^ n.level = omega (arith, c.width.ensures) in
    c.first_gap.ensures.gap x forest (omega (arith, next, within)) (inr (c.args.next, n, here, sym next))
    (λ i before. elim (cases_lt i c.args.next) [
      | inl old ↦ held i old
      | inr new ↦ held_in x es c.args.next i n forest.pieces here new (omega (arith, before, next))
    ]) past

pub returns-in-Some-clause-bounded : goal.returns-in-Some-clause-bounded
returns-in-Some-clause-bounded t c x forest most =
    let es = c.args.subtrees.now.entries in
    let n = c.in-Some.subtree.now in
    let here = sym c.in-Some.ensures.value in
    let within = forest.pieces.within c.args.next n here in
    c.first_gap.ensures.bounded x forest (omega (arith, c.width.ensures, within))
