use Rattle.std.proofs.Common.{arith}
use Rattle.b3_forest.specs.inner.Subtrees.{IsLeastHeld, IsNextFrom, NoneFrom, NoneHeld}
use Rattle.b3_forest.proofs.Pairs.{level_most}
use Rattle.b3_forest.proofs.Places.{NoneReaches, if_none_by, if_some_by, least_at_start, least_next, none_held, none_reaches, nothing_reaches}
use Rattle.b3_forest.proofs.subtrees.first_held.Goals as goal
use Rattle.b3_forest.proofs.subtrees.first_held.Goals.{in_default-via-in-Some+else-start-first, in_default-via-in_default}

pub width-requires : goal.width-requires
width-requires c = level_most c.requires.pieces.0 c.args.subtrees.now.entries c.in-Some.first c.in-Some.subtree c.requires.pieces.1 c.in-Some.ensures.found.is

pub returns-in-Some-clause-least : goal.returns-in-Some-clause-least
returns-in-Some-clause-least c x forest =
    let es = c.args.subtrees.now.entries in
    let last = c.in-Some.ensures.found in
    let wide = c.width.ensures in
    let test = c.if-start-first.true in
    least_at_start x es c.args.start c.args.end c.in-Some.first c.in-Some.subtree forest c.requires.order last (omega (arith, wide, test, last.upto))

pub returns-in_default-clause-least : goal.returns-in_default-clause-least
returns-in_default-clause-least c x forest =
    let es = c.args.subtrees.now.entries in
    let reaches : NoneReaches es c.args.start = elim c.in_default.branch [
      | in_default-via-in-Some+else-start-first w ↦
          let last = w.in-Some.ensures.found in
          let wide = w.width.ensures in
          let test = w.if-start-first.false in
          none_reaches x es c.args.start w.in-Some.first w.in-Some.subtree forest last (omega (arith, wide, test, last.upto))
      | in_default-via-in_default w ↦ nothing_reaches es c.args.start w.in_default.ensures.none
    ] in
    if_some_by c.next_from.result (IsNextFrom es c.args.start c.args.end) (IsLeastHeld x c.args.start c.args.end)
    (λ first next. least_next x es c.args.start c.args.end first forest reaches next) c.next_from.ensures.found

pub returns-in_default-clause-none : goal.returns-in_default-clause-none
returns-in_default-clause-none c x most forest =
    let es = c.args.subtrees.now.entries in
    let reaches : NoneReaches es c.args.start = elim c.in_default.branch [
      | in_default-via-in-Some+else-start-first w ↦
          let last = w.in-Some.ensures.found in
          let wide = w.width.ensures in
          let test = w.if-start-first.false in
          none_reaches x es c.args.start w.in-Some.first w.in-Some.subtree forest last (omega (arith, wide, test, last.upto))
      | in_default-via-in_default w ↦ nothing_reaches es c.args.start w.in_default.ensures.none
    ] in
    if_none_by c.next_from.result (NoneFrom es c.args.start c.args.end) (NoneHeld x c.args.start c.args.end)
    (λ none. none_held x es c.args.start c.args.end forest most reaches none) c.next_from.ensures.none
