use Rattle.b3_forest.proofs.Places.{next_from, none_from}
use Rattle.b3_forest.proofs.subtrees.next_from.Goals as goal

pub returns-in_default-clause-none : goal.returns-in_default-clause-none
returns-in_default-clause-none c = none_from c.args.subtrees.now c.args.start c.args.end c.range.result (c.range.ensures.in_range tt) c.in_default.ensures.steps.0

pub returns-clause-found : goal.returns-clause-found
returns-clause-found c =
    let steps = c.in-Some.ensures.steps in
    next_from c.args.subtrees.now c.args.start c.args.end c.in-Some.first.now _ c.range.result c.next.new.self (c.range.ensures.in_range tt) steps
