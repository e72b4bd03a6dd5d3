use Rattle.b3_forest.proofs.Places.{last_upto, none_upto}
use Rattle.b3_forest.proofs.subtrees.last_upto.Goals as goal

pub returns-in_default-clause-none : goal.returns-in_default-clause-none
returns-in_default-clause-none c = none_upto c.args.subtrees.now c.args.start c.range.result (c.range.ensures.in_range tt) c.in_default.ensures.steps.0

pub returns-clause-found : goal.returns-clause-found
returns-clause-found c =
    last_upto c.args.subtrees.now c.args.start c.in-Some.first.now c.in-Some.subtree.now c.range.result c.next_back.new.self (c.range.ensures.in_range tt) c.in-Some.ensures.steps
