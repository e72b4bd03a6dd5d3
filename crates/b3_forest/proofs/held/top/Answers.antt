use Rattle.std.proofs.Common.{◌≡◌, ◌*◌, ◌-◌, ℕ, List, arith, ap, ap₂, sym, ◌∙◌}
use Rattle.b3_core.specs.Tree.{ModelMode, tree_top}
use Rattle.b3_core.specs.Work.{counted}
use Rattle.b3_forest.specs.Parts.{chunk_in}
use Rattle.b3_forest.proofs.Canonical.{forest_count}
use Rattle.b3_forest.proofs.KeptPieces.{finish_empty, finish_length, finish_top}
use Rattle.b3_forest.proofs.held.top.Goals as goal

pub returns-in-Some-clause-top : goal.returns-in-Some-clause-top
returns-in-Some-clause-top c n ps all = finish_top n ps c.args.subtrees.now.entries c.in-Some.top c.tree_laws.ensures.join all c.in-Some.ensures.top

pub returns-in-Some-clause-len : goal.returns-in-Some-clause-len
returns-in-Some-clause-len c n ps all = finish_length n ps c.args.subtrees.now.entries all

pub returns-in-Some-clause-count : goal.returns-in-Some-clause-count
returns-in-Some-clause-count c n ps all =
    let count = forest_count (chunk_in ps) c.args.subtrees.now.entries all.keeps.sorted all.keeps.forest in
    c.in-Some.ensures.count ∙ ap (λ i. counted c.args.work.now (2 * (i - 1))) count

pub returns-in-None-clause-top : goal.returns-in-None-clause-top
returns-in-None-clause-top c n ps all =
    let empty = finish_empty n ps c.args.subtrees.now.entries c.tree_laws.ensures.join all c.in-None.ensures.top in
    c.of_input.ensures.node ∙ ap₂ (λ (b : List ℕ) (m : ModelMode). tree_top b 0 m) (sym empty) c.hash.ensures

pub returns-in-None-clause-len : goal.returns-in-None-clause-len
returns-in-None-clause-len c n ps all = finish_length n ps c.args.subtrees.now.entries all

pub returns-in-None-clause-count : goal.returns-in-None-clause-count
returns-in-None-clause-count c n ps all =
    let count = forest_count (chunk_in ps) c.args.subtrees.now.entries all.keeps.sorted all.keeps.forest in
    let none : c.of_input.new.work ≡ c.top_of.new.work = omega (arith, c.of_input.ensures.count) in
    none ∙ c.in-None.ensures.count ∙ ap (λ i. counted c.args.work.now (2 * (i - 1))) count
