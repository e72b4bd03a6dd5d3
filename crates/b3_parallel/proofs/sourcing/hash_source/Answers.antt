use Rattle.std.proofs.Common.{◌≡◌, ◌-◌, ◌<◌, ◌^◌, ◌∙◌, ℕ, [], arith, ap, length, rules, subst, sym}
use Rattle.b3_core.specs.Tree.{ModelMode, tree_top}
use Rattle.b3_core.specs.Work.{counted, hash_work}
use Rattle.b3_parallel.specs.inner.Blocks.{IsReady}
use Rattle.b3_parallel.specs.inner.Rounds.{HasFront}
use Rattle.b3_parallel.proofs.Placing.{front_begins}
use Rattle.b3_parallel.proofs.Standing.{same_count}
use Rattle.b3_parallel.proofs.sourcing.hash_source.Goals as goal

pub returns-clause-node : goal.returns-clause-node
returns-clause-node g c =
    let known = g.S.Source.bytes c.args.source.now in
    let all = c.whole-all.result in
    let front = c.new-front.result in
    let ready : IsReady all.mode all.level front [] = subst (λ (p : ModelMode). IsReady p all.level front []) (sym c.whole-all.ensures.mode) (c.new-front.ensures all.level) in
    let begun : HasFront all.mode known all.level front all.first = subst (λ (m : ℕ). HasFront all.mode known all.level front m) (sym c.whole-all.ensures.first) (front_begins all.mode known all.level front ready) in
    let (x, after, size, stands) = c.hash_rounds.ensures begun (search rules) in
    let short : length x < 2 ^ 64 = omega (arith, size, all.end_fits) in
    let (y, given, are) = c.hash_rest.ensures.all x after.1 short stands (search rules) in
    let mode : c.hash_rest.new.front.hasher.mode ≡ c.args.mode.now = c.hash_rest.ensures.mode ∙ after.0 ∙ c.whole-all.ensures.mode in
    let count = c.absorb.ensures ∙ ap (counted c.args.work.now) (c.top-top.ensures.count y given) ∙ same_count c.args.work.now (hash_work (length y) - 1) in
    (y, c.top-top.ensures.node y given ∙ ap (tree_top y 0) mode, are, count)
