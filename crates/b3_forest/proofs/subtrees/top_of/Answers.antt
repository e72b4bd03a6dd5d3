use Rattle.std.proofs.Common.{◌≡◌, ◌*◌, ◌-◌, Some, None, length, ap, sym, ◌∙◌}
use Rattle.std.proofs.lemmas.Map.Entries.{length-values_of}
use Rattle.b3_core.specs.Tree.{ModelTop, parent_top}
use Rattle.b3_core.specs.Work.{counted}
use Rattle.b3_forest.specs.inner.Subtrees.{top_before}
use Rattle.b3_forest.proofs.Tops.{first_count, more_count, none_count, top_push}
use Rattle.b3_forest.proofs.subtrees.top_of.Goals as goal

pub loop-subtree-init : goal.loop-subtree-init
loop-subtree-init c =
    let all = ap (λ r. r.iter) c.into_iter-subtree-iterator.ensures.into_iter_gives ∙ c.rev-subtree-items.ensures.source ∙ c.values.ensures.rest in
    let len : length c.into_iter-subtree-iterator.result.iter ≡ length c.args.subtrees.now.entries = ap length all ∙ length-values_of c.args.subtrees.now.entries in
    record { top = ap (λ ns. top_before ns None) all; work = ap (λ i. counted c.args.work.now (2 * (i - 1))) len }

pub loop-subtree-preserved-in-None-top : goal.loop-subtree-preserved-in-None-top
loop-subtree-preserved-in-None-top c =
    let steps = c.in-Some.ensures.steps in
    record {
      top = sym (top_push c.next.new.self.iter c.in-Some.subtree.now None) ∙ ap (λ ns. top_before ns None) (sym steps) ∙ ap (top_before c.loop-subtree.subtree-iterator.iter) (sym c.in-None-top.is) ∙ c.loop-subtree.invariant.top;
      work = first_count c.loop-subtree.work _ c.loop-subtree.subtree-iterator.iter c.next.new.self.iter c.in-Some.subtree.now c.loop-subtree.top c.in-None-top.is steps c.loop-subtree.invariant.work;
    }

pub loop-subtree-preserved : goal.loop-subtree-preserved
loop-subtree-preserved c =
    let steps = c.in-Some.ensures.steps in
    let subtree = c.parent.ensures.node ∙ ap (parent_top c.in-Some.subtree.now.top c.in-Some-top.right) c.hash.ensures in
    record {
      top = ap (λ (t : ModelTop). top_before c.next.new.self.iter (Some t)) subtree ∙ sym (top_push c.next.new.self.iter c.in-Some.subtree.now (Some c.in-Some-top.right)) ∙ ap (λ ns. top_before ns (Some c.in-Some-top.right)) (sym steps)
          ∙ ap (top_before c.loop-subtree.subtree-iterator.iter) (sym c.in-Some-top.is) ∙ c.loop-subtree.invariant.top;
      work = more_count c.loop-subtree.work c.parent.new.work _ c.loop-subtree.subtree-iterator.iter c.next.new.self.iter c.in-Some.subtree.now c.in-Some-top.right c.loop-subtree.top c.in-Some-top.is steps c.parent.ensures.count c.loop-subtree.invariant.work;
    }

pub returns-clause-top : goal.returns-clause-top
unfolding top_before
returns-clause-top c = ap (λ ns. top_before ns c.loop-subtree.top) (sym c.in-None.ensures.steps.0) ∙ c.loop-subtree.invariant.top

pub returns-clause-count : goal.returns-clause-count
returns-clause-count c = none_count c.loop-subtree.work _ c.loop-subtree.subtree-iterator.iter c.loop-subtree.top c.in-None.ensures.steps.0 c.loop-subtree.invariant.work
