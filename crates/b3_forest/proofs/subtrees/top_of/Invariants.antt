use Rattle.std.proofs.Common.{◌≡◌, ◌*◌, ◌-◌, length}
use Rattle.std.specs.Map.{values_of}
use Rattle.b3_core.specs.Work.{counted}
use Rattle.b3_forest.specs.inner.Subtrees.{parents_left, top_before, top_over}
use Rattle.b3_forest.proofs.subtrees.top_of.Given as goal

abbrev pub invariant-loop-subtree : goal.invariant-loop-subtree
invariant-loop-subtree l = record {
  top : top_before l.subtree-iterator.iter l.top ≡ top_over (values_of l.subtrees.entries);
  work : counted l.work (2 * parents_left l.subtree-iterator.iter l.top) ≡ counted l.fn.work (2 * (length l.subtrees.entries - 1));
}
