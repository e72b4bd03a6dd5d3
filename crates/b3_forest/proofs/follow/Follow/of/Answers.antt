use Rattle.std.proofs.Common.{[], ap, arith, refl, length}
use Rattle.b3_forest.specs.Borrowed.{borrowed_bytes}
use Rattle.b3_forest.specs.Subtrees.{Keeps}
use Rattle.store_upload.specs.Uploads.{UploadPlan}
use Rattle.b3_forest.proofs.Following.{nothing_noted}
use Rattle.b3_forest.proofs.KeptPieces.{keeps_nothing}
use Rattle.b3_forest.proofs.follow.Follow.of.Goals as goal

pub returns-clause-no_pieces : goal.returns-clause-no_pieces
returns-clause-no_pieces c =
    let b = borrowed_bytes c.args.borrowed in
    let es = c.new-subtrees.result.entries in
    let keeps : Keeps (length b) [] es = keeps_nothing (length b) [] es (omega (arith, c.bound-most.ensures.value, c.bound-most.ensures.bounded, ap (λ (q : UploadPlan). q.bound) c.in_ok-plan.ensures.plan)) refl c.new-subtrees.ensures.empty in
    nothing_noted b es keeps c.new-subtrees.ensures.empty

pub invariant_of-result : goal.invariant_of-result
invariant_of-result c = record {
  parts = [];
  keeps = keeps_nothing (length (borrowed_bytes c.args.borrowed)) [] c.new-subtrees.result.entries (omega (arith, c.bound-most.ensures.value, c.bound-most.ensures.bounded, ap (λ (q : UploadPlan). q.bound) c.in_ok-plan.ensures.plan)) refl c.new-subtrees.ensures.empty;
  same = tt;
}
