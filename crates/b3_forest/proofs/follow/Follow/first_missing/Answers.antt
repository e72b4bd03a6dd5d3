use Rattle.std.proofs.Common.{arith, subst, sym}
use Rattle.b3_forest.specs.Borrowed.{borrowed_bytes}
use Rattle.b3_forest.specs.Subtrees.{Keeps}
use Rattle.b3_forest.specs.Followed.{AllNoted, ModelFollow, IsFirstUnnoted}
use Rattle.b3_forest.proofs.Following.{reported_all, reported_missing}
use Rattle.b3_forest.proofs.follow.Follow.first_missing.Goals as goal

pub returns-then-missing-len-clause-found : goal.returns-then-missing-len-clause-found
returns-then-missing-len-clause-found c =
    let w = c.self.invariant in
    let gap = c.least_missing-missing.ensures.least w.parts (subst (λ n. Keeps n w.parts c.self.inside.subtrees.entries) (sym c.len-len.ensures) w.keeps) in
    subst (λ (f : ModelFollow). IsFirstUnnoted f c.least_missing-missing.result) c.self.view_is
    (reported_missing (borrowed_bytes c.self.inside.borrowed) w.parts c.self.inside.subtrees.entries c.least_missing-missing.result c.upload_laws.ensures.missing w.keeps gap (omega (arith, c.if-missing-len.true, c.len-len.ensures)))

pub returns-else-missing-len-clause-none : goal.returns-else-missing-len-clause-none
returns-else-missing-len-clause-none c =
    let w = c.self.invariant in
    let gap = c.least_missing-missing.ensures.least w.parts (subst (λ n. Keeps n w.parts c.self.inside.subtrees.entries) (sym c.len-len.ensures) w.keeps) in
    subst (λ (f : ModelFollow). AllNoted f) c.self.view_is
    (reported_all (borrowed_bytes c.self.inside.borrowed) w.parts c.self.inside.subtrees.entries c.upload_laws.ensures.missing w.keeps (omega (arith, gap, c.if-missing-len.false, c.len-len.ensures)))
