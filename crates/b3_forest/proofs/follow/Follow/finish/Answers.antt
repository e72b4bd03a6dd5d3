use Rattle.std.proofs.Common.{◌≡◌, ◌*◌, ◌-◌, ℕ, List, arith, ap, length, subst, sym, ◌∙◌}
use Rattle.b3_core.specs.Modes.{hash_mode}
use Rattle.b3_core.specs.Tree.{tree_top}
use Rattle.b3_core.specs.Work.{counted}
use Rattle.b3_forest.specs.Borrowed.{borrowed_bytes}
use Rattle.b3_forest.specs.Subtrees.{Keeps}
use Rattle.b3_forest.specs.Followed.{AllNoted, ModelFollow, IsFirstUnnoted, pieces_noted}
use Rattle.b3_forest.specs.inner.Subtrees.{AreWhole}
use Rattle.b3_forest.proofs.Following.{content_is, noted_count, reported_all, reported_missing}
use Rattle.b3_forest.proofs.follow.Follow.finish.Goals as goal

pub returns-then-missing-len-clause-missing : goal.returns-then-missing-len-clause-missing
returns-then-missing-len-clause-missing c =
    let w = c.self.invariant in
    let gap = c.least_missing-missing.ensures.least w.parts (subst (λ n. Keeps n w.parts c.self.inside.subtrees.entries) (sym c.len-len.ensures) w.keeps) in
    subst (λ (f : ModelFollow). IsFirstUnnoted f c.least_missing-missing.result) c.self.view_is
    (reported_missing (borrowed_bytes c.self.inside.borrowed) w.parts c.self.inside.subtrees.entries c.least_missing-missing.result c.upload_laws.ensures.missing w.keeps gap (omega (arith, c.if-missing-len.true, c.len-len.ensures)))

pub returns-clause-complete : goal.returns-clause-complete
returns-clause-complete c =
    let w = c.self.invariant in
    let gap = c.least_missing-missing.ensures.least w.parts (subst (λ n. Keeps n w.parts c.self.inside.subtrees.entries) (sym c.len-len.ensures) w.keeps) in
    subst (λ (f : ModelFollow). AllNoted f) c.self.view_is
    (reported_all (borrowed_bytes c.self.inside.borrowed) w.parts c.self.inside.subtrees.entries c.upload_laws.ensures.missing w.keeps (omega (arith, gap, c.if-missing-len.false, c.len-len.ensures)))

pub top-requires : goal.top-requires
top-requires c =
    let w = c.self.invariant in
    let gap = c.least_missing-missing.ensures.least w.parts (subst (λ n. Keeps n w.parts c.self.inside.subtrees.entries) (sym c.len-len.ensures) w.keeps) in
    let within = c.least_missing-missing.ensures.within in
    (length (borrowed_bytes c.self.inside.borrowed), w.parts, record { keeps = w.keeps; all = omega (arith, gap, within, c.if-missing-len.false, c.len-len.ensures) })

pub returns-clause-top : goal.returns-clause-top
returns-clause-top c =
    let w = c.self.invariant in
    let b = borrowed_bytes c.self.inside.borrowed in
    let es = c.self.inside.subtrees.entries in
    let gap = c.least_missing-missing.ensures.least w.parts (subst (λ n. Keeps n w.parts c.self.inside.subtrees.entries) (sym c.len-len.ensures) w.keeps) in
    let within = c.least_missing-missing.ensures.within in
    let all : AreWhole (length b) w.parts es = record { keeps = w.keeps; all = omega (arith, gap, within, c.if-missing-len.false, c.len-len.ensures) } in
    subst (λ (f : ModelFollow). c.top.result ≡ tree_top f.bytes 0 hash_mode) c.self.view_is
    (c.top.ensures.top (length b) w.parts all ∙ ap (λ (x : List ℕ). tree_top x 0 hash_mode) (content_is b es w (omega (arith, gap, c.if-missing-len.false, c.len-len.ensures))))

pub returns-clause-count : goal.returns-clause-count
returns-clause-count c =
    let w = c.self.invariant in
    let b = borrowed_bytes c.self.inside.borrowed in
    let es = c.self.inside.subtrees.entries in
    let gap = c.least_missing-missing.ensures.least w.parts (subst (λ n. Keeps n w.parts c.self.inside.subtrees.entries) (sym c.len-len.ensures) w.keeps) in
    let within = c.least_missing-missing.ensures.within in
    let all : AreWhole (length b) w.parts es = record { keeps = w.keeps; all = omega (arith, gap, within, c.if-missing-len.false, c.len-len.ensures) } in
    subst (λ (f : ModelFollow). c.top.new.work ≡ counted c.args.work.now (2 * (pieces_noted f - 1))) c.self.view_is
    (c.top.ensures.count (length b) w.parts all ∙ ap (λ i. counted c.args.work.now (2 * (i - 1))) (noted_count b w.parts es w.keeps))
