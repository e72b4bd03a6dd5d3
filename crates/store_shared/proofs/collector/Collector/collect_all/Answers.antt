use Rattle.std.proofs.Common.{◌≡◌, ◌∙◌, ℕ, [], None, ap, subst, sym}
use Rattle.std.specs.Prelude.{IfNone}
use Rattle.store_board.specs.HandOverRule.{of_giver}
use Rattle.store_board.specs.Passes.{given_by_all, taken_by_all}
use Rattle.store_shared.specs.inner.Uploading.{IsCollecting, parts_in}
use Rattle.store_shared.proofs.Noting.{rose_collecting}
use Rattle.store_shared.proofs.collector.Collector.collect_all.Goals as goal

pub returns-in-Err-clause-collected : goal.returns-in-Err-clause-collected
returns-in-Err-clause-collected g c = λ start is. record {
  taken = [];
  collecting = rose_collecting c.args.job.now.cut start c.args.self.now.share c.args.self.now.follow (parts_in (taken_by_all c.args.whole.now)) None is;
  all = tt;
}

pub returns-in-Err-note_and_put-clause-collected : goal.returns-in-Err-note_and_put-clause-collected
returns-in-Err-note_and_put-clause-collected g c = λ start is. record {
  taken = [];
  collecting = c.in-Err-note_and_put.ensures.err start (parts_in (taken_by_all c.args.whole.now)) is;
  all = tt;
}

pub returns-in_default-clause-collected : goal.returns-in_default-clause-collected
returns-in_default-clause-collected g c = λ start is.
    let cut = c.args.job.now.cut in
    let end = c.note_and_put.new.self in
    let taken = taken_by_all c.take_all.new.pass in
    let none = c.note_and_put.ensures.same ∙ c.requires.none in record {
      taken = taken;
      collecting = subst (λ o. IsCollecting cut start end.follow end.share (parts_in taken) o) (sym none)
          (subst (λ xs. IsCollecting cut start end.follow end.share xs None) (sym c.in-Ok.ensures.taken) (c.in_default.ensures.ok start (parts_in (taken_by_all c.args.whole.now)) is));
      all = subst (λ o. IfNone o ((k : ℕ) → of_giver k taken ≡ of_giver k (given_by_all c.args.whole.now))) (sym none)
          (λ k. c.in-Ok.ensures.all.each k ∙ ap (of_giver k) c.in-Ok.ensures.same);
    }
