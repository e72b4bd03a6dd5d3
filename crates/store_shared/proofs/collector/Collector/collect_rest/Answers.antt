use Rattle.std.proofs.Common.{All, [], subst, sym}
use Rattle.std.proofs.lemmas.List.Elements.{All-map}
use Rattle.store_board.specs.Passes.{IsGiverOf, taken_of}
use Rattle.store_board.specs.declared.passes.GivePass.{GivePass}
use Rattle.store_shared.specs.inner.Uploading.{parts_in}
use Rattle.store_shared.specs.declared.worker.Report.{Report}
use Rattle.store_shared.proofs.Noting.{rose_collecting}
use Rattle.store_shared.proofs.collector.Collector.collect_rest.Goals as goal

pub gather-whole-requires-clause-givers : goal.gather-whole-requires-clause-givers
gather-whole-requires-clause-givers g c =
    let G : GivePass → Type 0 = λ p. IsGiverOf c.args.job.now.exchange.hand_over p in
    subst (All G) (sym c.in-Ok.ensures) (All-map G (λ (r : Report). r.worker.pass) c.args.reports.items c.requires.givers)

pub returns-in-Err-clause-collected : goal.returns-in-Err-clause-collected
returns-in-Err-clause-collected g c = λ start is. record {
  taken = [];
  collecting = rose_collecting c.args.job.now.cut start c.args.self.now.share c.args.self.now.follow (parts_in (taken_of c.args.pass)) c.args.self.now.fault is;
  all = tt;
}
