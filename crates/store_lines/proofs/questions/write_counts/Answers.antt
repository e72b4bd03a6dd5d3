use Rattle.std.proofs.Common.{rules}
use Rattle.std.proofs.lemmas.Result.{on_err_weaker}
use Rattle.std.specs.Io.KnownBytes.{Appends}
use Rattle.edge.specs.Output.{WroteSome}
use Rattle.edge.proofs.Output.{after_error, some_after, some_first}
use Rattle.store_lines.specs.Questions.{counts_front, totals_line}
use Rattle.store_lines.proofs.questions.write_counts.Goals as goal

pub returns-in_err-write_made-clause-failed : goal.returns-in_err-write_made-clause-failed
returns-in_err-write_made-clause-failed g c =
    let counts = c.args.counts in
    let begun : WroteSome (g.W.Write.contents c.args.writer.now) (g.W.Write.contents c.write_made.new.writer) (counts_front counts) = search rules in
    after_error c.from_residual.result (some_first (g.W.Write.contents c.args.writer.now) (g.W.Write.contents c.write_made.new.writer) (counts_front counts) (totals_line counts.totals) begun)

pub returns-clause-failed : goal.returns-clause-failed
returns-clause-failed g c =
    let counts = c.args.counts in
    let went : Appends (g.W.Write.contents c.args.writer.now) (g.W.Write.contents c.write_made.new.writer) (counts_front counts) = search rules in
    on_err_weaker c.write_totals.result (some_after (g.W.Write.contents c.args.writer.now) (g.W.Write.contents c.write_made.new.writer) (g.W.Write.contents c.write_totals.new.writer) (counts_front counts) (totals_line counts.totals) went) c.write_totals.ensures.failed
