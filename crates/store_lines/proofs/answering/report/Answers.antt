use Rattle.std.proofs.Common.{rules}
use Rattle.std.specs.Io.KnownBytes.{Appends}
use Rattle.std.proofs.lemmas.Result.{on_err_weaker}
use Rattle.edge.proofs.Output.{written_kept}
use Rattle.store_lines.specs.inner.Answers.{reported_text}
use Rattle.store_lines.proofs.answering.report.Goals as goal

pub returns-clause-failed : goal.returns-clause-failed
returns-clause-failed g c =
    let w1 = g.W.Write.contents c.args.writer.now in
    let w2 = g.W.Write.contents c.write.new.writer in
    let w3 = g.W.Write.contents c.flush.new.writer in
    let text = reported_text c.args.entries.now c.args.answer in
    let went : Appends w1 w2 text = search rules in
    on_err_weaker c.flush.result (written_kept w1 w2 w3 text went) c.flush.ensures.failed
