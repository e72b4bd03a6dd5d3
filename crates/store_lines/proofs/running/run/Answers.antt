use Rattle.store_lines.specs.Running.{AreTold}
use Rattle.store_lines.proofs.ScriptSteps.{if_ended, is_failed, is_out, is_read, is_verdict}
use Rattle.store_lines.proofs.running.run.Goals as goal

pub returns-clause-written : goal.returns-clause-written
returns-clause-written g c =
    rw c.result_of.ensures (is_verdict (AreTold g.F.BadLines.tells c.args.faults.now c.answer_lines-ended.new.faults) (g.W.Write.contents c.args.writer.now) (g.W.Write.contents c.answer_lines-ended.new.writer) c.answer_lines-ended.new.ending c.answer_lines-ended.result (g.R.Read.remaining c.args.reader.now) c.answer_lines-ended.ensures.until)

pub returns-clause-end : goal.returns-clause-end
returns-clause-end g c = rw c.result_of.ensures (if_ended (AreTold g.F.BadLines.tells c.args.faults.now c.answer_lines-ended.new.faults) (g.W.Write.contents c.args.writer.now) (g.W.Write.contents c.answer_lines-ended.new.writer) c.answer_lines-ended.new.ending c.answer_lines-ended.result _ c.answer_lines-ended.ensures.end)

pub returns-clause-read : goal.returns-clause-read
returns-clause-read g c = λ is.
    is_read (AreTold g.F.BadLines.tells c.args.faults.now c.answer_lines-ended.new.faults) (g.W.Write.contents c.args.writer.now) (g.W.Write.contents c.answer_lines-ended.new.writer) c.answer_lines-ended.new.ending c.answer_lines-ended.result (g.R.Read.remaining c.args.reader.now) c.answer_lines-ended.ensures.until (rw c.result_of.ensures at is)

pub returns-clause-failed : goal.returns-clause-failed
returns-clause-failed g c = λ is.
    is_failed (AreTold g.F.BadLines.tells c.args.faults.now c.answer_lines-ended.new.faults) (g.W.Write.contents c.args.writer.now) (g.W.Write.contents c.answer_lines-ended.new.writer) c.answer_lines-ended.new.ending c.answer_lines-ended.result (g.R.Read.remaining c.args.reader.now) c.answer_lines-ended.ensures.until (rw c.result_of.ensures at is)

pub returns-clause-memory : goal.returns-clause-memory
returns-clause-memory g c = λ is.
    is_out (AreTold g.F.BadLines.tells c.args.faults.now c.answer_lines-ended.new.faults) (g.W.Write.contents c.args.writer.now) (g.W.Write.contents c.answer_lines-ended.new.writer) c.answer_lines-ended.new.ending c.answer_lines-ended.result (g.R.Read.remaining c.args.reader.now) c.answer_lines-ended.ensures.until (rw c.result_of.ensures at is)
