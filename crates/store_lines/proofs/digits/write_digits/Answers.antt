use Rattle.std.proofs.Common.{rules, codes}
use Rattle.std.proofs.lemmas.Result.{on_err_weaker}
use Rattle.std.specs.Io.KnownBytes.{Appends}
use Rattle.edge.proofs.Output.{after_error, some_after, some_first}
use Rattle.store_lines.specs.inner.Digits.{digits_of}
use Rattle.store_lines.proofs.digits.write_digits.Goals as goal

pub returns-in_err-write_segment_digits-clause-failed : goal.returns-in_err-write_segment_digits-clause-failed
returns-in_err-write_segment_digits-clause-failed g c =
    after_error c.from_residual.result (some_first (g.W.Write.contents c.args.writer.now) (g.W.Write.contents c.write_segment_digits.new.writer) (digits_of c.args.segments.now) (codes "\n") c.in_err-write_segment_digits.ensures.failed)

pub returns-clause-failed : goal.returns-clause-failed
returns-clause-failed g c =
    let went : Appends (g.W.Write.contents c.args.writer.now) (g.W.Write.contents c.write_segment_digits.new.writer) (digits_of c.args.segments.now) = search rules in
    on_err_weaker c.write_made.result (some_after (g.W.Write.contents c.args.writer.now) (g.W.Write.contents c.write_segment_digits.new.writer) (g.W.Write.contents c.write_made.new.writer) (digits_of c.args.segments.now) (codes "\n") went) c.write_made.ensures.failed
