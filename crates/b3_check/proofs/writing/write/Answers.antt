use Rattle.std.proofs.Common.{subst, List}
use Rattle.std.specs.List.{AllByRecursion}
use Rattle.std.proofs.lemmas.List.{take_all}
use Rattle.std.proofs.lemmas.Result.{err_from_is_err_and}
use Rattle.b3_check.specs.declared.line.Line.{Line}
use Rattle.b3_check.specs.Lines.{IsLawful, written_line}
use Rattle.b3_check.proofs.Truncations.{truncated_within}
use Rattle.b3_check.proofs.Written.{file_at-written_lines}
use Rattle.b3_check.proofs.writing.write.Goals as goal

pub returns-in_err-write_line-clause-failed : goal.returns-in_err-write_line-clause-failed
returns-in_err-write_line-clause-failed g c =
    let p = err_from_is_err_and c.from_residual.result c.from_residual.ensures.1 in
    rw (p.1) (truncated_within written_line (g.W.Write.contents c.args.writer.now) (g.W.Write.contents c.loop-line.writer) (g.W.Write.contents c.write_line.new.writer) c.args.lines.now c.loop-line.line-index c.line-item.result
    c.loop-line-test.true c.line-item.is c.loop-line.invariant.written c.in_err-write_line.ensures.failed)

pub returns-clause-read_back : goal.returns-clause-read_back
returns-clause-read_back g c =
    let all = take_all c.loop-line.line-index c.args.lines.now c.loop-line-test.false in
    file_at-written_lines c.args.lines.now (subst (λ (lines : List Line). AllByRecursion IsLawful lines) all c.loop-line.invariant.lawful)
