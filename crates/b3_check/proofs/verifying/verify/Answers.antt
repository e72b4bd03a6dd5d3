use Rattle.std.proofs.Common.{◌≡◌, ◌<◌, List, arith, get_or, length, subst}
use Rattle.std.proofs.lemmas.Result.{err_from_is_err_and}
use Rattle.b3_check.specs.declared.file.NumberedLine.{NumberedLine}
use Rattle.b3_check.proofs.Reporting.{broken_after, ended_at, one_line_more, whole_report}
use Rattle.b3_check.proofs.verifying.verify.Goals as goal

pub returns-in_err-verify_line-clause-stopped : goal.returns-in_err-verify_line-clause-stopped
returns-in_err-verify_line-clause-stopped g c =
    let p = err_from_is_err_and c.from_residual.result c.from_residual.ensures.1 in
    let i = c.loop-index.index in
    let line = c.index-lines-index.result in
    let all = c.lines-lines.ensures in
    let lt = subst (λ (lines : List NumberedLine). i < length lines) all c.loop-index-test.true in
    let is = subst (λ (lines : List NumberedLine). line ≡ get_or lines i line) all c.index-lines-index.is in
    rw (p.1, p.2) (ended_at g.N.Names.gives c.args.options c.args.names.now c.expect.new.self c.verify_line.new.names c.args.file.now i line c.loop-index.counts
    (g.W.Write.contents c.args.writer.now) (g.W.Write.contents c.loop-index.writer) (g.W.Write.contents c.verify_line.new.writer) c.in_err-verify_line.field-0.0
    lt is (rw c.expect.ensures c.loop-index.invariant) c.in_err-verify_line.ensures.stopped)

pub loop-index-preserved : goal.loop-index-preserved
loop-index-preserved g c =
    let i = c.loop-index.index in
    let line = c.index-lines-index.result in
    let all = c.lines-lines.ensures in
    let lt = subst (λ (lines : List NumberedLine). i < length lines) all c.loop-index-test.true in
    let is = subst (λ (lines : List NumberedLine). line ≡ get_or lines i line) all c.index-lines-index.is in
    one_line_more g.N.Names.gives c.args.options c.args.names.now c.expect.new.self c.verify_line.new.names c.args.file.now i line c.loop-index.counts c.verify_line.new.counts
    (g.W.Write.contents c.args.writer.now) (g.W.Write.contents c.loop-index.writer) (g.W.Write.contents c.verify_line.new.writer)
    lt is (rw c.expect.ensures c.loop-index.invariant) c.in_ok-verify_line.ensures.asked

pub returns-in-Err-clause-stopped : goal.returns-in-Err-clause-stopped
returns-in-Err-clause-stopped g c =
    let all = c.lines-lines.ensures in
    let lines = c.lines-lines.result.now in
    broken_after g.N.Names.gives c.args.options c.args.names.now c.loop-index.names c.args.file.now c.loop-index.index c.loop-index.counts
    (g.W.Write.contents c.args.writer.now) (g.W.Write.contents c.loop-index.writer) (g.W.Write.contents c.write_counts.new.writer)
    (rw (← all) (omega arith)) c.loop-index.invariant c.in-Err.ensures.failed

pub returns-in-Ok-clause-report : goal.returns-in-Ok-clause-report
returns-in-Ok-clause-report g c =
    let all = c.lines-lines.ensures in
    whole_report g.N.Names.gives c.args.options c.args.names.now c.loop-index.names c.args.file.now c.loop-index.index c.loop-index.counts
    (g.W.Write.contents c.args.writer.now) (g.W.Write.contents c.loop-index.writer) (g.W.Write.contents c.write_counts.new.writer)
    (rw (← all) (omega arith)) c.loop-index.invariant c.in-Ok.ensures.written
