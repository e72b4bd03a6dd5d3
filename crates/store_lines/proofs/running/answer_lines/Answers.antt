use Rattle.std.proofs.Common.{rules, arith, ◌≡◌, ◌∙◌, ◌+◌, ◌<◌, Err, List, ℕ, ap, refl, subst}
use Rattle.std.specs.Io.KnownBytes.{Appends}
use Rattle.edge.specs.Output.{WroteSome}
use Rattle.edge.proofs.Joining.{appends_more}
use Rattle.edge.proofs.Output.{some_after}
use Rattle.store_lines.specs.inner.Answers.{AnswersRead, TellsRead, reported_ending, reported_text}
use Rattle.store_lines.proofs.Told.{tells_more}
use Rattle.edge.specs.declared.outcome.Cause.TheVariants as causes
use Rattle.store_lines.proofs.ScriptSteps.{at_end, begun, ended_reader, in_answer, line_left, nothing_read, turned, until_line}
use Rattle.store_lines.proofs.running.answer_lines.Goals as goal

pub loop-index-init : goal.loop-index-init
loop-index-init g c = rw c.requires.ending (begun _ (g.R.Read.remaining c.args.reader.now) (g.W.Write.contents c.args.writer.now) c.args.store.now c.requires.store refl)

pub returns-in_err-read-clause-until : goal.returns-in_err-read-clause-until
returns-in_err-read-clause-until g c =
    let cause = c.in_err-read.field-0.0 in
    let reported : c.read_line.result ≡ Err cause = search rules in
    let ended : c.from_residual.result ≡ Err cause = search rules in
    rw ended (until_line _ _ (g.R.Read.remaining c.args.reader.now) (g.R.Read.remaining c.loop-index.reader) (g.W.Write.contents c.args.writer.now) (g.W.Write.contents c.loop-index.writer) c.loop-index.store c.loop-index.ending cause c.in_err-read.ensures.unwritten (λ memory. c.read_line.ensures.left (reported ∙ ap (λ e. Err e) memory)) c.loop-index.invariant)

pub returns-then-read-eq0-clause-until : goal.returns-then-read-eq0-clause-until
returns-then-read-eq0-clause-until g c =
    let zero : c.in_ok-read.read.count ≡ 0 = search rules in
    let none = nothing_read (g.R.Read.remaining c.loop-index.reader) c.in_ok-read.read c.read_line.new.line.items zero c.in_ok-read.ensures.read in
    at_end _ _ (g.R.Read.remaining c.args.reader.now) (g.R.Read.remaining c.loop-index.reader) (g.W.Write.contents c.args.writer.now) (g.W.Write.contents c.loop-index.writer) c.loop-index.store c.loop-index.ending c.loop-index.invariant none

pub returns-then-read-eq0-clause-end : goal.returns-then-read-eq0-clause-end
returns-then-read-eq0-clause-end g c =
    let zero : c.in_ok-read.read.count ≡ 0 = search rules in
    let none = nothing_read (g.R.Read.remaining c.loop-index.reader) c.in_ok-read.read c.read_line.new.line.items zero c.in_ok-read.ensures.read in
    ended_reader _ _ (g.R.Read.remaining c.args.reader.now) (g.R.Read.remaining c.loop-index.reader) (g.R.Read.remaining c.read_line.new.reader) (g.W.Write.contents c.args.writer.now) (g.W.Write.contents c.loop-index.writer) c.loop-index.store c.loop-index.ending c.loop-index.invariant none c.in_ok-read.ensures.rest

pub returns-in_err-answer-clause-until : goal.returns-in_err-answer-clause-until
returns-in_err-answer-clause-until g c =
    let some : 0 < c.in_ok-read.read.count = omega arith in
    let left = line_left (g.R.Read.remaining c.loop-index.reader) c.in_ok-read.read c.read_line.new.line.items some c.in_ok-read.ensures.read in
    let ended : c.from_residual-in_err-answer.result ≡ Err causes.OutOfMemory = search rules in
    rw (ended, c.in_err-answer.ensures.untold) (until_line _ _ (g.R.Read.remaining c.args.reader.now) (g.R.Read.remaining c.loop-index.reader) (g.W.Write.contents c.args.writer.now) (g.W.Write.contents c.loop-index.writer) c.loop-index.store c.loop-index.ending causes.OutOfMemory (λ same. cc) (λ memory. left) c.loop-index.invariant)

pub returns-in_err-report-clause-until : goal.returns-in_err-report-clause-until
returns-in_err-report-clause-until g c =
    let kept = c.read_line.new.line.items in
    let kept_is : c.as_slice.result.now ≡ kept = search rules in
    let text = reported_text c.answer_read.new.store.journal c.in_ok-answer.answer in
    let answered = subst (λ (k : List ℕ). AnswersRead c.loop-index.store c.answer_read.new.store c.in_ok-read.read k text (reported_ending c.in_ok-answer.answer)) kept_is c.in_ok-answer.ensures.answered in
    let told = subst (λ (k : List ℕ). TellsRead g.F.BadLines.tells c.loop-index.faults c.answer_read.new.faults (c.loop-index.index + 1) c.in_ok-read.read k) kept_is c.in_ok-answer.ensures.told in
    let some : 0 < c.in_ok-read.read.count = omega arith in
    let wrote : WroteSome (g.W.Write.contents c.loop-index.writer) (g.W.Write.contents c.report.new.writer) text = search rules in
    let say = tells_more g.F.BadLines.tells c.args.faults.now c.loop-index.faults c.answer_read.new.faults (c.loop-index.index + 1) c.in_ok-read.read kept told in
    let ended : c.from_residual-in_err-report.result ≡ Err causes.CannotWrite = search rules in
    let w1 = g.W.Write.contents c.args.writer.now in
    let w2 = g.W.Write.contents c.loop-index.writer in
    let w3 = g.W.Write.contents c.report.new.writer in
    rw (ended, c.worse.ensures, c.ending.ensures) (in_answer _ _ (g.R.Read.remaining c.args.reader.now) (g.R.Read.remaining c.read_line.new.reader) w1 w3 c.answer_read.new.store _
    (turned _ _ _ (g.R.Read.remaining c.args.reader.now) (g.R.Read.remaining c.loop-index.reader) (g.R.Read.remaining c.read_line.new.reader) (Appends w1 w2) (WroteSome w2 w3) (WroteSome w1 w3)
    c.loop-index.store c.answer_read.new.store c.loop-index.ending (reported_ending c.in_ok-answer.answer) c.in_ok-read.read kept text (some_after w1 w2 w3) c.loop-index.invariant c.in_ok-read.ensures.read c.in_ok-read.ensures.rest some answered wrote say))

pub loop-index-preserved : goal.loop-index-preserved
loop-index-preserved g c =
    let kept = c.read_line.new.line.items in
    let kept_is : c.as_slice.result.now ≡ kept = search rules in
    let text = reported_text c.answer_read.new.store.journal c.in_ok-answer.answer in
    let answered = subst (λ (k : List ℕ). AnswersRead c.loop-index.store c.answer_read.new.store c.in_ok-read.read k text (reported_ending c.in_ok-answer.answer)) kept_is c.in_ok-answer.ensures.answered in
    let told = subst (λ (k : List ℕ). TellsRead g.F.BadLines.tells c.loop-index.faults c.answer_read.new.faults (c.loop-index.index + 1) c.in_ok-read.read k) kept_is c.in_ok-answer.ensures.told in
    let some : 0 < c.in_ok-read.read.count = omega arith in
    let wrote : Appends (g.W.Write.contents c.loop-index.writer) (g.W.Write.contents c.report.new.writer) text = search rules in
    let say = tells_more g.F.BadLines.tells c.args.faults.now c.loop-index.faults c.answer_read.new.faults (c.loop-index.index + 1) c.in_ok-read.read kept told in
    let w1 = g.W.Write.contents c.args.writer.now in
    let w2 = g.W.Write.contents c.loop-index.writer in
    let w3 = g.W.Write.contents c.report.new.writer in
    rw (c.worse.ensures, c.ending.ensures) (turned _ _ _ (g.R.Read.remaining c.args.reader.now) (g.R.Read.remaining c.loop-index.reader) (g.R.Read.remaining c.read_line.new.reader) (Appends w1 w2) (Appends w2 w3) (Appends w1 w3)
    c.loop-index.store c.answer_read.new.store c.loop-index.ending (reported_ending c.in_ok-answer.answer) c.in_ok-read.read kept text (appends_more w1 w2 w3) c.loop-index.invariant c.in_ok-read.ensures.read c.in_ok-read.ensures.rest some answered wrote say)

pub returns-clause-until : goal.returns-clause-until
returns-clause-until g c = until_line _ _ (g.R.Read.remaining c.args.reader.now) (g.R.Read.remaining c.loop-index.reader) (g.W.Write.contents c.args.writer.now) (g.W.Write.contents c.loop-index.writer) c.loop-index.store c.loop-index.ending causes.CannotRead (λ same. cc) (λ memory. absurd (cc)) c.loop-index.invariant
