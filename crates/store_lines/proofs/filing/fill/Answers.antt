use Rattle.std.proofs.Common.{rules, ◌≡◌, ◌*◌, ◌<◌, ◌≤◌, true, false, Some, Ok, Err, arith, refl, subst}
use Rattle.store_core.specs.Runs.{change}
use Rattle.store_core.specs.declared.command.Command.{Command}
use Rattle.store_lines.specs.Access.{Took}
use Rattle.store_lines.specs.Filing.{part_len}
use Rattle.store_lines.specs.inner.Answers.{is_good, reported_ending}
use Rattle.store_lines.proofs.FileParts.{no_puts, puts_on, refused_at}
use Rattle.store_lines.proofs.Files.{filled_refused, filled_sealed}
use Rattle.store_upload.specs.Uploads.{max_part_bytes}
use Rattle.store_lines.proofs.filing.fill.Goals as goal

pub loop-number-init : goal.loop-number-init
loop-number-init g c = no_puts g.A.Access.reach (g.A.Access.stands c.args.access.now) c.args.filing c.args.upload (g.R.Read.remaining c.args.reader.now)

pub returns-then-not-is_good-clause-filled : goal.returns-then-not-is_good-clause-filled
returns-then-not-is_good-clause-filled g c =
    let reach = g.A.Access.reach in
    let was = g.A.Access.stands c.args.access.now in
    let mid = g.A.Access.stands c.loop-number.access in
    let is = g.A.Access.stands c.receive.new.access in
    let number = c.loop-number.number in
    let more : number * max_part_bytes < c.args.filing.len = omega (arith, c.loop-number-test.true, c.div_ceil-number-end.ensures) in
    let len_is : c.min-len.result ≡ part_len c.args.filing.len number = omega (arith, c.min-len.ensures) in
    let given : c.in_ok-answer.field-0 ≡ Some c.in-Some.answer = search rules in
    let bad : is_good (reported_ending c.in-Some.answer) ≡ false = search rules in
    refused_at (g.R.Read.remaining c.args.reader.now) (g.R.Read.remaining c.loop-number.reader) (g.R.Read.remaining c.receive.new.reader) reach was mid is c.args.filing c.args.upload number (number * max_part_bytes) c.min-len.result refl len_is more
    c.loop-number.invariant c.in_ok-answer.field-0 c.in_ok-answer.ensures.received c.in-Some.answer given bad _ refl

pub loop-number-preserved : goal.loop-number-preserved
loop-number-preserved g c =
    let reach = g.A.Access.reach in
    let was = g.A.Access.stands c.args.access.now in
    let mid = g.A.Access.stands c.loop-number.access in
    let is = g.A.Access.stands c.receive.new.access in
    let number = c.loop-number.number in
    let more : number * max_part_bytes < c.args.filing.len = omega (arith, c.loop-number-test.true, c.div_ceil-number-end.ensures) in
    let len_is : c.min-len.result ≡ part_len c.args.filing.len number = omega (arith, c.min-len.ensures) in
    let given : c.in_ok-answer.field-0 ≡ Some c.in-Some.answer = search rules in
    let good : is_good (reported_ending c.in-Some.answer) ≡ true = search rules in
    puts_on (g.R.Read.remaining c.args.reader.now) (g.R.Read.remaining c.loop-number.reader) (g.R.Read.remaining c.receive.new.reader) reach was mid is c.args.filing c.args.upload number (number * max_part_bytes) c.min-len.result refl len_is more
    c.loop-number.invariant c.in_ok-answer.field-0 c.in_ok-answer.ensures.received c.in-Some.answer given good

pub returns-in-Ok-clause-filled : goal.returns-in-Ok-clause-filled
returns-in-Ok-clause-filled g c =
    let reach = g.A.Access.reach in
    let was = g.A.Access.stands c.args.access.now in
    let mid = g.A.Access.stands c.loop-number.access in
    let is = g.A.Access.stands c.step.new.self in
    let all : c.args.filing.len ≤ c.loop-number.number * max_part_bytes = omega (arith, c.loop-number-test.false, c.div_ceil-number-end.ensures) in
    filled_sealed (g.R.Read.remaining c.args.reader.now) (g.R.Read.remaining c.loop-number.reader) reach was mid is c.args.filing c.args.upload c.loop-number.number all c.loop-number.invariant c.in-Ok.reply
    (subst (λ (k : Command). Took reach mid is (change k) (Ok c.in-Ok.reply)) c.closing.ensures c.in-Ok.ensures)

pub returns-in-Err-clause-filled : goal.returns-in-Err-clause-filled
returns-in-Err-clause-filled g c =
    let reach = g.A.Access.reach in
    let was = g.A.Access.stands c.args.access.now in
    let mid = g.A.Access.stands c.loop-number.access in
    let is = g.A.Access.stands c.step.new.self in
    let all : c.args.filing.len ≤ c.loop-number.number * max_part_bytes = omega (arith, c.loop-number-test.false, c.div_ceil-number-end.ensures) in
    filled_refused (g.R.Read.remaining c.args.reader.now) (g.R.Read.remaining c.loop-number.reader) reach was mid is c.args.filing c.args.upload c.loop-number.number all c.loop-number.invariant c.in-Err.refusal
    (subst (λ (k : Command). Took reach mid is (change k) (Err c.in-Err.refusal)) c.closing.ensures c.in-Err.ensures)
