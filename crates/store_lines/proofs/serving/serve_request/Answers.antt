use Rattle.std.proofs.Common.{rules, ◌≡◌, Some, refl, subst, sym, true}
use Rattle.std.specs.Prelude.{IfSome}
use Rattle.std.specs.Io.KnownBytes.{Appends}
use Rattle.edge.specs.Output.{WroteSome}
use Rattle.store_core.specs.Runs.{ask}
use Rattle.store_core.specs.declared.store.questions.Question.TheVariants as questions
use Rattle.store_lines.specs.Session.{as_range, as_script}
use Rattle.store_lines.specs.declared.request.Request.{Request}
use Rattle.store_lines.specs.declared.request.Request.TheVariants.{Asks, Does, Entries, Fetch, File, Put, PutRaw}
use Rattle.store_lines.specs.Owning.{session_of}
use Rattle.store_lines.specs.inner.Reporting.{Notes, ServesRequestOver}
use Rattle.store_lines.specs.Turns.{IsLinkedBytes, IsLinkedCall, IsLinkedChange, IsLinkedEntries, IsLinkedRequest}
use Rattle.store_lines.proofs.Owned.{of_bytes, of_entries, of_question}
use Rattle.store_lines.proofs.Reports.{put_reported, replied}
use Rattle.store_lines.proofs.Serves.{served_by, served_file, served_raw}
use Rattle.store_lines.proofs.serving.serve_request.Goals as goal

pub returns-in_ok-execute-in-Does-clause-served : goal.returns-in_ok-execute-in-Does-clause-served
returns-in_ok-execute-in-Does-clause-served g c =
    let own = c.args.own.now in
    let session = session_of g.A.Access.reach own.at_end in
    let command = c.in-Does.command in
    let same : c.args.request ≡ Does command = search rules in
    served_by (g.R.Read.remaining c.args.reader.now) (Appends (g.W.Write.contents c.args.writer.now) (g.W.Write.contents c.execute.new.writer)) session (g.A.Access.stands c.args.access.now) (g.A.Access.stands c.execute.new.access) (Notes own c.execute.new.own) c.args.request
    (λ before turn after. IsLinkedChange session before command turn after × Notes own c.execute.new.own turn)
    (λ whole following before turn after k. (subst (λ (q : Request). IsLinkedRequest session before (Some q) whole following turn after following) (sym same) (k.0, refl), k.1)) c.in_ok-execute-in-Does.ensures.reported

pub returns-in_err-execute-in-Does-clause-failed : goal.returns-in_err-execute-in-Does-clause-failed
returns-in_err-execute-in-Does-clause-failed g c = λ failed.
    let own = c.args.own.now in
    let session = session_of g.A.Access.reach own.at_end in
    let command = c.in-Does.command in
    let same : c.args.request ≡ Does command = search rules in
    served_by (g.R.Read.remaining c.args.reader.now) (WroteSome (g.W.Write.contents c.args.writer.now) (g.W.Write.contents c.execute.new.writer)) session (g.A.Access.stands c.args.access.now) (g.A.Access.stands c.execute.new.access) (Notes own c.execute.new.own) c.args.request
    (λ before turn after. IsLinkedChange session before command turn after × Notes own c.execute.new.own turn)
    (λ whole following before turn after k. (subst (λ (q : Request). IsLinkedRequest session before (Some q) whole following turn after following) (sym same) (k.0, refl), k.1)) c.in_err-execute-in-Does.ensures.failed

pub returns-in_ok-report-in-Asks-clause-served : goal.returns-in_ok-report-in-Asks-clause-served
returns-in_ok-report-in-Asks-clause-served g c =
    let reach = g.A.Access.reach in
    let own = c.args.own.now in
    let session = session_of reach own.at_end in
    let was = g.A.Access.stands c.args.access.now in
    let is = g.A.Access.stands c.ask-reply.new.self in
    let Wrote = Appends (g.W.Write.contents c.args.writer.now) (g.W.Write.contents c.report.new.writer) in
    let call = ask c.in-Asks.question in
    let same : c.args.request ≡ Asks c.in-Asks.question = search rules in
    served_by (g.R.Read.remaining c.args.reader.now) Wrote session was is (Notes own own) c.args.request (λ before turn after. IsLinkedCall reach as_script before call turn after)
    (λ whole following before turn after k. (subst (λ (q : Request). IsLinkedRequest session before (Some q) whole following turn after following) (sym same) (k, refl), of_question reach after own.numbers.items own.at_end before as_script c.in-Asks.question turn k))
    (replied reach was is call c.ask-reply.result Wrote c.ask-reply.ensures c.in_ok-report-in-Asks.ensures.wrote)

pub returns-in_err-report-in-Asks-clause-failed : goal.returns-in_err-report-in-Asks-clause-failed
returns-in_err-report-in-Asks-clause-failed g c = λ failed.
    let reach = g.A.Access.reach in
    let own = c.args.own.now in
    let session = session_of reach own.at_end in
    let was = g.A.Access.stands c.args.access.now in
    let is = g.A.Access.stands c.ask-reply.new.self in
    let Wrote = WroteSome (g.W.Write.contents c.args.writer.now) (g.W.Write.contents c.report.new.writer) in
    let call = ask c.in-Asks.question in
    let same : c.args.request ≡ Asks c.in-Asks.question = search rules in
    served_by (g.R.Read.remaining c.args.reader.now) Wrote session was is (Notes own own) c.args.request (λ before turn after. IsLinkedCall reach as_script before call turn after)
    (λ whole following before turn after k. (subst (λ (q : Request). IsLinkedRequest session before (Some q) whole following turn after following) (sym same) (k, refl), of_question reach after own.numbers.items own.at_end before as_script c.in-Asks.question turn k))
    (replied reach was is call c.ask-reply.result Wrote c.ask-reply.ensures c.in_err-report-in-Asks.ensures.failed)

pub returns-in_ok-report-in-Put-clause-served : goal.returns-in_ok-report-in-Put-clause-served
returns-in_ok-report-in-Put-clause-served g c =
    let reach = g.A.Access.reach in
    let own = c.args.own.now in
    let session = session_of reach own.at_end in
    let was = g.A.Access.stands c.args.access.now in
    let is = g.A.Access.stands c.put_bytes-answer.new.access in
    let Wrote = Appends (g.W.Write.contents c.args.writer.now) (g.W.Write.contents c.report-in-Put.new.writer) in
    let part = c.in-Put.part in
    let same : c.args.request ≡ Put part = search rules in
    served_by (g.R.Read.remaining c.args.reader.now) Wrote session was is (Notes own own) c.args.request (λ before turn after. IsLinkedBytes reach before part.upload part.offset part.bytes turn after)
    (λ whole following before turn after k. (subst (λ (q : Request). IsLinkedRequest session before (Some q) whole following turn after following) (sym same) (k, refl), of_bytes reach after own.numbers.items own.at_end before part.upload part.offset part.bytes turn k))
    (put_reported reach was is part.upload part.offset part.bytes c.put_bytes-answer.result Wrote c.put_bytes-answer.ensures c.in_ok-report-in-Put.ensures.wrote)

pub returns-in_err-report-in-Put-clause-failed : goal.returns-in_err-report-in-Put-clause-failed
returns-in_err-report-in-Put-clause-failed g c = λ failed.
    let reach = g.A.Access.reach in
    let own = c.args.own.now in
    let session = session_of reach own.at_end in
    let was = g.A.Access.stands c.args.access.now in
    let is = g.A.Access.stands c.put_bytes-answer.new.access in
    let Wrote = WroteSome (g.W.Write.contents c.args.writer.now) (g.W.Write.contents c.report-in-Put.new.writer) in
    let part = c.in-Put.part in
    let same : c.args.request ≡ Put part = search rules in
    served_by (g.R.Read.remaining c.args.reader.now) Wrote session was is (Notes own own) c.args.request (λ before turn after. IsLinkedBytes reach before part.upload part.offset part.bytes turn after)
    (λ whole following before turn after k. (subst (λ (q : Request). IsLinkedRequest session before (Some q) whole following turn after following) (sym same) (k, refl), of_bytes reach after own.numbers.items own.at_end before part.upload part.offset part.bytes turn k))
    (put_reported reach was is part.upload part.offset part.bytes c.put_bytes-answer.result Wrote c.put_bytes-answer.ensures c.in_err-report-in-Put.ensures.failed)

pub returns-in_ok-report-in-Some-clause-served : goal.returns-in_ok-report-in-Some-clause-served
returns-in_ok-report-in-Some-clause-served g c =
    let reach = g.A.Access.reach in
    let own = c.args.own.now in
    let session = session_of reach own.at_end in
    let was = g.A.Access.stands c.args.access.now in
    let is = g.A.Access.stands c.receive.new.access in
    let now = g.R.Read.remaining c.args.reader.now in
    let left = g.R.Read.remaining c.receive.new.reader in
    let Wrote = Appends (g.W.Write.contents c.args.writer.now) (g.W.Write.contents c.report-in-Some.new.writer) in
    let part = c.in-PutRaw.part in
    let got = c.in_ok-answer-in-PutRaw.field-0 in
    let same : c.args.request ≡ PutRaw part = search rules in
    let given : got ≡ Some c.in-Some.answer = search rules in
    subst (λ (q : Request). IfSome now (λ following. ServesRequestOver session was is (Notes own own) true q following left Wrote)) (sym same)
    (served_raw now left Wrote session was is (Notes own own) part got c.in-Some.answer given (λ bytes before turn after k. of_bytes reach after own.numbers.items own.at_end before part.upload part.offset bytes turn k) c.in_ok-answer-in-PutRaw.ensures.received c.in_ok-report-in-Some.ensures.wrote)

pub returns-in_err-report-in-Some-clause-failed : goal.returns-in_err-report-in-Some-clause-failed
returns-in_err-report-in-Some-clause-failed g c = λ failed.
    let reach = g.A.Access.reach in
    let own = c.args.own.now in
    let session = session_of reach own.at_end in
    let was = g.A.Access.stands c.args.access.now in
    let is = g.A.Access.stands c.receive.new.access in
    let now = g.R.Read.remaining c.args.reader.now in
    let left = g.R.Read.remaining c.receive.new.reader in
    let Wrote = WroteSome (g.W.Write.contents c.args.writer.now) (g.W.Write.contents c.report-in-Some.new.writer) in
    let part = c.in-PutRaw.part in
    let got = c.in_ok-answer-in-PutRaw.field-0 in
    let same : c.args.request ≡ PutRaw part = search rules in
    let given : got ≡ Some c.in-Some.answer = search rules in
    subst (λ (q : Request). IfSome now (λ following. ServesRequestOver session was is (Notes own own) true q following left Wrote)) (sym same)
    (served_raw now left Wrote session was is (Notes own own) part got c.in-Some.answer given (λ bytes before turn after k. of_bytes reach after own.numbers.items own.at_end before part.upload part.offset bytes turn k) c.in_ok-answer-in-PutRaw.ensures.received c.in_err-report-in-Some.ensures.failed)

pub returns-in_ok-report-in-Some-2-clause-served : goal.returns-in_ok-report-in-Some-2-clause-served
returns-in_ok-report-in-Some-2-clause-served g c =
    let reach = g.A.Access.reach in
    let own = c.args.own.now in
    let session = session_of reach own.at_end in
    let was = g.A.Access.stands c.args.access.now in
    let is = g.A.Access.stands c.file.new.access in
    let now = g.R.Read.remaining c.args.reader.now in
    let left = g.R.Read.remaining c.file.new.reader in
    let Wrote = Appends (g.W.Write.contents c.args.writer.now) (g.W.Write.contents c.report-in-Some-2.new.writer) in
    let filing = c.in-File.filing in
    let got = c.in_ok-answer-in-File.field-0 in
    let same : c.args.request ≡ File filing = search rules in
    let given : got ≡ Some c.in-Some-2.answer = search rules in
    subst (λ (q : Request). IfSome now (λ following. ServesRequestOver session was is (Notes own own) true q following left Wrote)) (sym same)
    (served_file now left Wrote session was is (Notes own own) filing got c.in-Some-2.answer given (λ turns. refl) c.in_ok-answer-in-File.ensures.filed c.in_ok-report-in-Some-2.ensures.wrote)

pub returns-in_err-report-in-Some-2-clause-failed : goal.returns-in_err-report-in-Some-2-clause-failed
returns-in_err-report-in-Some-2-clause-failed g c = λ failed.
    let reach = g.A.Access.reach in
    let own = c.args.own.now in
    let session = session_of reach own.at_end in
    let was = g.A.Access.stands c.args.access.now in
    let is = g.A.Access.stands c.file.new.access in
    let now = g.R.Read.remaining c.args.reader.now in
    let left = g.R.Read.remaining c.file.new.reader in
    let Wrote = WroteSome (g.W.Write.contents c.args.writer.now) (g.W.Write.contents c.report-in-Some-2.new.writer) in
    let filing = c.in-File.filing in
    let got = c.in_ok-answer-in-File.field-0 in
    let same : c.args.request ≡ File filing = search rules in
    let given : got ≡ Some c.in-Some-2.answer = search rules in
    subst (λ (q : Request). IfSome now (λ following. ServesRequestOver session was is (Notes own own) true q following left Wrote)) (sym same)
    (served_file now left Wrote session was is (Notes own own) filing got c.in-Some-2.answer given (λ turns. refl) c.in_ok-answer-in-File.ensures.filed c.in_err-report-in-Some-2.ensures.failed)

pub returns-in_ok-give-in-Fetch-clause-served : goal.returns-in_ok-give-in-Fetch-clause-served
returns-in_ok-give-in-Fetch-clause-served g c =
    let reach = g.A.Access.reach in
    let own = c.args.own.now in
    let session = session_of reach own.at_end in
    let wanted = c.in-Fetch.wanted in
    let same : c.args.request ≡ Fetch wanted = search rules in
    served_by (g.R.Read.remaining c.args.reader.now) (Appends (g.W.Write.contents c.args.writer.now) (g.W.Write.contents c.give.new.writer)) session (g.A.Access.stands c.args.access.now) (g.A.Access.stands c.give.new.access) (Notes own own) c.args.request
    (λ before turn after. IsLinkedCall reach (as_range wanted.range) before (ask (questions.Fetch wanted.tenant wanted.address)) turn after)
    (λ whole following before turn after k. (subst (λ (q : Request). IsLinkedRequest session before (Some q) whole following turn after following) (sym same) (k, refl), of_question reach after own.numbers.items own.at_end before (as_range wanted.range) (questions.Fetch wanted.tenant wanted.address) turn k))
    c.in_ok-give-in-Fetch.ensures.gave

pub returns-in_err-give-in-Fetch-clause-failed : goal.returns-in_err-give-in-Fetch-clause-failed
returns-in_err-give-in-Fetch-clause-failed g c = λ failed.
    let reach = g.A.Access.reach in
    let own = c.args.own.now in
    let session = session_of reach own.at_end in
    let wanted = c.in-Fetch.wanted in
    let same : c.args.request ≡ Fetch wanted = search rules in
    served_by (g.R.Read.remaining c.args.reader.now) (WroteSome (g.W.Write.contents c.args.writer.now) (g.W.Write.contents c.give.new.writer)) session (g.A.Access.stands c.args.access.now) (g.A.Access.stands c.give.new.access) (Notes own own) c.args.request
    (λ before turn after. IsLinkedCall reach (as_range wanted.range) before (ask (questions.Fetch wanted.tenant wanted.address)) turn after)
    (λ whole following before turn after k. (subst (λ (q : Request). IsLinkedRequest session before (Some q) whole following turn after following) (sym same) (k, refl), of_question reach after own.numbers.items own.at_end before (as_range wanted.range) (questions.Fetch wanted.tenant wanted.address) turn k))
    c.in_err-give-in-Fetch.ensures.failed

pub returns-in_err-give_entries-in-Entries-clause-failed : goal.returns-in_err-give_entries-in-Entries-clause-failed
returns-in_err-give_entries-in-Entries-clause-failed g c = λ failed.
    let reach = g.A.Access.reach in
    let own = c.args.own.now in
    let session = session_of reach own.at_end in
    let range = c.in-Entries.range in
    let same : c.args.request ≡ Entries range = search rules in
    served_by (g.R.Read.remaining c.args.reader.now) (WroteSome (g.W.Write.contents c.args.writer.now) (g.W.Write.contents c.give_entries.new.writer)) session (g.A.Access.stands c.args.access.now) (g.A.Access.stands c.give_entries.new.access) (Notes own own) c.args.request
    (λ before turn after. IsLinkedEntries reach range before turn after)
    (λ whole following before turn after k. (subst (λ (q : Request). IsLinkedRequest session before (Some q) whole following turn after following) (sym same) (k, refl), of_entries reach after own.numbers.items own.at_end before range turn k))
    c.in_err-give_entries-in-Entries.ensures.failed

pub returns-in_ok-give_entries-in-Entries-clause-served : goal.returns-in_ok-give_entries-in-Entries-clause-served
returns-in_ok-give_entries-in-Entries-clause-served g c =
    let reach = g.A.Access.reach in
    let own = c.args.own.now in
    let session = session_of reach own.at_end in
    let range = c.in-Entries.range in
    let same : c.args.request ≡ Entries range = search rules in
    served_by (g.R.Read.remaining c.args.reader.now) (Appends (g.W.Write.contents c.args.writer.now) (g.W.Write.contents c.give_entries.new.writer)) session (g.A.Access.stands c.args.access.now) (g.A.Access.stands c.give_entries.new.access) (Notes own own) c.args.request
    (λ before turn after. IsLinkedEntries reach range before turn after)
    (λ whole following before turn after k. (subst (λ (q : Request). IsLinkedRequest session before (Some q) whole following turn after following) (sym same) (k, refl), of_entries reach after own.numbers.items own.at_end before range turn k))
    c.in_ok-give_entries-in-Entries.ensures.reported
