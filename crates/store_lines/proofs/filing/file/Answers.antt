use Rattle.std.proofs.Common.{subst}
use Rattle.std.specs.Prelude.{IfSome}
use Rattle.store_lines.specs.declared.filing.Filled.{Filled}
use Rattle.store_lines.specs.inner.Reporting.{FillsOver}
use Rattle.store_lines.proofs.Files.{at_err, file_cut, file_refused, file_sealed, file_stopped, file_unread, took_begin, unfiled}
use Rattle.store_lines.proofs.filing.file.Goals as goal

pub returns-in-Err-clause-filed : goal.returns-in-Err-clause-filed
returns-in-Err-clause-filed g c =
    unfiled g.A.Access.reach c.args.filing (g.A.Access.stands c.args.access.now) (g.A.Access.stands c.step.new.self) c.in-Err.refusal c.in-Err.ensures c.dropped.result (g.R.Read.remaining c.args.reader.now) (g.R.Read.remaining c.dropped.new.reader) c.dropped.ensures.dropped

pub returns-in-Ok-Sealed-clause-filed : goal.returns-in-Ok-Sealed-clause-filed
returns-in-Ok-Sealed-clause-filed g c =
    let reach = g.A.Access.reach in
    let was = g.A.Access.stands c.args.access.now in
    let first = g.A.Access.stands c.step.new.self in
    let is = g.A.Access.stands c.fill.new.access in
    let upload = c.upload_of-upload.result in
    let start = g.R.Read.remaining c.args.reader.now in
    let now = g.R.Read.remaining c.fill.new.reader in
    let p = took_begin reach was first c.args.filing c.in-Ok.reply upload c.upload_of-upload.ensures c.in-Ok.ensures in
    let filled = subst (λ (f : Filled). IfSome start (λ following. FillsOver reach first is f c.args.filing upload following now)) c.in-Ok-Sealed.field-0-is c.in-Ok-Sealed.ensures.filled in
    file_sealed start now now reach c.args.filing was first is is upload p.0 p.1 c.in-Ok-Sealed.reply filled

pub returns-in-Ok-Refused-clause-filed : goal.returns-in-Ok-Refused-clause-filed
returns-in-Ok-Refused-clause-filed g c =
    let reach = g.A.Access.reach in
    let was = g.A.Access.stands c.args.access.now in
    let first = g.A.Access.stands c.step.new.self in
    let mid = g.A.Access.stands c.fill.new.access in
    let is = g.A.Access.stands c.abort.new.access in
    let upload = c.upload_of-upload.result in
    let start = g.R.Read.remaining c.args.reader.now in
    let now = g.R.Read.remaining c.fill.new.reader in
    let p = took_begin reach was first c.args.filing c.in-Ok.reply upload c.upload_of-upload.ensures c.in-Ok.ensures in
    let filled = subst (λ (f : Filled). IfSome start (λ following. FillsOver reach first mid f c.args.filing upload following now)) c.in-Ok-Refused.field-0-is c.in-Ok-Refused.ensures.filled in
    file_refused start now (g.R.Read.remaining c.dropped-in-Ok-Refused.new.reader) reach c.args.filing was first mid is upload p.0 p.1 c.abort.ensures.0 c.abort.ensures.1 c.dropped-in-Ok-Refused.result c.in-Ok-Refused.answer c.in-Ok-Refused.left filled
    c.dropped-in-Ok-Refused.ensures.dropped

pub returns-in-Ok-Refused-clause-left : goal.returns-in-Ok-Refused-clause-left
returns-in-Ok-Refused-clause-left g c =
    let reach = g.A.Access.reach in
    let was = g.A.Access.stands c.args.access.now in
    let first = g.A.Access.stands c.step.new.self in
    let mid = g.A.Access.stands c.fill.new.access in
    let is = g.A.Access.stands c.abort.new.access in
    let upload = c.upload_of-upload.result in
    let start = g.R.Read.remaining c.args.reader.now in
    let now = g.R.Read.remaining c.fill.new.reader in
    let p = took_begin reach was first c.args.filing c.in-Ok.reply upload c.upload_of-upload.ensures c.in-Ok.ensures in
    let filled = subst (λ (f : Filled). IfSome start (λ following. FillsOver reach first mid f c.args.filing upload following now)) c.in-Ok-Refused.field-0-is c.in-Ok-Refused.ensures.filled in
    at_err c.dropped-in-Ok-Refused.result (file_unread start now now reach c.args.filing was first mid is upload p.0 p.1 c.abort.ensures.0 c.abort.ensures.1 c.in-Ok-Refused.answer c.in-Ok-Refused.left filled)

pub returns-in-Ok-Truncated-clause-filed : goal.returns-in-Ok-Truncated-clause-filed
returns-in-Ok-Truncated-clause-filed g c =
    let reach = g.A.Access.reach in
    let was = g.A.Access.stands c.args.access.now in
    let first = g.A.Access.stands c.step.new.self in
    let mid = g.A.Access.stands c.fill.new.access in
    let is = g.A.Access.stands c.abort-in-Ok-Truncated.new.access in
    let upload = c.upload_of-upload.result in
    let start = g.R.Read.remaining c.args.reader.now in
    let now = g.R.Read.remaining c.fill.new.reader in
    let p = took_begin reach was first c.args.filing c.in-Ok.reply upload c.upload_of-upload.ensures c.in-Ok.ensures in
    let filled = subst (λ (f : Filled). IfSome start (λ following. FillsOver reach first mid f c.args.filing upload following now)) c.in-Ok-Truncated.field-0-is c.in-Ok-Truncated.ensures.filled in
    file_cut start now now reach c.args.filing was first mid is upload p.0 p.1 c.abort-in-Ok-Truncated.ensures.0 c.abort-in-Ok-Truncated.ensures.1 filled

pub returns-in-Err-fill-clause-left : goal.returns-in-Err-fill-clause-left
returns-in-Err-fill-clause-left g c =
    let reach = g.A.Access.reach in
    let was = g.A.Access.stands c.args.access.now in
    let first = g.A.Access.stands c.step.new.self in
    let mid = g.A.Access.stands c.fill.new.access in
    let is = g.A.Access.stands c.abort-in-Err-fill.new.access in
    let upload = c.upload_of-upload.result in
    let start = g.R.Read.remaining c.args.reader.now in
    let now = g.R.Read.remaining c.fill.new.reader in
    let p = took_begin reach was first c.args.filing c.in-Ok.reply upload c.upload_of-upload.ensures c.in-Ok.ensures in
    file_stopped start now now reach c.args.filing was first mid is upload p.0 p.1 c.abort-in-Err-fill.ensures.0 c.abort-in-Err-fill.ensures.1 c.in-Err-fill.ensures.stopped
