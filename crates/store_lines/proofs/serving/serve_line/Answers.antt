use Rattle.std.proofs.Common.{rules, ◌≡◌, refl, true}
use Rattle.std.specs.Io.KnownBytes.{Appends}
use Rattle.edge.specs.Output.{WroteSome}
use Rattle.store_lines.specs.declared.session_line.Line.TheVariants as lines
use Rattle.store_lines.specs.Owning.{session_of}
use Rattle.store_lines.specs.inner.Reporting.{Notes}
use Rattle.store_lines.proofs.Serves.{left_has, served_bad, served_empty, served_has, served_has_ok}
use Rattle.store_lines.proofs.serving.serve_line.Goals as goal

pub returns-in-Has-clause-served : goal.returns-in-Has-clause-served
returns-in-Has-clause-served g c =
    let same : c.args.line ≡ lines.Has c.in-Has.request = search rules in
    served_has_ok c.serve_request.result (g.R.Read.remaining c.args.reader.now) (g.R.Read.remaining c.serve_request.new.reader) (Appends (g.W.Write.contents c.args.writer.now) (g.W.Write.contents c.serve_request.new.writer)) (session_of g.A.Access.reach c.args.own.now.at_end) (g.A.Access.stands c.args.access.now) (g.A.Access.stands c.serve_request.new.access) (Notes c.args.own.now c.serve_request.new.own) c.args.line c.in-Has.request same c.serve_request.ensures.served

pub returns-in-Has-clause-failed : goal.returns-in-Has-clause-failed
returns-in-Has-clause-failed g c = λ failed.
    let same : c.args.line ≡ lines.Has c.in-Has.request = search rules in
    served_has true (g.R.Read.remaining c.args.reader.now) (g.R.Read.remaining c.serve_request.new.reader) (WroteSome (g.W.Write.contents c.args.writer.now) (g.W.Write.contents c.serve_request.new.writer)) (session_of g.A.Access.reach c.args.own.now.at_end) (g.A.Access.stands c.args.access.now) (g.A.Access.stands c.serve_request.new.access) (Notes c.args.own.now c.serve_request.new.own) c.args.line c.in-Has.request same (c.serve_request.ensures.failed failed)

pub returns-in-Has-clause-left : goal.returns-in-Has-clause-left
returns-in-Has-clause-left g c = λ failed.
    let same : c.args.line ≡ lines.Has c.in-Has.request = search rules in
    left_has (g.R.Read.remaining c.args.reader.now) g.A.Access.reach (g.A.Access.stands c.args.access.now) (g.A.Access.stands c.serve_request.new.access) c.args.line c.in-Has.request same (c.serve_request.ensures.left failed)

pub returns-in_ok-report-in-Empty-clause-served : goal.returns-in_ok-report-in-Empty-clause-served
returns-in_ok-report-in-Empty-clause-served g c =
    let same : c.args.line ≡ lines.Empty = search rules in
    served_empty (g.R.Read.remaining c.args.reader.now) (Appends (g.W.Write.contents c.args.writer.now) (g.W.Write.contents c.report.new.writer)) (session_of g.A.Access.reach c.args.own.now.at_end) (g.A.Access.stands c.args.access.now) (Notes c.args.own.now c.args.own.now) c.args.line same refl c.in_ok-report-in-Empty.ensures.wrote

pub returns-in_err-report-in-Empty-clause-failed : goal.returns-in_err-report-in-Empty-clause-failed
returns-in_err-report-in-Empty-clause-failed g c = λ failed.
    let same : c.args.line ≡ lines.Empty = search rules in
    served_empty (g.R.Read.remaining c.args.reader.now) (WroteSome (g.W.Write.contents c.args.writer.now) (g.W.Write.contents c.report.new.writer)) (session_of g.A.Access.reach c.args.own.now.at_end) (g.A.Access.stands c.args.access.now) (Notes c.args.own.now c.args.own.now) c.args.line same refl c.in_err-report-in-Empty.ensures.failed

pub returns-in_ok-report-in-Bad-clause-served : goal.returns-in_ok-report-in-Bad-clause-served
returns-in_ok-report-in-Bad-clause-served g c =
    let same : c.args.line ≡ lines.Bad c.in-Bad.field-0 = search rules in
    served_bad (g.R.Read.remaining c.args.reader.now) (Appends (g.W.Write.contents c.args.writer.now) (g.W.Write.contents c.report-in-Bad.new.writer)) (session_of g.A.Access.reach c.args.own.now.at_end) (g.A.Access.stands c.args.access.now) (Notes c.args.own.now c.args.own.now) c.args.line c.in-Bad.field-0 same refl c.in_ok-report-in-Bad.ensures.wrote

pub returns-in_err-report-in-Bad-clause-failed : goal.returns-in_err-report-in-Bad-clause-failed
returns-in_err-report-in-Bad-clause-failed g c = λ failed.
    let same : c.args.line ≡ lines.Bad c.in-Bad.field-0 = search rules in
    served_bad (g.R.Read.remaining c.args.reader.now) (WroteSome (g.W.Write.contents c.args.writer.now) (g.W.Write.contents c.report-in-Bad.new.writer)) (session_of g.A.Access.reach c.args.own.now.at_end) (g.A.Access.stands c.args.access.now) (Notes c.args.own.now c.args.own.now) c.args.line c.in-Bad.field-0 same refl c.in_err-report-in-Bad.ensures.failed
