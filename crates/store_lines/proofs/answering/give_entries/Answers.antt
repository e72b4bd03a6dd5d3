use Rattle.std.proofs.Common.{rules, ◌≡◌, false, true}
use Rattle.std.specs.Io.KnownBytes.{Appends}
use Rattle.std.proofs.lemmas.Result.{on_err_weaker, on_ok_weaker}
use Rattle.edge.specs.Output.{WroteSome}
use Rattle.edge.proofs.Output.{after_error}
use Rattle.store_lines.proofs.Reports.{reported_none, reported_these, these_reported}
use Rattle.store_lines.proofs.answering.give_entries.Goals as goal

pub returns-in_err-write_entries-clause-failed : goal.returns-in_err-write_entries-clause-failed
returns-in_err-write_entries-clause-failed g c =
    after_error c.from_residual.result (these_reported g.A.Access.reach (g.A.Access.stands c.args.access.now) (g.A.Access.stands c.write_entries.new.self) c.args.range (WroteSome (g.W.Write.contents c.args.writer.now) (g.W.Write.contents c.write_entries.new.writer)) c.in_err-write_entries.ensures.failed)

pub returns-then-branch-clause-reported : goal.returns-then-branch-clause-reported
returns-then-branch-clause-reported g c =
    let given : c.in_ok-write_entries.field-0 ≡ true = search rules in
    reported_these c.in_ok-write_entries.field-0 g.A.Access.reach (g.A.Access.stands c.args.access.now) (g.A.Access.stands c.write_entries.new.self) c.args.range (g.W.Write.contents c.args.writer.now) (g.W.Write.contents c.write_entries.new.writer) given c.in_ok-write_entries.ensures.reported

pub returns-else-branch-clause-reported : goal.returns-else-branch-clause-reported
returns-else-branch-clause-reported g c =
    let none : c.in_ok-write_entries.field-0 ≡ false = search rules in
    on_ok_weaker c.refuse.result (reported_none Appends c.in_ok-write_entries.field-0 g.A.Access.reach (g.A.Access.stands c.args.access.now) (g.A.Access.stands c.write_entries.new.self) c.args.range (g.W.Write.contents c.args.writer.now) (g.W.Write.contents c.write_entries.new.writer) (g.W.Write.contents c.refuse.new.writer) none c.in_ok-write_entries.ensures.reported) c.refuse.ensures.wrote

pub returns-else-branch-clause-failed : goal.returns-else-branch-clause-failed
returns-else-branch-clause-failed g c =
    let none : c.in_ok-write_entries.field-0 ≡ false = search rules in
    on_err_weaker c.refuse.result (reported_none WroteSome c.in_ok-write_entries.field-0 g.A.Access.reach (g.A.Access.stands c.args.access.now) (g.A.Access.stands c.write_entries.new.self) c.args.range (g.W.Write.contents c.args.writer.now) (g.W.Write.contents c.write_entries.new.writer) (g.W.Write.contents c.refuse.new.writer) none c.in_ok-write_entries.ensures.reported) c.refuse.ensures.failed
