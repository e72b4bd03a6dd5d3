use Rattle.std.proofs.Common.{rules}
use Rattle.std.specs.Io.KnownBytes.{Appends}
use Rattle.std.proofs.lemmas.Result.{on_err_weaker, on_ok_weaker}
use Rattle.edge.specs.Output.{WroteSome}
use Rattle.store_lines.proofs.Owned.{executed, unexecuted}
use Rattle.store_lines.proofs.owning.execute.Goals as goal

pub returns-clause-reported : goal.returns-clause-reported
returns-clause-reported g c =
    let own = c.args.own.now in
    let room = c.make_room.new.self in
    on_ok_weaker c.report.result (executed g.A.Access.reach (g.A.Access.stands c.args.access.now) (g.A.Access.stands c.step-reply.new.access) own room c.step-reply.new.self c.args.command c.step-reply.result (Appends (g.W.Write.contents c.args.writer.now) (g.W.Write.contents c.report.new.writer))
    (search rules) (search rules) c.step-reply.ensures.took c.step-reply.ensures.kept c.step-reply.ensures.noted) c.report.ensures.wrote

pub returns-clause-failed : goal.returns-clause-failed
returns-clause-failed g c =
    let own = c.args.own.now in
    let room = c.make_room.new.self in
    on_err_weaker c.report.result (executed g.A.Access.reach (g.A.Access.stands c.args.access.now) (g.A.Access.stands c.step-reply.new.access) own room c.step-reply.new.self c.args.command c.step-reply.result (WroteSome (g.W.Write.contents c.args.writer.now) (g.W.Write.contents c.report.new.writer))
    (search rules) (search rules) c.step-reply.ensures.took c.step-reply.ensures.kept c.step-reply.ensures.noted) c.report.ensures.failed

pub returns-then-not-make_room-clause-reported : goal.returns-then-not-make_room-clause-reported
returns-then-not-make_room-clause-reported g c =
    on_ok_weaker c.refuse.result (unexecuted g.A.Access.reach (g.A.Access.stands c.args.access.now) c.args.own.now c.make_room.new.self c.args.command (Appends (g.W.Write.contents c.args.writer.now) (g.W.Write.contents c.refuse.new.writer)) (c.make_room.ensures.lacks (search rules)) c.make_room.ensures.same) c.refuse.ensures.wrote

pub returns-then-not-make_room-clause-failed : goal.returns-then-not-make_room-clause-failed
returns-then-not-make_room-clause-failed g c =
    on_err_weaker c.refuse.result (unexecuted g.A.Access.reach (g.A.Access.stands c.args.access.now) c.args.own.now c.make_room.new.self c.args.command (WroteSome (g.W.Write.contents c.args.writer.now) (g.W.Write.contents c.refuse.new.writer)) (c.make_room.ensures.lacks (search rules)) c.make_room.ensures.same) c.refuse.ensures.failed
