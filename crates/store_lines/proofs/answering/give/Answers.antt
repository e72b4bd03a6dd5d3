use Rattle.std.proofs.Common.{rules, ◌≡◌, List, Ok, subst, ℕ}
use Rattle.std.specs.Arc.{arc_value}
use Rattle.std.specs.Io.KnownBytes.{Appends}
use Rattle.std.proofs.lemmas.Result.{on_err_weaker, on_ok_weaker}
use Rattle.edge.specs.Output.{WroteSome}
use Rattle.store_core.specs.Runs.{ask}
use Rattle.store_core.specs.declared.store.questions.Reply.TheVariants as replies
use Rattle.store_core.specs.declared.store.questions.Question.TheVariants as questions
use Rattle.store_lines.specs.Access.{Took}
use Rattle.store_lines.proofs.Reports.{fetched, unfetched}
use Rattle.store_lines.proofs.answering.give.Goals as goal

pub returns-in-Ok-clause-gave : goal.returns-in-Ok-clause-gave
returns-in-Ok-clause-gave g c =
    let reach = g.A.Access.reach in
    let was = g.A.Access.stands c.args.access.now in
    let is = g.A.Access.stands c.fetch.new.self in
    let wanted = c.args.wanted in
    let same : arc_value c.in-Ok.object ≡ c.deref.result.now = search rules in
    let took = subst (λ (b : List ℕ). Took reach was is (ask (questions.Fetch wanted.tenant wanted.address)) (Ok (replies.Object b))) same c.in-Ok.ensures in
    on_ok_weaker c.give_object.result (fetched reach was is wanted.tenant wanted.address c.deref.result.now wanted.range (Appends (g.W.Write.contents c.args.writer.now) (g.W.Write.contents c.give_object.new.writer)) took) c.give_object.ensures.wrote

pub returns-in-Err-clause-gave : goal.returns-in-Err-clause-gave
returns-in-Err-clause-gave g c =
    let wanted = c.args.wanted in
    on_ok_weaker c.refuse.result (unfetched g.A.Access.reach (g.A.Access.stands c.args.access.now) (g.A.Access.stands c.fetch.new.self) wanted.tenant wanted.address c.in-Err.refusal wanted.range (Appends (g.W.Write.contents c.args.writer.now) (g.W.Write.contents c.refuse.new.writer)) c.in-Err.ensures) c.refuse.ensures.wrote

pub returns-in-Ok-clause-failed : goal.returns-in-Ok-clause-failed
returns-in-Ok-clause-failed g c =
    let reach = g.A.Access.reach in
    let was = g.A.Access.stands c.args.access.now in
    let is = g.A.Access.stands c.fetch.new.self in
    let wanted = c.args.wanted in
    let same : arc_value c.in-Ok.object ≡ c.deref.result.now = search rules in
    let took = subst (λ (b : List ℕ). Took reach was is (ask (questions.Fetch wanted.tenant wanted.address)) (Ok (replies.Object b))) same c.in-Ok.ensures in
    on_err_weaker c.give_object.result (fetched reach was is wanted.tenant wanted.address c.deref.result.now wanted.range (WroteSome (g.W.Write.contents c.args.writer.now) (g.W.Write.contents c.give_object.new.writer)) took) c.give_object.ensures.failed

pub returns-in-Err-clause-failed : goal.returns-in-Err-clause-failed
returns-in-Err-clause-failed g c =
    let wanted = c.args.wanted in
    on_err_weaker c.refuse.result (unfetched g.A.Access.reach (g.A.Access.stands c.args.access.now) (g.A.Access.stands c.fetch.new.self) wanted.tenant wanted.address c.in-Err.refusal wanted.range (WroteSome (g.W.Write.contents c.args.writer.now) (g.W.Write.contents c.refuse.new.writer)) c.in-Err.ensures) c.refuse.ensures.failed
