use Rattle.std.proofs.Common.{rules, length}
use Rattle.std.specs.List.{flat_map}
use Rattle.std.proofs.lemmas.Result.{on_err_weaker}
use Rattle.std.specs.Io.KnownBytes.{Appends}
use Rattle.edge.specs.Output.{WroteSome}
use Rattle.edge.proofs.Output.{after_error, some_after, some_first}
use Rattle.store_lines.specs.Questions.{listed_line, page_front}
use Rattle.store_lines.proofs.questions.write_page.Goals as goal

pub returns-in_err-write_page_front-clause-failed : goal.returns-in_err-write_page_front-clause-failed
returns-in_err-write_page_front-clause-failed g c =
    let objects = c.args.objects.now in
    let begun : WroteSome (g.W.Write.contents c.args.writer.now) (g.W.Write.contents c.write_page_front.new.writer) (page_front c.args.next (length objects)) = search rules in
    after_error c.from_residual.result (some_first (g.W.Write.contents c.args.writer.now) (g.W.Write.contents c.write_page_front.new.writer) (page_front c.args.next (length objects)) (flat_map listed_line objects) begun)

pub returns-clause-failed : goal.returns-clause-failed
returns-clause-failed g c =
    let objects = c.args.objects.now in
    let went : Appends (g.W.Write.contents c.args.writer.now) (g.W.Write.contents c.write_page_front.new.writer) (page_front c.args.next (length objects)) = search rules in
    on_err_weaker c.write_listed.result (some_after (g.W.Write.contents c.args.writer.now) (g.W.Write.contents c.write_page_front.new.writer) (g.W.Write.contents c.write_listed.new.writer) (page_front c.args.next (length objects)) (flat_map listed_line objects) went) c.write_listed.ensures.failed
