use Rattle.std.proofs.Common.{◌∙◌}
use Rattle.edge.proofs.TextRooms.{text_begun, text_cut, text_made, text_not_begun, text_not_made, text_went}
use Rattle.edge.proofs.streams.write_text.Goals as goal

pub returns-in-Ok-clause-written : goal.returns-in-Ok-clause-written
returns-in-Ok-clause-written g c =
    let o = g.D.Display.output c.args.text in
    let made = text_made c.new-room.result c.write.new.self o c.new-room.ensures.intact c.new-room.ensures.text c.in-Ok.ensures.writes in
    let is = c.as_bytes.ensures.value ∙ c.as_str.ensures.value in
    text_went c.write_whole.result (g.W.Write.contents c.args.writer.now) (g.W.Write.contents c.write_whole.new.writer) c.as_bytes.result.now o (rw is made) c.write_whole.ensures.written

pub returns-in-Ok-clause-failed : goal.returns-in-Ok-clause-failed
returns-in-Ok-clause-failed g c =
    let o = g.D.Display.output c.args.text in
    let made = text_made c.new-room.result c.write.new.self o c.new-room.ensures.intact c.new-room.ensures.text c.in-Ok.ensures.writes in
    let is = c.as_bytes.ensures.value ∙ c.as_str.ensures.value in
    text_begun c.write_whole.result (g.W.Write.contents c.args.writer.now) (g.W.Write.contents c.write_whole.new.writer) c.as_bytes.result.now o (rw is made) c.write_whole.ensures.failed

pub returns-in-Ok-clause-cut : goal.returns-in-Ok-clause-cut
returns-in-Ok-clause-cut g c =
    let o = g.D.Display.output c.args.text in
    let made = text_made c.new-room.result c.write.new.self o c.new-room.ensures.intact c.new-room.ensures.text c.in-Ok.ensures.writes in
    let is = c.as_bytes.ensures.value ∙ c.as_str.ensures.value in
    text_cut c.write_whole.result (g.W.Write.contents c.args.writer.now) (g.W.Write.contents c.write_whole.new.writer) c.as_bytes.result.now o (rw is made) c.write_whole.ensures.failed

pub returns-clause-failed : goal.returns-clause-failed
returns-clause-failed g c = text_not_begun (g.W.Write.contents c.args.writer.now) (g.D.Display.output c.args.text)

pub returns-clause-cut : goal.returns-clause-cut
returns-clause-cut g c = text_not_made (g.W.Write.contents c.args.writer.now) (g.D.Display.output c.args.text)
