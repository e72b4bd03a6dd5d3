use Rattle.b3_core.proofs.EachLane.{lane_word, eight_words}
use Rattle.b3_core.proofs.wide.lanes.lane_words.Goals as goal

pub returns : goal.returns
returns g c =
    simp (
      c.get.ensures,
      c.get-2.ensures,
      c.get-3.ensures,
      c.get-4.ensures,
      c.get-5.ensures,
      c.get-6.ensures,
      c.get-7.ensures,
      c.get-8.ensures,
      lane_word g.V.Words.word c.args.i c.args.h.now 8 c.type_inv.h,
    ) (eight_words g.V.Words.word c.args.i c.args.h.now c.type_inv.h)
