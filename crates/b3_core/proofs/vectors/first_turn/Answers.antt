use Rattle.std.proofs.Common.{◌∙◌, ap₂, bit_xor}
use Rattle.b3_core.proofs.WordTurns.{turned_late}
use Rattle.b3_core.proofs.vectors.first_turn.Goals as goal

pub returns : goal.returns
returns g c j h =
    c.xor.ensures j h
    ∙ ap₂ bit_xor (c.turn.ensures.turns j h) (c.turn-2.ensures.turns j h)
    ∙ turned_late (g.V.Words.word c.args.d j) (g.V.Words.word c.args.a j) (c.turn.ensures.fits j h) (c.turn-2.ensures.fits j h)
