use Rattle.std.proofs.Common.{refl}
use Rattle.b3_core.proofs.ByteTurns.{Moves8, moved_8}
use Rattle.b3_core.proofs.EachLane.{below_eight}
use Rattle.b3_core.proofs.wide.mixing.U32x8ByteTurns.xor_turn_8.Goals as goal

pub returns : goal.returns
returns c =
    moved_8 8 c.args.self c.args.other refl
    (below_eight (Moves8 8) (refl, refl, refl, refl) (refl, refl, refl, refl) (refl, refl, refl, refl) (refl, refl, refl, refl) (refl, refl, refl, refl) (refl, refl, refl, refl) (refl, refl, refl, refl) (refl, refl, refl, refl))
    c.fits-self c.fits-other
