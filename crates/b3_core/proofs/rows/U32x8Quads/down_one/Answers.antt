use Rattle.std.proofs.Common.{refl, sym}
use Rattle.b3_core.proofs.EachRow.{only_two}
use Rattle.b3_core.proofs.Nodes.{eight}
use Rattle.b3_core.proofs.rows.U32x8Quads.down_one.Goals as goal

pub returns : goal.returns
returns c =
    let self = sym (eight c.args.self c.fits-self.0) in
    only_two _ (rw self (refl, refl, refl, refl)) (rw self (refl, refl, refl, refl))
