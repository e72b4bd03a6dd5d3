use Rattle.std.proofs.Common.{refl, sym}
use Rattle.b3_core.proofs.EachRow.{only_one, four}
use Rattle.b3_core.proofs.rows.U32x4Quads.down_one.Goals as goal

pub returns : goal.returns
returns c = only_one _ (rw (sym (four c.args.self c.fits-self.0)) (refl, refl, refl, refl))
