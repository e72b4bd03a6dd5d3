use Rattle.std.proofs.Common.{refl, sym}
use Rattle.b3_core.proofs.EachRow.{only_two, four}
use Rattle.b3_core.proofs.rows.U32x8Quads.of_row.Goals as goal

pub returns : goal.returns
returns c =
    let row = sym (four c.args.row c.fits-row.0) in
    only_two _ (rw row (refl, refl, refl, refl)) (rw row (refl, refl, refl, refl))
