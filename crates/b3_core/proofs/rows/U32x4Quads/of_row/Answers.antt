use Rattle.std.proofs.Common.{refl}
use Rattle.b3_core.proofs.EachRow.{only_one}
use Rattle.b3_core.proofs.rows.U32x4Quads.of_row.Goals as goal

pub returns : goal.returns
returns c = only_one _ (refl, refl, refl, refl)
