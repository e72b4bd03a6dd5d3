use Rattle.std.proofs.Common.{refl, sym}
use Rattle.b3_core.proofs.EachRow.{only_one, four}
use Rattle.b3_core.proofs.rows.U32x4Quads.permute.Goals as goal

pub returns : goal.returns
returns c =
    only_one _ (rw (
      sym (four c.args.a c.fits-a.0),
      sym (four c.args.b c.fits-b.0),
      sym (four c.args.c c.fits-c.0),
      sym (four c.args.d c.fits-d.0),
    ) refl)
