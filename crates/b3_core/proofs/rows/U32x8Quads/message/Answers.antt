use Rattle.std.proofs.Common.{refl, sym}
use Rattle.b3_core.proofs.EachRow.{only_two}
use Rattle.b3_core.proofs.Nodes.{eight}
use Rattle.b3_core.proofs.rows.U32x8Quads.message.Goals as goal

pub returns : goal.returns
returns c =
    let a = sym (eight c.args.a c.fits-a.0) in
    let b = sym (eight c.args.b c.fits-b.0) in
    let x = sym (eight c.args.c c.fits-c.0) in
    let d = sym (eight c.args.d c.fits-d.0) in
    only_two _ (rw (a, b, x, d) refl) (rw (a, b, x, d) refl)
