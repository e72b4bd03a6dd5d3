use Rattle.std.proofs.lemmas.Simd.{shifts_fit_splat}
use Rattle.std.proofs.Common.{◌-◌, arith}
use Rattle.b3_core.proofs.EachLane.{shifts_turn}
use Rattle.b3_core.proofs.vectors.SimdU32Words.turn.Goals as goal

pub overflow_shr-result : goal.overflow_shr-result
overflow_shr-result g c = shifts_fit_splat 32 c.args.self g.row.N c.args.k c.requires.1

pub overflow_shl-result : goal.overflow_shl-result
overflow_shl-result g c = shifts_fit_splat 32 c.args.self g.row.N (32 - c.args.k) (omega (arith, c.requires.0))

pub returns-clause-turns : goal.returns-clause-turns
returns-clause-turns g c = shifts_turn c.args.k g.row.N c.requires.0 c.requires.1 c.args.self c.fits-self.0
