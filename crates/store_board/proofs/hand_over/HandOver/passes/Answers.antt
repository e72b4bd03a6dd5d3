use Rattle.std.proofs.Common.{arith}
use Rattle.store_board.proofs.HandOverSteps.{forks_with}
use Rattle.store_board.proofs.hand_over.HandOver.passes.Goals as goal

pub another-pass-requires-clause-rule : goal.another-pass-requires-clause-rule
another-pass-requires-clause-rule g c = forks_with _ c.args.self.now.givers _ c.loop-giver.giver _ c.loop-giver.invariant.1 (omega (arith, c.loop-giver-test.true)) (omega (arith, c.loop-giver-test.true)) c.requires.2
