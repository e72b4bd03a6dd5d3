use Rattle.store_board.specs.Passes.{IsTakerOf}
use Rattle.upload_tests.proofs.hand_overs.take_all.Given as goal

abbrev pub invariant-loop : goal.invariant-loop
invariant-loop g l = IsTakerOf l.hand_over l.taker
