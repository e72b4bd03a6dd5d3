use Rattle.store_board.specs.Passes.{IsGiverOf}
use Rattle.upload_tests.proofs.hand_overs.give_hundred.Given as goal

abbrev pub invariant-loop-number : goal.invariant-loop-number
invariant-loop-number g l = IsGiverOf l.hand_over l.pass
