use Rattle.store_board.specs.Passes.{IsGiverOf}
use Rattle.upload_tests.proofs.hand_overs.give_one.Given as goal

abbrev pub invariant-loop : goal.invariant-loop
invariant-loop g l = IsGiverOf l.hand_over l.pass
