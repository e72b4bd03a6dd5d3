use Rattle.std.proofs.Common.{◌∙◌, ap₂, arith}
use Rattle.b3_core.specs.Compression.{rounds}
use Rattle.b3_core.proofs.compression.state_after.Goals as goal

pub returns-clause-state : goal.returns-clause-state
returns-clause-state c = c.seven_rounds.ensures.states 0 (omega arith) ∙ ap₂ (rounds 7) c.start_rows-v.ensures c.message_of-message.ensures
