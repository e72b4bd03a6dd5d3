use Rattle.b3_core.proofs.hasher_state.HasherState.init.Goals as goal

pub returns-clause-empty : goal.returns-clause-empty
returns-clause-empty c = rw (c.key-self.ensures, c.flag-self.ensures.value) (c.clear.ensures.nothing c.args.mode.now)
