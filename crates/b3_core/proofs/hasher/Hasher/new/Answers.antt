use Rattle.b3_core.proofs.hasher.Hasher.new.Goals as goal

pub returns : goal.returns
returns c = c.new.ensures.nothing c.args.mode.now
