use Rattle.b3_parallel.proofs.line.BlockLine.new.Goals as goal

pub returns-clause-ready : goal.returns-clause-ready
returns-clause-ready g c = c.new.ensures c.args.level
