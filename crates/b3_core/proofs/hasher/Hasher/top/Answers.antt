use Rattle.b3_core.proofs.hasher.Hasher.top.Goals as goal

pub returns-clause-count : goal.returns-clause-count
returns-clause-count c = rw (← c.self.view_is) c.top.ensures.count
