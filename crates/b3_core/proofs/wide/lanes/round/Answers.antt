use Rattle.b3_core.proofs.wide.lanes.round.Goals as goal

pub returns : goal.returns
returns g c j h = rw (← c.columns.ensures j h) (c.diagonals.ensures j h)
