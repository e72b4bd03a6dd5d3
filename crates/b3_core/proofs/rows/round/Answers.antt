use Rattle.b3_core.proofs.rows.round.Goals as goal

pub returns : goal.returns
returns g c i h = rw (← c.columns.ensures i h) (c.diagonals.ensures i h)
