use Rattle.b3_core.proofs.hasher.Hasher.fits.Goals as goal

pub returns : goal.returns
returns c = rw (← c.self.view_is) (c.fits.ensures c.self.inside.mode)
