use Rattle.hash_engines.proofs.summing.check_line.Goals as goal

pub returns : goal.returns
returns c = rw (← c.root32-digest.ensures.bytes) c.text_of.ensures
