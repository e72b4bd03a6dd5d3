use Rattle.b3_core.proofs.wide.+eighth_values.Given as goal

abbrev pub decreases-eighth_values : goal.decreases-eighth_values
decreases-eighth_values l = l.level
