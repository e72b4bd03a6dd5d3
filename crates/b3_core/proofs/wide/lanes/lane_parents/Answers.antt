use Rattle.std.proofs.Common.{◌∙◌, ◌++◌, ap₂}
use Rattle.b3_core.proofs.wide.lanes.lane_parents.Goals as goal

pub returns-clause-values : goal.returns-clause-values
returns-clause-values c j a b h left right =
    c.block_parents.ensures.values j a b h (c.stacked.ensures j h ∙ ap₂ (λ l r. l ++ r) left right)
