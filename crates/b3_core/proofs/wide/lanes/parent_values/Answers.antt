use Rattle.std.proofs.Common.{◌+◌, ◌∙◌, ◌++◌, arith, ap₂}
use Rattle.b3_core.proofs.wide.lanes.parent_values.Goals as goal

pub returns-clause-front : goal.returns-clause-front
returns-clause-front c j a b h left right =
    c.block_parents.ensures.values j a b (omega arith) (c.pairs.ensures.front j h ∙ ap₂ (λ l r. l ++ r) left right)

pub returns-clause-back : goal.returns-clause-back
returns-clause-back c j a b h left right =
    c.block_parents.ensures.values (j + 4) a b (omega arith) (c.pairs.ensures.back j h ∙ ap₂ (λ l r. l ++ r) left right)
