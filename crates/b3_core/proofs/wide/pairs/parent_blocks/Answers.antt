use Rattle.std.proofs.Common.{◌++◌, List, ℕ, ◌∙◌, arith, ap₂}
use Rattle.b3_core.proofs.Nodes.{eight}
use Rattle.b3_core.proofs.wide.pairs.parent_blocks.Goals as goal

pub returns-clause-first : goal.returns-clause-first
returns-clause-first c =
    c.message.ensures 0 (omega arith) ∙ ap₂ (λ (a b : List ℕ). a ++ b) (eight c.args.a (omega arith)) (eight c.args.b (omega arith))

pub returns-clause-second : goal.returns-clause-second
returns-clause-second c =
    c.message.ensures 1 (omega arith) ∙ ap₂ (λ (a b : List ℕ). a ++ b) (eight c.args.c (omega arith)) (eight c.args.d (omega arith))
