use Rattle.std.proofs.Common.{ℕ, ◌+◌, List, ◌++◌, ◌∙◌, arith, ap, ap₂}
use Rattle.b3_core.proofs.Nodes.{parent_value}
use Rattle.b3_core.proofs.wide.pairs.pair_parents.Goals as goal

pub returns-clause-first : goal.returns-clause-first
returns-clause-first c l r left right =
    c.values_of.ensures.first
    ∙ c.compress_rows-values.ensures.values 0 0 64 _ (omega arith) (c.of_row-last.ensures 0 (omega arith))
    ∙ parent_value l r c.args.mode.now _ _ _ (c.keys.ensures 0 (omega arith) ∙ c.key.ensures)
    (c.parent_blocks-m.ensures.first ∙ ap₂ (λ (a b : List ℕ). a ++ b) left right) (ap (λ n. n + 4) c.flag.ensures.value)

pub returns-clause-second : goal.returns-clause-second
returns-clause-second c l r left right =
    c.values_of.ensures.second
    ∙ c.compress_rows-values.ensures.values 1 0 64 _ (omega arith) (c.of_row-last.ensures 1 (omega arith))
    ∙ parent_value l r c.args.mode.now _ _ _ (c.keys.ensures 1 (omega arith) ∙ c.key.ensures)
    (c.parent_blocks-m.ensures.second ∙ ap₂ (λ (a b : List ℕ). a ++ b) left right) (ap (λ n. n + 4) c.flag.ensures.value)
