use Rattle.std.proofs.Common.{◌++◌, List, ℕ, ap₂, ap, ◌∙◌, ◌+◌}
use Rattle.b3_core.proofs.Nodes.{parent_is}
use Rattle.b3_core.proofs.node.Top.of_children.Goals as goal

pub returns : goal.returns
returns c l r left right =
    parent_is l r c.args.mode.now _ _ _ c.key.ensures
    (c.joined.ensures ∙ ap₂ (λ (a b : List ℕ). a ++ b) left right)
    (ap (λ n. n + 4) c.flag.ensures.value)
