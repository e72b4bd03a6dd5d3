use Rattle.std.proofs.Common.{◌+◌, arith, ◌∙◌, ap}
use Rattle.std.proofs.lemmas.Simd.{get_or-replicate}
use Rattle.b3_core.proofs.Nodes.{parent_value}
use Rattle.b3_core.proofs.wide.lanes.block_parents.Goals as goal

pub returns-clause-values : goal.returns-clause-values
returns-clause-values c j a b h block =
    c.compress.ensures.values j 0 (omega arith) (get_or-replicate 8 j 0 0 (omega arith)) (get_or-replicate 8 j 0 0 (omega arith))
    ∙ parent_value a b c.args.mode.now _ _ _ (c.keys-values.ensures j (omega arith) ∙ c.key.ensures) block (ap (λ n. n + 4) c.flag.ensures.value)
