use Rattle.std.proofs.Common.{◌+◌, ◌∙◌, ap, arith}
use Rattle.b3_core.specs.ExtendedOutput.{output_of}
use Rattle.b3_core.specs.Modes.{digest_of}
use Rattle.b3_core.specs.Tree.{ModelTop, tree_top}
use Rattle.b3_c.proofs.hashers.b3_hasher_finalize.Goals as goal

pub returns-clause-bytes : goal.returns-clause-bytes
unfolding digest_of
returns-clause-bytes c p x (is, mode, holds) done =
    c.copy_from_slice.ensures.after ∙ c.root32.ensures.bytes
    ∙ ap (λ (n : ModelTop). output_of n 0 32) (c.in-Some.ensures.node x holds ∙ ap (tree_top x 0) mode)

pub returns-clause-count : goal.returns-clause-count
returns-clause-count c p x (is, mode, holds) done =
    let (made, more, count) = c.in-Some.ensures.count x holds in
    (made + 1, omega (arith, more), omega (arith, count, c.root32.ensures.count))
