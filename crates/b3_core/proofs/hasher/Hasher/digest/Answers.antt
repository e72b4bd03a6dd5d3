use Rattle.std.proofs.Common.{◌+◌, arith, ap, ◌∙◌}
use Rattle.b3_core.specs.ExtendedOutput.{output_of}
use Rattle.b3_core.specs.Modes.{digest_of}
use Rattle.b3_core.specs.Tree.{ModelTop}
use Rattle.b3_core.proofs.hasher.Hasher.digest.Goals as goal

pub returns-clause-bytes : goal.returns-clause-bytes
unfolding digest_of
returns-clause-bytes c x is = c.root32.ensures.bytes ∙ ap (λ (n : ModelTop). output_of n 0 32) (c.top.ensures.node x is)

pub returns-clause-count : goal.returns-clause-count
returns-clause-count c x is =
    let (made, more, count) = c.top.ensures.count x is in
    (made + 1, omega (arith, more), omega (arith, count, c.root32.ensures.count))
