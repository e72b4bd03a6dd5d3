use Rattle.std.proofs.Common.{◌∙◌, ap, arith, length, length-append}
use Rattle.b3_core.specs.Hashers.{count_of}
use Rattle.b3_core.proofs.hasher.Hasher.count.Goals as goal

pub returns-clause-value : goal.returns-clause-value
returns-clause-value c = c.count.ensures c.self.inside.mode ∙ ap count_of c.self.view_is

pub returns-clause-bytes : goal.returns-clause-bytes
returns-clause-bytes c x (before, cut, are, size, few) less =
    omega (arith, returns-clause-value c, ap length cut, length-append before c.args.self.now.tail, size, less)
