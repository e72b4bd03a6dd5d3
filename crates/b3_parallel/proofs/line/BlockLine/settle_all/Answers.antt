use Rattle.std.proofs.Common.{rules}
use Rattle.b3_parallel.proofs.line.BlockLine.settle_all.Goals as goal

pub loop-bytes-preserved : goal.loop-bytes-preserved
loop-bytes-preserved g c = record {
  level = search rules;
  carries = λ p x few is. c.settle_first.ensures.carries p x few (c.loop-bytes.invariant.carries p x few is);
}

pub returns-clause-carries : goal.returns-clause-carries
returns-clause-carries g c p x few is = c.settle_first.ensures.carries p x few (c.loop-bytes.invariant.carries p x few is)
