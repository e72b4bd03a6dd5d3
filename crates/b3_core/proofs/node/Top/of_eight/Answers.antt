use Rattle.std.proofs.Common.{refl, arith}
use Rattle.b3_core.proofs.node.Top.of_eight.Goals as goal

pub returns-clause-nodes : goal.returns-clause-nodes
returns-clause-nodes c =
    rw (
      c.of_lane-n0.ensures (c.chains-values.ensures.values 0 (omega arith)),
      c.of_lane-n1.ensures (c.chains-values.ensures.values 1 (omega arith)),
      c.of_lane-n2.ensures (c.chains-values.ensures.values 2 (omega arith)),
      c.of_lane-n3.ensures (c.chains-values.ensures.values 3 (omega arith)),
      c.of_lane-n4.ensures (c.chains-values.ensures.values 4 (omega arith)),
      c.of_lane-n5.ensures (c.chains-values.ensures.values 5 (omega arith)),
      c.of_lane-n6.ensures (c.chains-values.ensures.values 6 (omega arith)),
      c.of_lane-n7.ensures (c.chains-values.ensures.values 7 (omega arith)),
    ) refl
