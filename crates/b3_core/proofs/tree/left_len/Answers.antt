use Rattle.std.proofs.Common.{suc, arith, ◌∙◌}
use Rattle.std.proofs.Math.Nat.{two-pow-succ}
use Rattle.b3_core.proofs.Nodes.{split_is}
use Rattle.b3_core.proofs.tree.left_len.Goals as goal

pub loop-side-preserved : goal.loop-side-preserved
loop-side-preserved c =
    let power = c.loop-side.invariant.power in
    record {
      below = omega arith;
      power = (suc power.0, omega (arith, two-pow-succ power.0, power.1));
    }

pub returns-clause-value : goal.returns-clause-value
returns-clause-value c =
    let power = c.loop-side.invariant.power in
    power.1 ∙ split_is c.args.len power.0 (omega (arith, power.1)) (omega (arith, power.1))
