use Rattle.std.proofs.Common.{◌≡◌, ◌*◌, ◌^◌, ◌-◌}
use Rattle.b3_core.proofs.wide.eighth_level.Given as goal

abbrev pub invariant-loop-whole : goal.invariant-loop-whole
invariant-loop-whole l = l.whole ≡ 8192 * 2 ^ l.level

abbrev pub decreases-loop-whole : goal.decreases-loop-whole
decreases-loop-whole l = l.len - l.whole
