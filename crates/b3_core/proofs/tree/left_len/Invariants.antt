use Rattle.std.proofs.Common.{◌≡◌, ℕ, ◌*◌, ◌^◌, ◌<◌, ◌-◌}
use Rattle.b3_core.proofs.tree.left_len.Given as goal

abbrev pub invariant-loop-side : goal.invariant-loop-side
invariant-loop-side l = record {
  below : l.side < l.len;
  power : (j : ℕ) × (l.side ≡ 1024 * 2 ^ j);
}

abbrev pub decreases-loop-side : goal.decreases-loop-side
decreases-loop-side l = l.len - l.side
