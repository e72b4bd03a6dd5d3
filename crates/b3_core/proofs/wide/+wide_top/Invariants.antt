use Rattle.std.proofs.Common.{length}
use Rattle.b3_core.proofs.wide.+wide_top.Given as goal

abbrev pub decreases-wide_top : goal.decreases-wide_top
decreases-wide_top l = length l.bytes.now
