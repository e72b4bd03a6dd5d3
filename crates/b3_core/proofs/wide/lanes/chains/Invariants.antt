use Rattle.std.proofs.Common.{◌≡◌, ℕ, ◌<◌, ◌+◌, ◌*◌}
use Rattle.b3_core.specs.Tree.{chain}
use Rattle.b3_core.specs.Lanes.{chunk_bytes}
use Rattle.b3_core.specs.inner.Lanes.{lane}
use Rattle.b3_core.specs.Work.{counted}
use Rattle.b3_core.proofs.wide.lanes.chains.Given as goal

abbrev pub invariant-blocks-2 : goal.invariant-blocks-2
invariant-blocks-2 g l = record {
  chained : (j : ℕ) → j < g.V.Words.LANES → lane g.V.Words.word j l.h ≡ chain (chunk_bytes l.bytes (g.row.STEP * j)) (l.number + g.row.STEP * j) l.mode l.k;
  work : l.work ≡ counted l.fn.work (g.V.Words.LANES * l.k);
}
