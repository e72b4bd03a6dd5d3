use Rattle.std.proofs.Common.{◌≡◌, ℕ, ◌<◌, ◌+◌, ◌*◌, slice_index}
use Rattle.b3_core.specs.Lanes.{chunk_bytes}
use Rattle.b3_core.specs.inner.Rows.{rows_value}
use Rattle.b3_core.specs.Tree.{chain}
use Rattle.b3_core.specs.Work.{counted}
use Rattle.b3_core.proofs.wide.pairs.pair_values.Given as goal

abbrev pub invariant-blocks-2 : goal.invariant-blocks-2
invariant-blocks-2 l = record {
  chained : (i : ℕ) → 4 * i + 3 < 8 → rows_value slice_index i l.h ≡ chain (chunk_bytes l.bytes i) (l.number + i) l.mode l.k;
  work : l.work ≡ counted l.fn.work (2 * l.k);
}
