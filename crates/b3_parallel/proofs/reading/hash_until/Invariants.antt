use Rattle.std.proofs.Common.{◌≡◌, ◌≤◌, ℕ, List, length}
use Rattle.b3_parallel.specs.inner.Blocks.{HasRead, IsGiven}
use Rattle.b3_parallel.proofs.reading.hash_until.Given as goal

abbrev pub invariant-loop : goal.invariant-loop
invariant-loop g l = record {
  mode : l.front.hasher.mode ≡ l.fn.front.hasher.mode;
  len : length l.buffer ≡ length l.fn.buffer;
  given : (x : List ℕ) → IsGiven l.fn.front x → length x ≤ l.until → HasRead l.until l.front x (g.R.Read.remaining l.fn.reader) (g.R.Read.remaining l.reader);
}
