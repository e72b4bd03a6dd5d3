use Rattle.std.proofs.Common.{◌≡◌, ◌+◌, ℕ, List, length}
use Rattle.std.specs.Io.KnownBytes.{Consumes}
use Rattle.store_lines.proofs.reading.skip.Given as goal

abbrev pub invariant-loop : goal.invariant-loop
invariant-loop g l = (done : List ℕ) × (length done + l.left ≡ l.len) × Consumes (g.R.Read.remaining l.fn.reader) (g.R.Read.remaining l.reader) done
