use Rattle.std.proofs.Common.{◌≡◌, ◌<◌, vec_len}
use Rattle.std.specs.Io.KnownBytes.{Consumes}
use Rattle.store_engines.proofs.streams.read_stretches.Given as goal

abbrev pub invariant-loop : goal.invariant-loop
invariant-loop g l = (0 < vec_len l.buffer) × (l.gathered.each ≡ l.stretch_len) × Consumes (g.R.Read.remaining l.fn.reader) (g.R.Read.remaining l.reader) l.gathered.bytes
