use Rattle.std.proofs.Common.{◌≡◌, ◌≢◌, ◌≤◌, ℕ, All, List, length, vec_capacity}
use Rattle.std.specs.Io.Iter.{u64_saturate}
use Rattle.std.specs.Io.KnownBytes.{Consumes}
use Rattle.edge.proofs.LineParts.{KeptSoFar}
use Rattle.edge.proofs.lines.read_line.Given as goal

abbrev pub invariant-loop : goal.invariant-loop
invariant-loop g l = (done : List ℕ) × (l.count ≡ u64_saturate (length done)) × All (λ x. x ≢ 10) done
    × Consumes (g.R.Read.remaining l.fn.reader) (g.R.Read.remaining l.reader) done × KeptSoFar l.max_len (vec_capacity l.fn.line) l.is_kept l.line.items done × (vec_capacity l.fn.line ≤ vec_capacity l.line)
