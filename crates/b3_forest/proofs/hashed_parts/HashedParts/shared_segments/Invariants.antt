use Rattle.std.proofs.Common.{◌≡◌, ◌++◌, map}
use Rattle.b3_forest.specs.Uploads.{part_of}
use Rattle.b3_forest.proofs.hashed_parts.HashedParts.shared_segments.Given as goal

-- the segments so far, and the parts that are left
abbrev pub invariant-loop-offset : goal.invariant-loop-offset
invariant-loop-offset l = map part_of l.segments.items ++ l.offset-iterator ≡ l.self
