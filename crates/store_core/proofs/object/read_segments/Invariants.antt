use Rattle.std.proofs.Common.{◌≡◌, ◌-◌, ◌≤◌, ◌++◌, ℕ, List, drop, length, map, take}
use Rattle.b3_forest.specs.Uploads.{content_of, part_of}
use Rattle.store_core.proofs.object.read_segments.Given as goal

-- what was copied, and what the segments that are left have of the rest
abbrev pub invariant-loop-segment : goal.invariant-loop-segment
invariant-loop-segment l = (done : List ℕ) × (length done ≡ l.at) × (l.at ≤ length l.fn.room) × (l.room ≡ done ++ drop l.at l.fn.room)
    × (done ++ take (length l.fn.room - l.at) (drop l.skip (content_of (map part_of (drop l.segment-index l.segments)))) ≡ take (length l.fn.room) (drop l.offset (content_of (map part_of l.segments))))
