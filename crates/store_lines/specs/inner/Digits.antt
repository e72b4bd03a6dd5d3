-- The digits of an object's bytes.
use Rattle.std.specs.Prelude.{ℕ, List, map}
use Rattle.hex.specs.Hex.{encode_lower}
use Rattle.b3_forest.specs.declared.segment.Segment.{Segment}
use Rattle.b3_forest.specs.Uploads.{content_of, part_of}

-- the digits of segments, in order
abbrev pub digits_of : List Segment → List ℕ
digits_of segments = encode_lower (content_of (map part_of segments))
