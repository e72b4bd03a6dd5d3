-- The segments of an object.
use Rattle.std.specs.Prelude.{List, [], ◌∷◌}
use Rattle.b3_forest.specs.declared.segment.Segment.{Segment}
use Rattle.store_core.specs.declared.segments.Kept.{Kept}
use Rattle.store_core.specs.declared.segments.Kept.TheVariants.{One, Many}

-- the list of the segments
abbrev pub kept_list : Kept → List Segment
kept_list (One segment) = segment ∷ []
kept_list (Many list) = list.items
