-- Digits of bytes and of segments.
use Rattle.std.proofs.Common.{◌≡◌, ◌<◌, ℕ, List, [], ◌∷◌, ◌++◌, refl, length, map, arith, codes}
use Rattle.std.specs.Arc.{arc_value}
use Rattle.b3_forest.specs.declared.segment.Segment.{Segment}
use Rattle.b3_forest.specs.Uploads.{content_of, part_of}
use Rattle.edge.proofs.Encoding.{digits_append}
use Rattle.store_lines.specs.inner.Digits.{digits_of}
use Rattle.store_lines.specs.Questions.{digits_text}
use Rattle.hex.specs.Hex.{encode_lower, encode_with, lower_digits}

abbrev pub segment_digits : Segment → List ℕ
segment_digits s = encode_lower (arc_value s.bytes).items

pub digits_more : (s : Segment) (segments : List Segment) → digits_of (s ∷ segments) ≡ segment_digits s ++ digits_of segments
unfolding content_of
digits_more s segments = digits_append lower_digits (arc_value s.bytes).items (content_of (map part_of segments))

pub no_digits : digits_of [] ≡ []
unfolding content_of encode_with
no_digits = refl

pub no_bytes : (bytes : List ℕ) → length bytes ≡ 0 → digits_text bytes ≡ codes "-"
no_bytes [] none = refl
no_bytes (b ∷ bytes) none = absurd (omega (arith, none))

pub some_bytes : (bytes : List ℕ) → 0 < length bytes → digits_text bytes ≡ encode_lower bytes
some_bytes [] some = absurd (omega (arith, some))
some_bytes (b ∷ bytes) some = refl
