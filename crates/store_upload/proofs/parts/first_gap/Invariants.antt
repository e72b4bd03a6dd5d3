use Rattle.std.proofs.Common.{◌≡◌, ◌^◌, ◌<◌, ℕ}
use Rattle.store_upload.specs.inner.Places.{AreApart}
use Rattle.store_upload.specs.Uploads.{first_gap}
use Rattle.store_upload.proofs.parts.first_gap.Given as goal

-- the parts that are left begin at the gap so far or after it
abbrev pub invariant-loop-start : goal.invariant-loop-start
invariant-loop-start g l =
    (n : ℕ) × (n < 2 ^ 64) × AreApart g.P.Length.len l.at n l.start-iterator × (first_gap g.P.Length.len 0 l.parts.entries ≡ first_gap g.P.Length.len l.at l.start-iterator)
