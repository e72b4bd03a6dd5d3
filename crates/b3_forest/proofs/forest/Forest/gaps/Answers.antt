use Rattle.std.proofs.Common.{ℕ, length, subst, sym}
use Rattle.store_upload.specs.Uploads.{ArePlaced}
use Rattle.b3_forest.proofs.forest.Forest.gaps.Goals as goal

pub gaps-requires : goal.gaps-requires
gaps-requires c = subst (λ (n : ℕ). ArePlaced length n 0 c.parts.result.now) (sym c.length.ensures.value) c.parts.ensures.placed
