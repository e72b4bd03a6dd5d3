use Rattle.std.proofs.Common.{ℕ, List, length, subst, sym}
use Rattle.store_upload.specs.Uploads.{ArePlaced, ModelUpload, length_of}
use Rattle.b3_forest.specs.Parts.{HeldPart}
use Rattle.b3_forest.proofs.forest.Forest.segments.Goals as goal

pub returns-clause-in_order : goal.returns-clause-in_order
returns-clause-in_order c =
    subst (λ (u : ModelUpload (List ℕ)). ArePlaced length (length_of u) 0 c.iter.result) c.self.view_is
    (subst (λ (ps : List HeldPart). ArePlaced length (length_of c.self.inside.open) 0 ps) (sym c.iter.ensures) c.parts.ensures.placed)
