use Rattle.std.proofs.Common.{ap, ◌∙◌}
use Rattle.b3_forest.specs.Parts.{chunk_in}
use Rattle.b3_forest.specs.Uploads.{pieces_held}
use Rattle.b3_forest.proofs.Canonical.{forest_count}
use Rattle.b3_forest.proofs.hashed_parts.HashedParts.pieces.Goals as goal

pub returns : goal.returns
returns c =
    let old = c.self.inside in
    let keeps = c.self.invariant.keeps in
    c.len.ensures.len ∙ forest_count (chunk_in old.parts.entries) old.subtrees.entries keeps.sorted keeps.forest ∙ ap pieces_held c.self.view_is
