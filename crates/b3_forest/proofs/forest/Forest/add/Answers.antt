use Rattle.std.proofs.Common.{◌≡◌, ℕ, List, arith, ap, length, subst, sym, ◌∙◌}
use Rattle.store_upload.specs.Uploads.{ArePlaced, ModelUpload, length_of}
use Rattle.b3_forest.specs.Parts.{chunk_in, chunks_of}
use Rattle.b3_forest.specs.Pieces.{root_level}
use Rattle.b3_forest.specs.Uploads.{add_fault, pieces_held, with_part}
use Rattle.b3_forest.proofs.Counts.{count_most}
use Rattle.b3_forest.proofs.Ends.{merges_most}
use Rattle.b3_forest.proofs.forest.Forest.add.Goals as goal

pub overflow_add-pieces : goal.overflow_add-pieces
overflow_add-pieces c =
    let held = count_most (chunk_in c.parts.result.now) root_level 0 in
    let own = count_most (chunks_of c.args.part.part) root_level 0 in
    omega (arith, held, own, c.pieces.ensures, c.pieces-2.ensures)

pub overflow_sub-result : goal.overflow_sub-result
overflow_sub-result c =
    let u = c.self.inside.open in
    let p = c.args.part in
    let placed = subst (ArePlaced length (length_of u) 0) c.parts.ensures.parts c.parts.ensures.placed in
    let free = c.in_default.ensures ∙ ap (λ (v : ModelUpload (List ℕ)). add_fault v p) (sym c.self.view_is) in
    let most = merges_most u p placed c.fitting-fitting.ensures.fits.some free in
    let before = c.pieces.ensures ∙ ap pieces_held c.parts.ensures.parts in
    let now : c.parts-in-Ok.result.now ≡ with_part p.part u.parts = c.parts-in-Ok.ensures.parts ∙ ap (λ (v : ModelUpload (List ℕ)). v.parts) c.in-Ok.ensures.put in
    let after = c.pieces-in-Ok.ensures ∙ ap pieces_held now in
    omega (arith, most, before, after, c.pieces-2.ensures)
