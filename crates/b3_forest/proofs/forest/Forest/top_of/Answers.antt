use Rattle.std.proofs.Common.{◌≡◌, ◌∙◌, List, ap, length, subst, sym}
use Rattle.store_upload.specs.Uploads.{ArePlaced, first_gap, last_end, length_of}
use Rattle.b3_forest.specs.Parts.{HeldPart}
use Rattle.b3_forest.specs.Uploads.{content_of}
use Rattle.b3_forest.proofs.Ends.{complete_all}
use Rattle.b3_forest.proofs.forest.Forest.top_of.Goals as goal

pub top-requires : goal.top-requires
top-requires c =
    let u = c.args.upload.now in
    let placed = subst (λ (ps : List HeldPart). ArePlaced length (length_of u) 0 ps) c.parts.ensures.parts c.parts.ensures.placed in
    let all = complete_all u placed (sym c.requires) in
    subst (λ (ps : List HeldPart). first_gap length 0 ps ≡ last_end length ps) (sym c.parts.ensures.parts) all.gap

pub returns-clause-len : goal.returns-clause-len
returns-clause-len c =
    let u = c.args.upload.now in
    let placed = subst (λ (ps : List HeldPart). ArePlaced length (length_of u) 0 ps) c.parts.ensures.parts c.parts.ensures.placed in
    let all = complete_all u placed (sym c.requires) in
    ap (λ (ps : List HeldPart). length (content_of ps)) (sym c.parts.ensures.parts) ∙ c.top.ensures.len ∙ ap (λ (ps : List HeldPart). last_end length ps) c.parts.ensures.parts ∙ all.end
