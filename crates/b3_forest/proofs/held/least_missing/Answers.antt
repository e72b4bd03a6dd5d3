use Rattle.std.proofs.Common.{◌≡◌, ◌*◌, arith, refl, inl}
use Rattle.b3_forest.specs.Parts.{chunk_in}
use Rattle.b3_forest.proofs.Contents.{missing_at}
use Rattle.b3_forest.proofs.KeptPieces.{nothing_past}
use Rattle.b3_forest.proofs.held.least_missing.Goals as goal

pub returns-clause-least : goal.returns-clause-least
returns-clause-least c ps keeps =
    let gap = c.first_gap.ensures.gap (chunk_in ps) keeps.forest (omega arith) (inl refl) (λ i before. absurd (omega (arith, before))) (nothing_past c.args.len ps c.args.subtrees.now.entries keeps) in
    let at = missing_at c.args.len c.first_gap.result ps keeps.placed gap in
    let place : c.first_gap.result * 1024 ≡ 1024 * c.first_gap.result = omega arith in
    omega (arith, at, place, c.min.ensures)
