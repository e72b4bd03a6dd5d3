use Rattle.std.proofs.Common.{◌≡◌, ℕ, ◌*◌, ◌/◌, length, arith, ap, ◌∙◌}
use Rattle.b3_core.specs.Work.{counted}
use Rattle.b3_forest.specs.Parts.{chunks_of}
use Rattle.b3_forest.specs.Pieces.{part_work, piece_count}
use Rattle.b3_forest.proofs.prepared.hashed.Goals as goal

pub push_all-requires-clause-within : goal.push_all-requires-clause-within
push_all-requires-clause-within c =
    let fits = c.in_default.ensures.fits in
    omega (arith, fits.within, c.part_fault.ensures.bounded)

pub returns-in-Ok-clause-count : goal.returns-in-Ok-clause-count
returns-in-Ok-clause-count c =
    let fits = c.in_default.ensures.fits in
    let place : 1024 * (c.args.offset / 1024) ≡ c.args.offset = omega (arith, fits.aligned) in
    let Count : ℕ → ℕ = λ i. counted c.args.work.now (part_work (length c.args.bytes.now) (piece_count (chunks_of (record { offset = i; bytes = c.args.bytes.now })))) in
    c.in-Ok.ensures.count ∙ ap Count place
