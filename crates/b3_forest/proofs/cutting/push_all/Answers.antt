use Rattle.std.proofs.Common.{◌-◌, ◌∙◌, ℕ, arith, ap}
use Rattle.b3_forest.specs.Parts.{chunks_of}
use Rattle.b3_forest.specs.Pieces.{pieces_of}
use Rattle.b3_forest.proofs.Ranges.{left_aligned, lower, part_from, pieces_left, pieces_right, right_aligned}
use Rattle.b3_forest.proofs.cutting.push_all.Goals as goal
use Rattle.b3_forest.proofs.cutting.push_all.Goals.{then-start-first, else-start-first+else-end-first}

pub loop-level-preserved : goal.loop-level-preserved
loop-level-preserved c =
    let a = c.args.start in
    let b = c.args.bytes.now in
    let k = c.loop-level.level in
    let w = c.loop-level.width in
    let s = c.loop-level.first in
    let had = c.loop-level.invariant in
    let h = lower k w (omega arith) had.width in
    let pieces = λ (i : ℕ). pieces_of (chunks_of (part_from a b)) (k - 1) i in
    elim c.if-start-first.branch [
      | then-start-first w ↦
          record {
            level = omega (arith, had.level);
            width = h.width;
            aligned = right_aligned k c.loop-level.width s _ h had.width had.aligned w.first-is;
            begins = omega arith;
            ends = omega (arith, h.twice, had.ends);
            within = omega (arith, h.twice, had.within);
            pieces = ap pieces w.first-is ∙ pieces_right a b k c.loop-level.width s had.width h (omega arith) ∙ had.pieces;
          }
      | else-start-first+else-end-first w ↦
          record {
            level = omega (arith, had.level);
            width = h.width;
            aligned = left_aligned k c.loop-level.width s _ h had.width had.aligned w.first-is;
            begins = omega (arith, had.begins);
            ends = omega arith;
            within = omega (arith, h.twice, had.within);
            pieces = ap pieces w.first-is ∙ pieces_left a b k c.loop-level.width s had.width h (omega arith) ∙ had.pieces;
          }
    ]
