use Rattle.std.proofs.Common.{◌≡◌, ℕ, ◌+◌, ◌*◌, ◌^◌, ◌≤◌}
use Rattle.b3_forest.specs.Parts.{chunks_of}
use Rattle.b3_forest.specs.Pieces.{max_chunks, pieces_of, root_level}
use Rattle.b3_forest.proofs.cutting.push_all.Given as goal

abbrev pub invariant-loop-level : goal.invariant-loop-level
invariant-loop-level l = record {
  level : l.level ≤ root_level;
  width : l.width ≡ 2 ^ l.level;
  aligned : (q : ℕ) × (l.first ≡ q * 2 ^ l.level);
  begins : l.first ≤ l.start;
  ends : l.end ≤ l.first + l.width;
  within : l.first + l.width ≤ max_chunks;
  pieces : pieces_of (chunks_of (record { offset = 1024 * l.start; bytes = l.bytes })) l.level l.first
      ≡ pieces_of (chunks_of (record { offset = 1024 * l.start; bytes = l.bytes })) root_level 0;
}

abbrev pub decreases-loop-level : goal.decreases-loop-level
decreases-loop-level l = l.level
