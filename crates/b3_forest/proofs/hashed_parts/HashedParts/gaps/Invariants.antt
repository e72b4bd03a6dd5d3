use Rattle.std.proofs.Common.{◌≡◌, ◌++◌, length}
use Rattle.store_upload.specs.Uploads.{ArePlaced}
use Rattle.b3_forest.specs.Gaps.{gaps_from}
use Rattle.b3_forest.proofs.hashed_parts.HashedParts.gaps.Given as goal

-- the gaps so far, and those that the parts that are left leave
abbrev pub invariant-loop-offset : goal.invariant-loop-offset
invariant-loop-offset l = record {
  gaps : l.gaps.items ++ gaps_from l.len l.next l.offset-iterator ≡ gaps_from l.len 0 l.self;
  placed : ArePlaced length l.len l.next l.offset-iterator;
}
