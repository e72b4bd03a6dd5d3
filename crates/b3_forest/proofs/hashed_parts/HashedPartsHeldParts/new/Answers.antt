use Rattle.std.proofs.Common.{arith, ap, length, sym, ◌∙◌}
use Rattle.store_upload.specs.Uploads.{last_end}
use Rattle.b3_forest.proofs.Ends.{last_of_none}
use Rattle.b3_forest.proofs.KeptPieces.{keeps_nothing}
use Rattle.b3_forest.proofs.hashed_parts.HashedPartsHeldParts.new.Goals as goal

pub invariant_of-result : goal.invariant_of-result
invariant_of-result c =
    let ps = c.new.result.entries in
    let none = c.new.ensures.empty in
    record {
      end_is = sym (ap (last_end length) none ∙ last_of_none);
      keeps = keeps_nothing 0 ps c.new-2.result.entries (omega arith) none c.new-2.ensures.empty;
    }
