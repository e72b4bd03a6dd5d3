use Rattle.std.proofs.Common.{arith}
use Rattle.store_upload.specs.Uploads.{length_of}
use Rattle.b3_forest.proofs.Canonical.{forest_is_canonical}
use Rattle.b3_forest.proofs.Following.{noted_pieces}
use Rattle.b3_forest.proofs.OneForest.{one_forest}
use Rattle.b3_forest.proofs.PiecesAreForest.{pieces_are_forest}
use Rattle.b3_forest.specs.Parts.{chunk_in}
use Rattle.b3_forest.specs.Pieces.{root_level}
use Rattle.b3_forest.proofs.laws.forest_laws.Goals as goal

pub returns : goal.returns
returns c = record {
  kept = λ n ps es keeps. forest_is_canonical (chunk_in ps) es keeps.sorted keeps.forest;
  forest = λ x. pieces_are_forest x root_level 0 0 (omega arith);
  one = λ x ps forest. one_forest x root_level 0 0 ps (omega arith) forest;
  noted = λ f u lawful len same. noted_pieces f (length_of u) u.parts len lawful.placed same;
}
