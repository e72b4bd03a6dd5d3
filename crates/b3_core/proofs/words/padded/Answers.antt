use Rattle.std.proofs.Common.{◌++◌, List, ℕ, length, ap₂}
use Rattle.std.proofs.lemmas.List.{drop-replicate}
use Rattle.b3_core.proofs.words.padded.Goals as goal

pub returns : goal.returns
returns c = ap₂ (λ (a b : List ℕ). a ++ b) c.copy_from_slice.ensures.after (drop-replicate (length c.args.bytes.now) 64 0)
