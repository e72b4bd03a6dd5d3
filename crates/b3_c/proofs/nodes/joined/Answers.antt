use Rattle.std.proofs.Common.{◌++◌, List, ℕ, arith, ap₂}
use Rattle.b3_core.proofs.Nodes.{eight}
use Rattle.b3_c.proofs.nodes.joined.Goals as goal

pub returns : goal.returns
returns c = ap₂ (λ (a b : List ℕ). a ++ b) (eight c.args.left (omega arith)) (eight c.args.right (omega arith))
