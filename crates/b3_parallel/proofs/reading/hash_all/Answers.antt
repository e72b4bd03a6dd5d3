use Rattle.std.proofs.Common.{◌≡◌, ◌-◌, ℕ, List, Option, Result, Ok, Err, IfOk, length, ap, ◌∙◌}
use Rattle.std.specs.Io.KnownBytes.{Consumes}
use Rattle.b3_core.specs.Tree.{ModelMode, ModelTop, tree_top}
use Rattle.b3_core.specs.Work.{counted, hash_work}
use Rattle.b3_parallel.proofs.Standing.{same_count}
use Rattle.b3_parallel.proofs.reading.hash_all.Goals as goal

-- the count of a hash, added to another
absorbed : {E : Type 0} (made : Result ModelTop E) (p : ModelMode) (old now : Option (List ℕ)) (n own new : ℕ) → new ≡ counted n own
    → IfOk made (λ top. (x : List ℕ) × (top ≡ tree_top x 0 p) × Consumes old now x × (own ≡ counted 0 (hash_work (length x) - 1)))
    → IfOk made (λ top. (x : List ℕ) × (top ≡ tree_top x 0 p) × Consumes old now x × (new ≡ counted n (hash_work (length x) - 1)))
absorbed (Ok top) p old now n own new added (x, node, consumed, made) = (x, node, consumed, added ∙ ap (counted n) made ∙ same_count n (hash_work (length x) - 1))
absorbed (Err error) p old now n own new added none = tt

pub returns-clause-node : goal.returns-clause-node
returns-clause-node g c =
    absorbed c.hash_in_blocks-made.result c.args.mode.now (g.R.Read.remaining c.args.reader.now) (g.R.Read.remaining c.hash_in_blocks-made.new.reader) c.args.work.now
    c.hash_in_blocks-made.new.line.front.work c.absorb.new.self c.absorb.ensures
    (c.hash_in_blocks-made.ensures.node c.args.mode.now c.new-line.ensures.ready)
