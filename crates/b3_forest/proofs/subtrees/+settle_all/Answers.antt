use Rattle.std.proofs.Common.{List, length, arith, ap, subst}
use Rattle.b3_forest.specs.Subtrees.{AreForest}
use Rattle.b3_forest.specs.inner.Subtrees.{firsts}
use Rattle.b3_forest.specs.declared.piece.Piece.{Piece}
use Rattle.b3_forest.proofs.subtrees.+settle_all.Goals as goal

pub settle-requires : goal.settle-requires
settle-requires t c =
    let w = c.requires in
    let start = subst (λ (ps : List Piece). AreForest w.chunks (firsts ps) c.args.subtrees.now.entries) c.in-Some.ensures.cases.0 w.forest in
    (firsts c.in-Some.rest.now, record { len = w.len; chunks = w.chunks; whole = w.whole; forest = start })

pub settle_all-requires : goal.settle_all-requires
settle_all-requires t c =
    let w = c.requires in
    let cut = c.in-Some.ensures.cases.0 in
    let start = subst (λ (ps : List Piece). AreForest w.chunks (firsts ps) c.args.subtrees.now.entries) cut w.forest in
    let forest = c.settle.ensures.forest w.len w.chunks (firsts c.in-Some.rest.now) w.whole start in
    (omega (arith, ap length cut), record { len = w.len; chunks = w.chunks; whole = w.whole; forest = forest })

pub returns-clause-forest : goal.returns-clause-forest
returns-clause-forest t c n x chunks forest =
    let cut = c.in-Some.ensures.cases.0 in
    let start = subst (λ (ps : List Piece). AreForest x (firsts ps) c.args.subtrees.now.entries) cut forest in
    c.settle_all.ensures.forest n x chunks (c.settle.ensures.forest n x (firsts c.in-Some.rest.now) chunks start)
