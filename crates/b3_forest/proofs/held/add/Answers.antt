use Rattle.std.proofs.Common.{List, ◌-◌, ap₂, subst, sym, ◌∙◌}
use Rattle.b3_forest.specs.Subtrees.{AreForest}
use Rattle.b3_forest.specs.inner.Subtrees.{firsts}
use Rattle.b3_forest.specs.Parts.{chunk_in}
use Rattle.b3_forest.specs.Uploads.{with_part}
use Rattle.b3_forest.specs.declared.piece.Piece.{Piece}
use Rattle.b3_forest.proofs.KeptPieces.{is_put, on_err, put_fresh, put_keeps, put_merges}
use Rattle.b3_forest.proofs.held.add.Goals as goal

pub returns-in_err-put_in-clause-unchanged : goal.returns-in_err-put_in-clause-unchanged
returns-in_err-put_in-clause-unchanged c n ps room =
    let fresh = put_fresh n ps c.args.part.now.part c.piece_list.result.now c.args.subtrees.now.entries room c.piece_list.ensures.pieces in
    on_err c.from_residual.result _ (c.in_err-put_in.ensures.back fresh)

pub settle_all-requires : goal.settle_all-requires
settle_all-requires c =
    let p = c.args.part.now.part in
    let n = c.requires.0 in
    let ps = c.requires.1 in
    let put = is_put n ps p c.piece_list.result.now c.args.subtrees.now.entries c.put_in.new.subtrees.entries c.requires.2 c.piece_list.ensures.pieces c.in_ok-put_in.ensures.put in
    let same = c.piece_list.ensures.pieces ∙ sym c.piece_list-2.ensures.pieces in
    record {
      len = n;
      chunks = chunk_in (with_part p ps);
      whole = put.chunks;
      forest = subst (λ (l : List Piece). AreForest (chunk_in (with_part p ps)) (firsts l) c.put_in.new.subtrees.entries) same put.forest;
    }

pub returns-clause-kept : goal.returns-clause-kept
returns-clause-kept c n ps room =
    let p = c.args.part.now.part in
    let es = c.args.subtrees.now.entries in
    let put = is_put n ps p c.piece_list.result.now es c.put_in.new.subtrees.entries room c.piece_list.ensures.pieces c.in_ok-put_in.ensures.put in
    let same = c.piece_list.ensures.pieces ∙ sym c.piece_list-2.ensures.pieces in
    let forest = c.settle_all.ensures.forest n (chunk_in (with_part p ps)) put.chunks
    (subst (λ (l : List Piece). AreForest (chunk_in (with_part p ps)) (firsts l) c.put_in.new.subtrees.entries) same put.forest) in
    put_keeps n ps p es c.settle_all.new.subtrees.entries room forest c.len.ensures.ordered

pub returns-clause-merges : goal.returns-clause-merges
returns-clause-merges c n ps room =
    let p = c.args.part.now.part in
    let es = c.args.subtrees.now.entries in
    let put = is_put n ps p c.piece_list.result.now es c.put_in.new.subtrees.entries room c.piece_list.ensures.pieces c.in_ok-put_in.ensures.put in
    let kept = returns-clause-kept c n ps room in
    ap₂ (λ i j. i - j) c.len-before.ensures.len c.len.ensures.len
    ∙ put_merges n ps p es c.put_in.new.subtrees.entries c.settle_all.new.subtrees.entries room.keeps kept put.len
