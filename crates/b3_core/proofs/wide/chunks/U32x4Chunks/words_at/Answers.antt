use Rattle.std.proofs.Common.{◌∙◌, ap, arith, List, ℕ, slice_index}
use Rattle.b3_core.proofs.EachLane.{four_across}
use Rattle.b3_core.proofs.wide.chunks.U32x4Chunks.words_at.Goals as goal

pub returns-clause-first : goal.returns-clause-first
returns-clause-first c j h =
    ap (λ (v : List ℕ). slice_index v j) c.transposed.ensures.first
    ∙ four_across c.args.bytes.now _ _ _ _ c.args.at c.args.step c.row-a.ensures c.row-b.ensures c.row-c.ensures c.row-d.ensures 0 _ (omega arith) (omega arith) j h

pub returns-clause-second : goal.returns-clause-second
returns-clause-second c j h =
    ap (λ (v : List ℕ). slice_index v j) c.transposed.ensures.second
    ∙ four_across c.args.bytes.now _ _ _ _ c.args.at c.args.step c.row-a.ensures c.row-b.ensures c.row-c.ensures c.row-d.ensures 1 _ (omega arith) (omega arith) j h

pub returns-clause-third : goal.returns-clause-third
returns-clause-third c j h =
    ap (λ (v : List ℕ). slice_index v j) c.transposed.ensures.third
    ∙ four_across c.args.bytes.now _ _ _ _ c.args.at c.args.step c.row-a.ensures c.row-b.ensures c.row-c.ensures c.row-d.ensures 2 _ (omega arith) (omega arith) j h

pub returns-clause-fourth : goal.returns-clause-fourth
returns-clause-fourth c j h =
    ap (λ (v : List ℕ). slice_index v j) c.transposed.ensures.fourth
    ∙ four_across c.args.bytes.now _ _ _ _ c.args.at c.args.step c.row-a.ensures c.row-b.ensures c.row-c.ensures c.row-d.ensures 3 _ (omega arith) (omega arith) j h
