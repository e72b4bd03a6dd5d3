use Rattle.std.proofs.Common.{◌∙◌, ap, arith, List, ℕ, slice_index}
use Rattle.b3_core.proofs.EachLane.{words_across}
use Rattle.b3_core.proofs.wide.chunks.U32x8Chunks.words_at.Goals as goal

pub returns-clause-first : goal.returns-clause-first
returns-clause-first c j h =
    ap (λ (v : List ℕ). slice_index v j) c.transposed_halves.ensures.first
    ∙ words_across c.args.bytes.now _ _ _ _ c.args.at c.args.step (c.two_rows-a.ensures.front, c.two_rows-a.ensures.back) (c.two_rows-b.ensures.front, c.two_rows-b.ensures.back)
    (c.two_rows-c.ensures.front, c.two_rows-c.ensures.back) (c.two_rows-d.ensures.front, c.two_rows-d.ensures.back) 0 _ (omega arith) (omega arith) j h

pub returns-clause-second : goal.returns-clause-second
returns-clause-second c j h =
    ap (λ (v : List ℕ). slice_index v j) c.transposed_halves.ensures.second
    ∙ words_across c.args.bytes.now _ _ _ _ c.args.at c.args.step (c.two_rows-a.ensures.front, c.two_rows-a.ensures.back) (c.two_rows-b.ensures.front, c.two_rows-b.ensures.back)
    (c.two_rows-c.ensures.front, c.two_rows-c.ensures.back) (c.two_rows-d.ensures.front, c.two_rows-d.ensures.back) 1 _ (omega arith) (omega arith) j h

pub returns-clause-third : goal.returns-clause-third
returns-clause-third c j h =
    ap (λ (v : List ℕ). slice_index v j) c.transposed_halves.ensures.third
    ∙ words_across c.args.bytes.now _ _ _ _ c.args.at c.args.step (c.two_rows-a.ensures.front, c.two_rows-a.ensures.back) (c.two_rows-b.ensures.front, c.two_rows-b.ensures.back)
    (c.two_rows-c.ensures.front, c.two_rows-c.ensures.back) (c.two_rows-d.ensures.front, c.two_rows-d.ensures.back) 2 _ (omega arith) (omega arith) j h

pub returns-clause-fourth : goal.returns-clause-fourth
returns-clause-fourth c j h =
    ap (λ (v : List ℕ). slice_index v j) c.transposed_halves.ensures.fourth
    ∙ words_across c.args.bytes.now _ _ _ _ c.args.at c.args.step (c.two_rows-a.ensures.front, c.two_rows-a.ensures.back) (c.two_rows-b.ensures.front, c.two_rows-b.ensures.back)
    (c.two_rows-c.ensures.front, c.two_rows-c.ensures.back) (c.two_rows-d.ensures.front, c.two_rows-d.ensures.back) 3 _ (omega arith) (omega arith) j h
