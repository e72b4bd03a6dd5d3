use Rattle.std.proofs.Common.{◌≡◌, ℕ, ◌+◌, ◌*◌, ◌<◌, ◌%◌, ◌^◌, ◌∙◌, slice_index, arith, ap}
use Rattle.b3_core.proofs.EachLane.{below_eight}
use Rattle.b3_core.proofs.wide.chunks.U32x8Chunks.low_words.Goals as goal

pub returns : goal.returns
returns c =
    let front = λ (j : ℕ) (h : j < 4). c.joined.ensures.front j h ∙ c.low_words.ensures j h in
    let back = λ (j : ℕ) (h : j < 4). c.joined.ensures.back j h ∙ c.low_words-2.ensures j h in
    let word = λ (n : ℕ). n % 2 ^ 32 in
    below_eight (λ j. slice_index c.joined.result j ≡ (c.args.number + c.args.step * j) % 2 ^ 32)
    (front 0 (omega arith)) (front 1 (omega arith)) (front 2 (omega arith)) (front 3 (omega arith))
    (back 0 (omega arith) ∙ ap word (omega arith)) (back 1 (omega arith) ∙ ap word (omega arith))
    (back 2 (omega arith) ∙ ap word (omega arith)) (back 3 (omega arith) ∙ ap word (omega arith))
