use Rattle.std.proofs.Common.{ℕ, ◌+◌, ◌-◌, ◌*◌, ◌∙◌, List, length, drop, arith, ap}
use Rattle.std.proofs.lemmas.List.{length-drop, take_all}
use Rattle.b3_core.specs.Lanes.{chunk_at}
use Rattle.b3_core.specs.Tree.{chaining_value_of}
use Rattle.b3_core.proofs.WholeChunks.{four_in_a_row}
use Rattle.b3_core.proofs.wide.page_values.Goals as goal

pub returns-clause-values : goal.returns-clause-values
returns-clause-values c j h =
    let x = c.args.bytes.now in
    let n = c.args.number in
    let p = c.args.mode.now in
    let value = λ (y : List ℕ) (m : ℕ). chaining_value_of (chunk_at y m p (4 * j)) in
    let from = λ (d m : ℕ). ap (λ (y : List ℕ). value y m) (take_all (length x - d) (drop d x) (omega (arith, length-drop d x))) in
    let first = c.chunk_values-first.ensures.values j h in
    let second = c.chunk_values-second.ensures.values j h ∙ from 1024 (n + 1) in
    let third = c.chunk_values-third.ensures.values j h ∙ from 2048 (n + 2) in
    let fourth = c.chunk_values-fourth.ensures.values j h ∙ from 3072 (n + 3) in
    let left = c.lane_parents-left.ensures.values j (chunk_at x n p (4 * j)) (chunk_at (drop 1024 x) (n + 1) p (4 * j)) h first second in
    let right = c.lane_parents-right.ensures.values j (chunk_at (drop 2048 x) (n + 2) p (4 * j)) (chunk_at (drop 3072 x) (n + 3) p (4 * j)) h third fourth in
    c.lane_parents.ensures.values j _ _ h left right ∙ ap chaining_value_of (four_in_a_row x n j p (omega (arith, c.requires.len, h)))
