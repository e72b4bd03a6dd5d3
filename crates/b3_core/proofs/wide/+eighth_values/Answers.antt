use Rattle.std.proofs.Common.{◌≡◌, ℕ, ◌+◌, ◌-◌, ◌*◌, ◌/◌, ◌^◌, ◌<◌, List, length, take, drop, slice_index, arith, ap, ap₂, sym, subst, ◌∙◌}
use Rattle.std.proofs.lemmas.List.{length-drop, length-take-le}
use Rattle.std.proofs.lemmas.Nat.{pow_pos}
use Rattle.b3_core.specs.Lanes.{chunk_at}
use Rattle.b3_core.specs.inner.Lanes.{lane, group_top}
use Rattle.b3_core.specs.Tree.{chaining_value_of}
use Rattle.b3_core.proofs.EachLane.{below_eight}
use Rattle.b3_core.proofs.WholeChunks.{eighth_one, front_pair, back_pair, level_up}
use Rattle.b3_core.proofs.wide.+eighth_values.Goals as goal

pub returns-then-level-eq0-clause-values : goal.returns-then-level-eq0-clause-values
returns-then-level-eq0-clause-values t c j h =
    let one : 2 ^ c.args.level ≡ 1 = ap (λ k. 2 ^ k) c.if-level-eq0.true in
    c.chunk_values.ensures.values j h
    ∙ ap (λ i. chaining_value_of (chunk_at c.args.bytes.now c.args.number c.args.mode.now i)) (omega arith)
    ∙ ap chaining_value_of (eighth_one c.args.bytes.now c.args.number j c.args.mode.now ∙ ap (λ k. group_top k c.args.bytes.now c.args.number c.args.mode.now j) (sym one))

pub returns-then-level-eq2-clause-values : goal.returns-then-level-eq2-clause-values
returns-then-level-eq2-clause-values t c j h =
    let four : 2 ^ c.args.level ≡ 4 = ap (λ k. 2 ^ k) c.if-level-eq2.true in
    c.page_values.ensures.values j h
    ∙ ap (λ k. chaining_value_of (group_top k c.args.bytes.now c.args.number c.args.mode.now j)) (sym four)

pub eighth_values-left_values-requires : goal.eighth_values-left_values-requires
eighth_values-left_values-requires t c =
    let twice = level_up c.args.level c.if-level-eq0.false in
    let front = ap length c.split_at.ensures.front ∙ length-take-le (length c.args.bytes.now / 2) c.args.bytes.now (omega arith) in
    let len = c.requires.len in
    let number = c.requires.number in
    (omega arith, (omega (arith, front, len, twice), omega (arith, front, number)))

pub eighth_values-right_values-requires : goal.eighth_values-right_values-requires
eighth_values-right_values-requires t c =
    let twice = level_up c.args.level c.if-level-eq0.false in
    let back = ap length c.split_at.ensures.back ∙ length-drop (length c.args.bytes.now / 2) c.args.bytes.now in
    let len = c.requires.len in
    let number = c.requires.number in
    (omega arith, (omega (arith, back, len, twice), omega (arith, back, len, twice, number)))

pub returns-clause-values : goal.returns-clause-values
returns-clause-values t c =
    let x = c.args.bytes.now in
    let n = c.args.number in
    let p = c.args.mode.now in
    let k = c.args.level - 1 in
    let twice = level_up c.args.level c.if-level-eq0.false in
    let len : length x ≡ 16384 * 2 ^ k = omega (arith, c.requires.len, twice) in
    let middle : length x / 2 ≡ 8192 * 2 ^ k = omega (arith, len) in
    let left : c.split_at.result.0.now ≡ take (8192 * 2 ^ k) x = c.split_at.ensures.front ∙ ap (λ i. take i x) middle in
    let right : c.split_at.result.1.now ≡ drop (8192 * 2 ^ k) x = c.split_at.ensures.back ∙ ap (λ i. drop i x) middle in
    let later : n + length x / 2 / 1024 ≡ n + 8 * 2 ^ k = omega (arith, len) in
    let lq = λ (i : ℕ). group_top (2 ^ k) (take (8192 * 2 ^ k) x) n p i in
    let rq = λ (i : ℕ). group_top (2 ^ k) (drop (8192 * 2 ^ k) x) (n + 8 * 2 ^ k) p i in
    let ls = λ (i : ℕ) (h : i < 8). c.eighth_values-left_values.ensures.values i h ∙ ap (λ (y : List ℕ). chaining_value_of (group_top (2 ^ k) y n p i)) left in
    let rs = λ (i : ℕ) (h : i < 8). c.eighth_values-right_values.ensures.values i h ∙ ap₂ (λ (y : List ℕ) (m : ℕ). chaining_value_of (group_top (2 ^ k) y m p i)) right later in
    let front = λ (j : ℕ) (h : j < 4). c.parent_values.ensures.front j (lq (2 * j)) (lq (2 * j + 1)) h (ls (2 * j) (omega (arith, h))) (ls (2 * j + 1) (omega (arith, h)))
    ∙ ap chaining_value_of (front_pair x n k j p len h) in
    let back = λ (j : ℕ) (h : j < 4). c.parent_values.ensures.back j (rq (2 * j)) (rq (2 * j + 1)) h (rs (2 * j) (omega (arith, h))) (rs (2 * j + 1) (omega (arith, h)))
    ∙ ap chaining_value_of (back_pair x n k j p len h) in
    subst (λ m. (j : ℕ) → j < 8 → lane slice_index j c.parent_values.result ≡ chaining_value_of (group_top m x n p j)) (sym twice)
    (below_eight _ (front 0 (omega arith)) (front 1 (omega arith)) (front 2 (omega arith)) (front 3 (omega arith))
    (back 0 (omega arith)) (back 1 (omega arith)) (back 2 (omega arith)) (back 3 (omega arith)))

pub returns-clause-count : goal.returns-clause-count
returns-clause-count t c =
    let twice = level_up c.args.level c.if-level-eq0.false in
    let pos = pow_pos (c.args.level - 1) in
    omega (arith, twice, pos, c.eighth_values-left_values.ensures.count, c.eighth_values-right_values.ensures.count, c.parent_values.ensures.count)
