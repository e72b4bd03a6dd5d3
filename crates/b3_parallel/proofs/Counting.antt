-- Compressions that are counted.
use Rattle.std.proofs.Common.{◌≡◌, ℕ, ◌+◌, ◌-◌, ◌*◌, ◌^◌, List, ◌∷◌, length, arith, ap, ◌∙◌}
use Rattle.b3_core.specs.Hashers.{CountsRest, Subtrees, kept_work}
use Rattle.b3_core.specs.Tree.{ModelTop}
use Rattle.b3_core.specs.Work.{counted, hash_work}
use Rattle.b3_parallel.proofs.Standing.{same_count}

-- a count goes on as the nodes that are kept do
pub counts_on : (k l v w : ℕ) → v ≡ counted 0 k → CountsRest k l v w → w ≡ counted 0 l
counts_on k l v w before (made, sum, after) = omega (arith, before, sum, after)

-- a block's own count is absorbed before its node is put after the others
pub counts_block : (k : ℕ) (subtrees new : Subtrees) (top : ModelTop) (mine : List ℕ) (w own v u : ℕ) → length mine ≡ 1024 * 2 ^ k → own ≡ counted 0 (hash_work (length mine) - 1)
    → v ≡ counted w own → CountsRest (kept_work ((k, top) ∷ subtrees)) (kept_work new) v u → w ≡ counted 0 (kept_work subtrees) → u ≡ counted 0 (kept_work new)
counts_block k subtrees new top mine w own v u len is added makes before =
    let size : own ≡ counted 0 (hash_work (1024 * 2 ^ k) - 1) = is ∙ ap (λ m. counted 0 (hash_work m - 1)) len in
    let here : v ≡ counted 0 (kept_work subtrees + (hash_work (1024 * 2 ^ k) - 1)) =
    both (kept_work subtrees) (hash_work (1024 * 2 ^ k) - 1) (added ∙ ap (counted w) size ∙ same_count w (hash_work (1024 * 2 ^ k) - 1)) before in
    counts_on (kept_work subtrees + (hash_work (1024 * 2 ^ k) - 1)) (kept_work new) v u here makes
  where
    both : (a b : ℕ) → v ≡ counted w b → (w ≡ counted 0 a) → v ≡ counted 0 (a + b)
    both a b one two = omega (arith, one, two)
