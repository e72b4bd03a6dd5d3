-- Counts of compressions.
use Rattle.std.specs.Prelude.{ℕ, ◌≤◌, ◌+◌, ◌-◌, ◌/◌, ◌^◌, min, max}
use Rattle.b3_core.specs.Tree.{block_size, chunk_count}

-- a count of n compressions after k more: it saturates at 2 ^ 64 - 1
abbrev pub counted : ℕ → ℕ → ℕ
counted n k = n + min k (2 ^ 64 - 1 - n)

-- a count is no smaller than it was
abbrev pub NeverFalls : ℕ → ℕ → Type 0
NeverFalls n m = n ≤ m

-- the number of blocks of n bytes; no bytes are one empty block
abbrev pub block_count : ℕ → ℕ
block_count n = max 1 ((n + (block_size - 1)) / block_size)

-- the number of compressions of the hash of n bytes: one for each block, and one for each parent
abbrev pub hash_work : ℕ → ℕ
hash_work n = block_count n + chunk_count n - 1
