-- How often numbers are in a list.
use Rattle.std.specs.Prelude.{ℕ, List, count_by, nat_eq, nat_lt, if◌then◌else◌}

-- how often k is among the numbers
abbrev pub times : ℕ → List ℕ → ℕ
times k numbers = count_by (λ n. nat_eq n k) numbers

-- 1 if k is below n, otherwise 0
abbrev pub once_below : ℕ → ℕ → ℕ
once_below k n = if nat_lt k n then 1 else 0
