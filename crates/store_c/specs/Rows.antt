-- Pages of lists.
use Rattle.std.specs.Prelude.{◌≡◌, ◌++◌, ◌-◌, ℕ, List, drop, length, map, min, take}

-- the rows of items starting at a place were copied, as many as fit, and how many; the others are unchanged
abbrev pub Copies : {T C : Type 0} → (T → C) → List T → ℕ → List C → List C → ℕ → Type 0
Copies row items from old new copied = (copied ≡ min (length old) (length items - from)) × (new ≡ map row (take (length old) (drop from items)) ++ drop copied old)
