-- Bytes that can be read at any offset.
use Rattle.std.specs.Prelude.{ℕ, List, Option, Some, None, drop}

-- the bytes from `start` on
abbrev pub known_from : Option (List ℕ) → ℕ → Option (List ℕ)
known_from None start = None
known_from (Some all) start = Some (drop start all)
