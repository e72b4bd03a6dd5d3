-- Blocks of bytes that several threads read at any offset; if the bytes are known, which bytes are at an offset.
use Rattle.std.specs.Prelude.{◌≡◌, ℕ, List, Option, Some, None}

-- x is all of the bytes, if they are known
abbrev pub AreAll : Option (List ℕ) → List ℕ → Type 0
AreAll None x = Unit {0}
AreAll (Some all) x = x ≡ all
