-- Reading a number of bytes.
use Rattle.std.specs.Prelude.{◌≡◌, ◌≤◌, ◌<◌, ℕ, Bool, true, false, List, Option, Some, None, OnSome, length, take, drop}
use Rattle.std.specs.Io.KnownBytes.{Consumes, IsAtEnd}

-- some of the remaining bytes were taken, at most `most`; none only at the end of the input
abbrev pub TakesSome : Option (List ℕ) → Option (List ℕ) → ℕ → Option ℕ → List ℕ → Type 0
TakesSome old new most (Some count) bytes = (length bytes ≡ count) × (count ≤ most) × Consumes old new bytes
TakesSome old new most None bytes = Consumes old new bytes × (length bytes ≡ 0) × OnSome old (IsAtEnd new)

-- `len` bytes were read, unless the input ended before; then all that there was
abbrev pub Skipped : Bool → ℕ → List ℕ → Option (List ℕ) → Type 0
Skipped true len input left = (len ≤ length input) × (left ≡ Some (drop len input))
Skipped false len input left = (length input < len) × IsAtEnd left

-- and kept
abbrev pub Copied : Bool → ℕ → List ℕ → List ℕ → Option (List ℕ) → Type 0
Copied true len input bytes left = (len ≤ length input) × (bytes ≡ take len input) × (left ≡ Some (drop len input))
Copied false len input bytes left = (length input < len) × IsAtEnd left

-- an answer after `len` bytes that were dropped, or none if they are truncated
abbrev pub Dropped : {X : Type 0} → Option X → X → ℕ → List ℕ → Option (List ℕ) → Type 0
Dropped None answer len input left = (length input < len) × IsAtEnd left
Dropped (Some given) answer len input left = (given ≡ answer) × (len ≤ length input) × (left ≡ Some (drop len input))
