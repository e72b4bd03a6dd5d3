-- What one call of a reader takes of a line.
use Rattle.std.specs.Prelude.{◌≡◌, ◌≢◌, ◌+◌, ◌-◌, ◌<◌, ◌⊎◌, ◌++◌, ℕ, Bool, true, false, List, Option, All, OnSome, length, take}
use Rattle.std.specs.Io.{IsEmptyOrEndsWith, StopsAt}
use Rattle.std.specs.Io.KnownBytes.{Consumes, IsAtEnd}

-- `count` bytes of a line were taken; it is done after its newline, or at the end of the input
pub record TakesPart (old new : Option (List ℕ)) (count : ℕ) (is_done : Bool) (bytes : List ℕ) : Type 0 where
  pub count_is : length bytes ≡ count
  pub consumes : Consumes old new bytes
  pub stops : StopsAt bytes 10
  pub goes_on : is_done ≢ true → All (λ x. x ≢ 10) bytes
  pub ends : is_done ≡ true → IsEmptyOrEndsWith bytes 10
  pub none : is_done ≡ true → length bytes ≡ 0 → OnSome old (IsAtEnd new)

-- these bytes of a line that was kept so far are kept, up to its maximum length; or there was no room for them, or not before
abbrev pub KeepsPart : ℕ → ℕ → Bool → Bool → List ℕ → List ℕ → List ℕ → Type 0
KeepsPart max_len room was true old new bytes = (was ≡ true) × (new ≡ old ++ take (max_len - length old) bytes)
KeepsPart max_len room was false old new bytes = (was ≡ false) ⊎ (room < length old + length bytes)
