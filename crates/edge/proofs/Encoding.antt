-- Digits of bytes one after another.
use Rattle.std.proofs.Common.{◌≡◌, ◌/◌, ◌%◌, List, [], ◌∷◌, ◌++◌, ℕ, refl, ap}
use Rattle.std.specs.Prelude.{slice_index}
use Rattle.hex.specs.Hex.{encode_lower, encode_with}

pub digits_append : (table a b : List ℕ) → encode_with table (a ++ b) ≡ encode_with table a ++ encode_with table b
unfolding encode_with
digits_append table [] b = refl
digits_append table (x ∷ a) b = ap (λ ys. slice_index table (x / 16) ∷ slice_index table (x % 16) ∷ ys) (digits_append table a b)

pub no_digits : encode_lower [] ≡ []
unfolding encode_with
no_digits = refl
