-- What is known of an input that was read.
use Rattle.std.proofs.Common.{◌≡◌, ℕ, List, Option, Some, None, subst}
use Rattle.std.specs.Prelude.{IfSome}

-- what holds of the bytes that were read holds of the input, where that is known
pub known : (input : Option (List ℕ)) (bytes : List ℕ) (P : List ℕ → Type 0) → IfSome input (λ left. bytes ≡ left) → P bytes → IfSome input P
known None bytes P is h = tt
known (Some left) bytes P is h = subst P is h
