-- A search for a byte, and the bytes on either side.
use Rattle.std.proofs.Common.{◌≡◌, ◌<◌, ℕ, suc, zero, Bool, true, false, List, [], ◌∷◌, Some, None, refl, arith, length, take, drop}
use Rattle.std.specs.Prelude.{◌==◌, slice_index}
use Rattle.edge.specs.Fields.{split_at}

is_false : (b : Bool) → (b ≡ true → ⊥) → b ≡ false
is_false true not = absurd (not refl)
is_false false not = refl

pub split_first : (mark : ℕ) (bytes : List ℕ) (n : ℕ) → n < length bytes → (slice_index bytes n == mark) ≡ true → ((k : ℕ) → k < n → (slice_index bytes k == mark) ≡ true → ⊥) → split_at mark bytes ≡ Some (take n bytes, drop (suc n) bytes)
split_first mark [] n within at before = absurd (omega (arith, within))
split_first mark (b ∷ bytes) zero within at before = rw at refl
split_first mark (b ∷ bytes) (suc n) within at before =
    let first : (b == mark) ≡ false = is_false (b == mark) (before 0 (omega arith)) in
    rw (first, split_first mark bytes n (omega (arith, within)) at (λ k less. before (suc k) (omega (arith, less)))) refl

pub split_none : (mark : ℕ) (bytes : List ℕ) → ((k : ℕ) → k < length bytes → (slice_index bytes k == mark) ≡ true → ⊥) → split_at mark bytes ≡ None
split_none mark [] before = refl
split_none mark (b ∷ bytes) before =
    let first : (b == mark) ≡ false = is_false (b == mark) (before 0 (omega arith)) in
    rw (first, split_none mark bytes (λ k less. before (suc k) (omega (arith, less)))) refl
