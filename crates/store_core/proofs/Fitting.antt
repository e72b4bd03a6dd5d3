-- What fits a plan.
use Rattle.std.proofs.Common.{◌≡◌, ◌+◌, ℕ, Bool, true, false, None, refl, arith, inl, inr}
use Rattle.std.specs.Prelude.{◌==◌, ◌&&◌, ◌%◌, not}
use Rattle.std.proofs.lemmas.Bool.{cases_eq, eq-eqb, le-ltb, ne_eqb}
use Rattle.store_upload.specs.Uploads.{Fits, UploadPlan, max_part_bytes, part_fault}

-- bytes that fit a plan have none of the faults
pub fits_none : (plan : UploadPlan) (offset n : ℕ) → Fits plan offset n → part_fault plan offset n ≡ None
fits_none plan offset n f =
    let some = f.some in
    let full = ne_eqb n 0 (λ none. omega (arith, none, some)) in
    let aligned = eq-eqb (offset % 1024) 0 f.aligned in
    let within = le-ltb plan.bound (offset + n) f.within in
    let small = le-ltb max_part_bytes n f.small in
    let whole : (not plan.is_open && not (n % 1024 == 0) && not (offset + n == plan.bound)) ≡ false = by plan.is_open refl in
    rw (full, aligned, within, whole, small) refl
  where
    by : (kind : Bool) → plan.is_open ≡ kind → (not kind && not (n % 1024 == 0) && not (offset + n == plan.bound)) ≡ false
    by true is = refl
    by false is = elim (cases_eq (n % 1024) 0) [
      | inl even ↦ rw (eq-eqb (n % 1024) 0 even) refl
      | inr ragged ↦ rw (ne_eqb (n % 1024) 0 ragged, eq-eqb (offset + n) plan.bound (f.whole is ragged)) refl
    ]
