use Rattle.std.proofs.Common.{◌≡◌, ◌∙◌, ℕ, List, None, Some, arith, ap, refl}
use Rattle.std.specs.Option.{option_map, option_or}
use Rattle.store_books.specs.Books.{ModelBooks, ModelOwnedUpload, upload_at}
use Rattle.store_books.specs.Commands.{fix_refusal, fix_refused, full_refusal, with_upload}
use Rattle.store_books.specs.Kept.{IsKept, KeptBooks, view_of}
use Rattle.store_upload.specs.Uploads.{fix_fault, fixed_at, length_of}
use Rattle.store_books.proofs.Commands.{ends, on_found, reserving}
use Rattle.store_books.proofs.Sums.{Takes, takes}
use Rattle.store_books.proofs.books.Books.fix.Goals as goal

fixes : {P O : Type 0} {len : P → ℕ} {size : O → ℕ} {address : O → List ℕ} {k : KeptBooks P O} {b : ModelBooks P O} (number n : ℕ) → IsKept len size address k → view_of k ≡ b → fix_refusal len b number n ≡ None
    → (u : ModelOwnedUpload P) × (upload_at (view_of k) number ≡ Some u) × Takes len size address k u.tenant (reserving (length_of u.upload)) (reserving n) (with_upload (view_of k) number (record u { upload = fixed_at u.upload n }))
fixes {len = len} {size} {address} {k} number n kept is free =
    let was = on_found (view_of k) number (λ u. option_or (option_map fix_refused (fix_fault len u.upload n)) (full_refusal (view_of k))) (ap (λ b. fix_refusal len b number n) is ∙ free) in
    (was.0, was.1, takes len size address k kept (ends len size address (view_of k) number n was.0 was.1 kept.all.sound was.2))

pub change-requires : goal.change-requires
change-requires g c =
    let was = fixes c.args.number c.args.len c.self.invariant c.self.view_is c.requires in
    rw (c.fix-resized.ensures.resized was.0 was.1) was.2.room

pub invariant_of-self : goal.invariant_of-self
invariant_of-self g c =
    let was = fixes c.args.number c.args.len c.self.invariant c.self.view_is c.requires in
    was.2.kept (rw (c.fix-resized.ensures.resized was.0 was.1) at c.change.ensures.accounts) (c.fix-resized.ensures.fixed was.0 was.1) refl (λ few. omega (arith, few))
