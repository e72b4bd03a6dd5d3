use Rattle.std.proofs.Common.{◌≡◌, ◌∙◌, ℕ, List, None, Some, arith, ap, refl}
use Rattle.store_books.specs.Books.{ModelBooks, ModelOwnedUpload, upload_at}
use Rattle.store_books.specs.Commands.{abort_refusal, full_refusal, without_upload}
use Rattle.store_books.specs.Kept.{IsKept, KeptBooks, view_of}
use Rattle.store_books.specs.inner.Kept.{held_by}
use Rattle.store_books.proofs.Commands.{goes, none, on_found, room}
use Rattle.store_books.proofs.Sums.{Takes, takes}
use Rattle.store_books.proofs.books.Books.abort.Goals as goal

aborts : {P O : Type 0} {len : P → ℕ} {size : O → ℕ} {address : O → List ℕ} {k : KeptBooks P O} {b : ModelBooks P O} (number : ℕ) → IsKept len size address k → view_of k ≡ b → abort_refusal b number ≡ None
    → (u : ModelOwnedUpload P) × (upload_at (view_of k) number ≡ Some u) × Takes len size address k u.tenant (held_by len u.upload) none (without_upload (view_of k) number)
aborts {len = len} {size} {address} {k} number kept is free =
    let was = on_found (view_of k) number (λ u. full_refusal (view_of k)) (ap (λ b. abort_refusal b number) is ∙ free) in
    (was.0, was.1, takes len size address k kept (goes len size address (view_of k) number was.0 was.1 kept.all.sound (room (view_of k) was.2)))

pub take_out-requires-clause-room : goal.take_out-requires-clause-room
take_out-requires-clause-room g c = let was = aborts c.args.number c.self.invariant c.self.view_is c.requires in rw was.1 was.2.room

pub invariant_of-self : goal.invariant_of-self
invariant_of-self g c =
    let was = aborts c.args.number c.self.invariant c.self.view_is c.requires in
    was.2.kept (c.take_out.ensures.accounts was.0 was.1) c.take_out.ensures.removed refl (λ few. omega (arith, few))
