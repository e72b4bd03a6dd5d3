use Rattle.std.proofs.Common.{◌≡◌, ◌∙◌, ℕ, Bool, List, None, Some, arith, ap, ap₂, sym}
use Rattle.std.specs.Prelude.{not}
use Rattle.store_books.specs.Books.{Filed, ModelBooks, ModelOwnedUpload, is_held_by, object_at, upload_at}
use Rattle.store_books.specs.Commands.{file_refusal, full_refusal, is_over, with_known}
use Rattle.store_books.specs.Kept.{IsKept, KeptBooks, view_of}
use Rattle.store_books.specs.inner.Kept.{held_by}
use Rattle.store_books.proofs.Commands.{object_amounts, passed, room}
use Rattle.store_books.proofs.Objects.{joins, more_by, where_so}
use Rattle.store_books.proofs.Sums.{Takes, takes}
use Rattle.store_books.proofs.books.Books.seal_known.Goals as goal

seals : {P O : Type 0} {len : P → ℕ} {size : O → ℕ} {address : O → List ℕ} {k : KeptBooks P O} {b : ModelBooks P O} (number : ℕ) (at : List ℕ) (u : ModelOwnedUpload P) (o : Filed O) (n : ℕ) → IsKept len size address k → view_of k ≡ b → upload_at (view_of k) number ≡ Some u → object_at address (view_of k) at ≡ Some o
    → n ≡ more_by len size address u o → file_refusal size address b number at ≡ None → Takes len size address k u.tenant (held_by len u.upload) (object_amounts n 0) (with_known address (view_of k) number at (Some u) (Some o))
seals {len = len} {size} {address} {k} number at u o n kept is found known n_is free =
    let tests = passed (is_over size address (view_of k) u o) _ (full_refusal (view_of k)) (rw (found, known) at (ap (λ b. file_refusal size address b number at) is ∙ free)) in
    takes len size address k kept (joins len size address (view_of k) number at u o n n_is found known kept.all.sound (room (view_of k) tests.1) tests.0)

pub take_out-requires-clause-room : goal.take_out-requires-clause-room
take_out-requires-clause-room g c =
    let u = c.in-Some.begun.now in
    let found = sym c.in-Some.ensures.value in
    let known = c.in-Some-known.ensures.found in
    let more = c.more_used-used.ensures ∙ ap₂ (λ (x : Bool) (y : ℕ). where_so (not x) y) (known.is_holder ∙ ap (λ t. is_held_by t known.object) c.tenant-tenant.ensures) known.size in
    rw found (seals c.args.number c.args.address u known.object c.more_used-used.result c.self.invariant c.self.view_is found known.found more c.requires.free).room

pub invariant_of-self-2 : goal.invariant_of-self-2
invariant_of-self-2 g c =
    let u = c.in-Some.begun.now in
    let found = sym c.in-Some.ensures.value in
    let known = c.in-Some-known.ensures.found in
    let more = c.more_used-used.ensures ∙ ap₂ (λ (x : Bool) (y : ℕ). where_so (not x) y) (known.is_holder ∙ ap (λ t. is_held_by t known.object) c.tenant-tenant.ensures) known.size in
    let new = c.in_ok-add_holder.ensures.objects known.object known.found in
    (seals c.args.number c.args.address u known.object c.more_used-used.result c.self.invariant c.self.view_is found known.found more c.requires.free).kept
    (c.take_out.ensures.accounts u found) c.take_out.ensures.removed (rw c.tenant-tenant.ensures at new) (λ few. omega (arith, few))
