use Rattle.std.proofs.Common.{◌≡◌, ◌∙◌, ℕ, List, None, Some, arith, ap, sym}
use Rattle.std.specs.Prelude.{IfSome}
use Rattle.store_books.specs.Books.{ModelBooks, ModelOwnedUpload, object_at, upload_at}
use Rattle.store_books.specs.Commands.{file_refusal, finish_refused, ready_refusal, with_new}
use Rattle.store_books.specs.Kept.{IsKept, KeptBooks, view_of}
use Rattle.store_books.specs.inner.Kept.{held_by}
use Rattle.store_upload.specs.Uploads.{finish_fault, length_of}
use Rattle.store_books.proofs.Commands.{none_mapped, object_amounts, room}
use Rattle.store_books.proofs.Objects.{files}
use Rattle.store_books.proofs.Sums.{Takes, takes}
use Rattle.store_books.proofs.books.Books.seal_new.Goals as goal

seals : {P O : Type 0} {len : P → ℕ} {size : O → ℕ} {address : O → List ℕ} {k : KeptBooks P O} {b : ModelBooks P O} (number : ℕ) (content : O) (u : ModelOwnedUpload P) (n : ℕ) → IsKept len size address k → view_of k ≡ b → upload_at (view_of k) number ≡ Some u → n ≡ length_of u.upload
    → ready_refusal len b number ≡ None → file_refusal size address b number (address content) ≡ None → object_at address b (address content) ≡ None → IfSome (upload_at b number) (λ u. size content ≡ length_of u.upload)
    → Takes len size address k u.tenant (held_by len u.upload) (object_amounts n n) (with_new (view_of k) number content (Some u))
seals {len = len} {size} {address} {k} {b} number content u n kept is found n_is ready free new long =
    let there : upload_at b number ≡ Some u = ap (λ b. upload_at b number) (sym is) ∙ found in
    let absent = ap (λ b. object_at address b (address content)) is ∙ new in
    let free = rw (found, absent) at (ap (λ b. file_refusal size address b number (address content)) is ∙ free) in
    let ready = none_mapped finish_refused (finish_fault len u.upload) (rw there at ready) in
    takes len size address k kept (files len size address (view_of k) number content u n n_is found kept.all.sound (room (view_of k) free) ready absent (rw there at long))

pub take_out-requires-clause-room : goal.take_out-requires-clause-room
take_out-requires-clause-room g c =
    let found = sym c.in-Some.ensures.value in
    let long = c.length-len.ensures.value ∙ ap length_of c.upload.ensures in
    rw found (seals c.args.number c.args.content c.in-Some.begun.now c.length-len.result c.self.invariant c.self.view_is found long c.requires.ready c.requires.free c.requires.new c.requires.size).room

pub invariant_of-self-2 : goal.invariant_of-self-2
invariant_of-self-2 g c =
    let u = c.in-Some.begun.now in
    let found = sym c.in-Some.ensures.value in
    let long = c.length-len.ensures.value ∙ ap length_of c.upload.ensures in
    let new = c.in_ok-file_last.ensures.filed in
    (seals c.args.number c.args.content u c.length-len.result c.self.invariant c.self.view_is found long c.requires.ready c.requires.free c.requires.new c.requires.size).kept
    (c.take_out.ensures.accounts u found) c.take_out.ensures.removed (rw c.tenant-tenant.ensures at new) (λ few. omega (arith, few))
