use Rattle.std.proofs.Common.{◌≡◌, ◌∙◌, ℕ, List, None, Some, arith, ap, refl, sym}
use Rattle.std.specs.Option.{option_map, option_or}
use Rattle.store_books.specs.Books.{ModelBooks, ModelOwnedUpload, upload_at}
use Rattle.store_books.specs.Commands.{add_refused, full_refusal, put_refusal, with_upload}
use Rattle.store_books.specs.Kept.{IsKept, KeptBooks, view_of}
use Rattle.store_upload.specs.Uploads.{Fits, length_of, place_fault, with_more}
use Rattle.store_books.proofs.Commands.{on_found, open_amounts, puts, reserving}
use Rattle.store_books.proofs.Sums.{Takes, takes}
use Rattle.store_books.proofs.books.Books.put.Goals as goal

adds : {P O : Type 0} {len : P → ℕ} {size : O → ℕ} {address : O → List ℕ} {k : KeptBooks P O} {b : ModelBooks P O} (number offset : ℕ) (part : P) → IsKept len size address k → view_of k ≡ b → ((u : ModelOwnedUpload P) → upload_at b number ≡ Some u → Fits u.upload.plan offset (len part))
    → put_refusal len b number offset (len part) ≡ None
    → (u : ModelOwnedUpload P) × (upload_at (view_of k) number ≡ Some u)
    × Takes len size address k u.tenant (reserving (length_of u.upload)) (open_amounts (length_of (with_more len u.upload offset part)) (len part) 1) (with_upload (view_of k) number (record u { upload = with_more len u.upload offset part }))
adds {len = len} {size} {address} {k} number offset part kept is fits free =
    let n = len part in
    let was = on_found (view_of k) number (λ u. option_or (option_map add_refused (place_fault len u.upload offset n)) (full_refusal (view_of k))) (ap (λ b. put_refusal len b number offset n) is ∙ free) in
    (was.0, was.1, takes len size address k kept (puts len size address (view_of k) number offset part was.0 was.1 kept.all.sound (fits was.0 (ap (λ b. upload_at b number) (sym is) ∙ was.1)) was.2))

pub change-requires : goal.change-requires
change-requires g c =
    let was = adds c.args.number _ (g.H.HeldParts.kept c.args.part) c.self.invariant c.self.view_is c.requires.fits c.requires.free in
    rw (c.in_ok-resized.ensures.resized was.0 was.1, c.len_of-len.ensures) was.2.room

pub invariant_of-self-2 : goal.invariant_of-self-2
invariant_of-self-2 g c =
    let was = adds c.args.number _ (g.H.HeldParts.kept c.args.part) c.self.invariant c.self.view_is c.requires.fits c.requires.free in
    was.2.kept (rw (c.in_ok-resized.ensures.resized was.0 was.1, c.len_of-len.ensures) at c.change.ensures.accounts) (c.in_ok-resized.ensures.put was.0 was.1) refl (λ few. omega (arith, few))
