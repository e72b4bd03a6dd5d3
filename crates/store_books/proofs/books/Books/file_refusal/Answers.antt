use Rattle.std.proofs.Common.{◌≡◌, ◌<◌, ℕ, List, Some, arith, length, sym}
use Rattle.store_books.specs.Books.{ModelOwnedUpload, upload_at}
use Rattle.store_books.specs.Kept.{IsKept, KeptBooks, tenant_at, view_of}
use Rattle.store_books.proofs.Commands.{found_among}
use Rattle.store_books.proofs.Sums.{IsAt, count_is, tenant_is}
use Rattle.store_books.proofs.books.Books.file_refusal.Goals as goal

owner : {P O : Type 0} {len : P → ℕ} {size : O → ℕ} {address : O → List ℕ} {k : KeptBooks P O} (number : ℕ) (u : ModelOwnedUpload P) → IsKept len size address k → upload_at (view_of k) number ≡ Some u
    → (u.tenant < length k.accounts.tenants) × IsAt len size address (view_of k) u.tenant (tenant_at k.accounts.tenants u.tenant)
owner {len = len} {size} {address} {k} number u kept found =
    let low = (found_among len size address (view_of k) number u found kept.all.sound).0 in
    let there : u.tenant < length k.accounts.tenants = omega (arith, low, count_is k.accounts.tenants) in
    (there, tenant_is len size address k u.tenant there kept)

pub tenant_of-found-requires : goal.tenant_of-found-requires
tenant_of-found-requires g c = rw c.tenant-tenant.ensures (owner c.args.number c.in-Some.begun.now c.self.invariant (sym c.in-Some.ensures.value)).0

pub overflow_sub-free : goal.overflow_sub-free
overflow_sub-free g c =
    let at = (owner c.args.number c.in-Some.begun.now c.self.invariant (sym c.in-Some.ensures.value)).1 in
    rw (c.tenant_of-found.ensures, c.tenant-tenant.ensures) (omega (arith, at.within))

pub overflow_sub-free-2 : goal.overflow_sub-free-2
overflow_sub-free-2 g c =
    let at = (owner c.args.number c.in-Some.begun.now c.self.invariant (sym c.in-Some.ensures.value)).1 in
    rw (c.tenant_of-found.ensures, c.tenant-tenant.ensures) (omega (arith, at.within))
