use Rattle.std.proofs.Common.{◌∙◌, sym}
use Rattle.store_upload.proofs.Places.{some_is}
use Rattle.store_books.proofs.accounts.Accounts.take_out.Goals as goal

pub change-requires : goal.change-requires
change-requires g c =
    rw (c.tenant-tenant.ensures, c.length.ensures.value, c.held.ensures, c.count.ensures, c.into_upload-upload.ensures) (rw (sym c.in-Some.ensures.value) at c.requires.room)

pub returns-clause-accounts : goal.returns-clause-accounts
returns-clause-accounts g c = λ u is.
    rw (sym (some_is c.in-Some.begun u (c.in-Some.ensures.value ∙ is)))
    (rw (c.tenant-tenant.ensures, c.length.ensures.value, c.held.ensures, c.count.ensures, c.into_upload-upload.ensures) at c.change.ensures.accounts)
