use Rattle.store_books.proofs.NewTenant.{tenant_kept}
use Rattle.store_books.proofs.books.Books.open_tenant.Goals as goal

pub invariant_of-self-2 : goal.invariant_of-self-2
invariant_of-self-2 g c = tenant_kept c.args.limit c.self.invariant c.self.view_is c.requires c.in_ok-push.ensures.items
