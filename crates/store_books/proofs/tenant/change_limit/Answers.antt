use Rattle.std.proofs.lemmas.List.{map-set}
use Rattle.store_books.specs.declared.tenant.Tenant.{Tenant}
use Rattle.store_books.proofs.tenant.change_limit.Goals as goal

pub returns-clause-limits : goal.returns-clause-limits
returns-clause-limits c = map-set (λ (t : Tenant). t.limit) c.args.tenants.now.items c.args.number _
