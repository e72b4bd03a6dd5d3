use Rattle.std.proofs.Common.{rules, ◌∙◌, ap}
use Rattle.std.proofs.lemmas.List.{get_or_default}
use Rattle.std.proofs.Math.Seq.{map-set_same}
use Rattle.store_books.specs.declared.tenant.Tenant.{Tenant}
use Rattle.store_books.specs.Kept.{no_tenant}
use Rattle.store_books.proofs.accounts.Accounts.change.Goals as goal

pub returns-clause-limits : goal.returns-clause-limits
returns-clause-limits c =
    map-set_same (λ (t : Tenant). t.limit) c.args.self.now.tenants.items c.args.tenant _ no_tenant
    (ap (λ (t : Tenant). t.limit) (c.index_mut-account.ensures.value ∙ get_or_default c.args.self.now.tenants.items c.args.tenant _ no_tenant (search rules)))
