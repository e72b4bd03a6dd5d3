use Rattle.std.proofs.Common.{sym}
use Rattle.store_books.specs.inner.Catalog.{with_address}
use Rattle.store_books.proofs.Catalogs.{is_filed, nothing_at, object_at_number}
use Rattle.store_books.proofs.catalog.Catalog.content.Goals as goal

pub returns-in_default-clause-none : goal.returns-in_default-clause-none
returns-in_default-clause-none g c =
    let all = c.self.inside in
    nothing_at g.O.Content.address all.filings all.filed.entries all.held.keys (g.I.AddressIndex.number_of all.numbers) c.self.invariant.0 c.args.self.now c.self.view_is c.args.address (sym c.in_default.ensures)

pub unreachable-requires : goal.unreachable-requires
unreachable-requires g c =
    let all = c.self.inside in
    is_filed g.O.Content.address all.filings all.filed.entries all.held.keys (g.I.AddressIndex.number_of all.numbers) c.self.invariant.0 c.args.address c.in-Some.number (sym c.in-Some.ensures) (sym c.in-None.ensures.value)

pub returns-clause-found : goal.returns-clause-found
returns-clause-found g c =
    let all = c.self.inside in
    let address = g.O.Content.address in
    let f = c.in-Some-get.filed.now in
    ((with_address address all.held.keys c.in-Some.number f).1, object_at_number address all.filings all.filed.entries all.held.keys (g.I.AddressIndex.number_of all.numbers) c.self.invariant.0 c.args.self.now c.self.view_is c.args.address c.in-Some.number f (sym c.in-Some.ensures) (sym c.in-Some-get.ensures.value), c.content.ensures)
