use Rattle.std.proofs.Common.{◌∙◌, ℕ, ap, sym}
use Rattle.std.specs.Prelude.{nat_le}
use Rattle.store_books.specs.inner.Catalog.{with_address}
use Rattle.store_books.proofs.Catalogs.{is_filed, nothing_at, object_at_number}
use Rattle.store_books.proofs.Pairs.{has_pair}
use Rattle.store_books.proofs.catalog.Catalog.known.Goals as goal

pub returns-in_default-clause-absent : goal.returns-in_default-clause-absent
returns-in_default-clause-absent g c =
    let all = c.self.inside in
    nothing_at g.O.Content.address all.filings all.filed.entries all.held.keys (g.I.AddressIndex.number_of all.numbers) c.self.invariant.0 c.args.self.now c.self.view_is c.args.address (sym c.in_default.ensures)

pub unreachable-requires : goal.unreachable-requires
unreachable-requires g c =
    let all = c.self.inside in
    is_filed g.O.Content.address all.filings all.filed.entries all.held.keys (g.I.AddressIndex.number_of all.numbers) c.self.invariant.0 c.args.address c.in-Some.number (sym c.in-Some.ensures) (sym c.in_default-get.ensures.value)

pub returns-clause-found : goal.returns-clause-found
returns-clause-found g c =
    let all = c.self.inside in
    let address = g.O.Content.address in
    let n = c.in-Some.number in
    let f = c.in-Some-get.filed.now in
    let at = sym c.in-Some-get.ensures.value in
    record {
      object = (with_address address all.held.keys n f).1;
      found = object_at_number address all.filings all.filed.entries all.held.keys (g.I.AddressIndex.number_of all.numbers) c.self.invariant.0 c.args.self.now c.self.view_is c.args.address n f (sym c.in-Some.ensures) at;
      size = c.length.ensures;
      is_holder = c.contains.ensures ∙ sym (has_pair c.args.tenant n all.held.keys);
      is_alone = ap (λ (n : ℕ). nat_le n 1) (c.self.invariant.1.counted n f at);
    }
