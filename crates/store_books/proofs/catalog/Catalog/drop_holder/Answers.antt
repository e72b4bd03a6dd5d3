use Rattle.std.proofs.Common.{◌∙◌, Some, ap, sym}
use Rattle.store_books.specs.Books.{Filed}
use Rattle.store_books.specs.inner.Catalog.{with_address}
use Rattle.store_books.proofs.Catalogs.{is_filed, is_numbered, object_at_number}
use Rattle.store_books.proofs.CatalogChanges.{count_some, is_there_at, right_removed, right_less, shows_removed, shows_less}
use Rattle.store_upload.proofs.Places.{some_is}
use Rattle.store_books.proofs.catalog.Catalog.drop_holder.Goals as goal

pub unreachable-requires : goal.unreachable-requires
unreachable-requires g c =
    let all = c.self.inside in
    is_numbered g.O.Content.address all.filings all.filed.entries all.held.keys (g.I.AddressIndex.number_of all.numbers) c.self.invariant.0 c.args.self.now c.self.view_is c.args.address c.requires.found (sym c.in_default.ensures)

pub unreachable-requires-in_default-remove : goal.unreachable-requires-in_default-remove
unreachable-requires-in_default-remove g c =
    let all = c.self.inside in
    is_filed g.O.Content.address all.filings all.filed.entries all.held.keys (g.I.AddressIndex.number_of all.numbers) c.self.invariant.0 c.args.address c.in-Some.number (sym c.in-Some.ensures) (sym c.in_default-remove.ensures.value)

pub invariant_of-self : goal.invariant_of-self
invariant_of-self g c =
    let all = c.self.inside in
    right_removed g.O.Content.address all.filings all.filed all.held (g.I.AddressIndex.number_of all.numbers) c.args.self.now c.self.invariant.0 c.self.invariant.1 c.self.view_is c.args.tenant c.in-Some.number c.args.address (sym c.in-Some.ensures)
    c.args.is_alone c.requires.held c.remove-was.new.self c.remove-was.ensures.updates.0 c.remove-was.ensures.ordered c.if-is_alone.true c.remove-then-is_alone.new.self c.remove-then-is_alone.ensures.entries c.remove-then-is_alone.ensures.ordered
    (g.I.AddressIndex.number_of c.remove.new.self) c.remove.ensures

pub returns-then-is_alone-clause-left : goal.returns-then-is_alone-clause-left
returns-then-is_alone-clause-left g c =
    let all = c.self.inside in
    shows_removed g.O.Content.address all.filings all.filed all.held (g.I.AddressIndex.number_of all.numbers) c.args.self.now c.self.invariant.0 c.self.invariant.1 c.self.view_is c.args.tenant c.in-Some.number c.args.address (sym c.in-Some.ensures)
    c.args.is_alone c.requires.held c.remove-was.new.self c.remove-was.ensures.updates.0 c.remove-was.ensures.ordered c.if-is_alone.true c.remove-then-is_alone.new.self c.remove-then-is_alone.ensures.entries

pub returns-then-is_alone-clause-freed : goal.returns-then-is_alone-clause-freed
returns-then-is_alone-clause-freed g c = λ o is.
    let all = c.self.inside in
    let address = g.O.Content.address in
    let n = c.in-Some.number in
    let f = c.in-Some-remove.filed in
    let found = object_at_number address all.filings all.filed.entries all.held.keys (g.I.AddressIndex.number_of all.numbers) c.self.invariant.0 c.args.self.now c.self.view_is c.args.address n f (sym c.in-Some.ensures) (sym c.in-Some-remove.ensures.value) in
    rw c.if-is_alone.true (ap (λ (x : Filed g.row.O.Denot). Some x.content) (some_is (with_address address all.held.keys n f).1 o (sym found ∙ is)))

pub count_one_less-requires-clause-there : goal.count_one_less-requires-clause-there
count_one_less-requires-clause-there g c =
    let all = c.self.inside in
    is_there_at g.O.Content.address all.filings all.filed all.held (g.I.AddressIndex.number_of all.numbers) c.args.self.now c.self.invariant.0 c.self.invariant.1 c.self.view_is c.args.tenant c.in-Some.number c.args.address (sym c.in-Some.ensures)

pub count_one_less-requires-clause-some : goal.count_one_less-requires-clause-some
count_one_less-requires-clause-some g c =
    let all = c.self.inside in
    count_some g.O.Content.address all.filings all.filed all.held (g.I.AddressIndex.number_of all.numbers) c.args.self.now c.self.invariant.0 c.self.invariant.1 c.self.view_is c.args.tenant c.in-Some.number c.args.address (sym c.in-Some.ensures)
    c.args.is_alone c.requires.held

pub invariant_of-self-2 : goal.invariant_of-self-2
invariant_of-self-2 g c =
    let all = c.self.inside in
    right_less g.O.Content.address all.filings all.filed all.held (g.I.AddressIndex.number_of all.numbers) c.args.self.now c.self.invariant.0 c.self.invariant.1 c.self.view_is c.args.tenant c.in-Some.number c.args.address (sym c.in-Some.ensures)
    c.args.is_alone c.requires.held c.remove-was.new.self c.remove-was.ensures.updates.0 c.remove-was.ensures.ordered c.if-is_alone.false c.count_one_less.new.filed c.count_one_less.ensures

pub returns-clause-left : goal.returns-clause-left
returns-clause-left g c =
    let all = c.self.inside in
    shows_less g.O.Content.address all.filings all.filed all.held (g.I.AddressIndex.number_of all.numbers) c.args.self.now c.self.invariant.0 c.self.invariant.1 c.self.view_is c.args.tenant c.in-Some.number c.args.address (sym c.in-Some.ensures)
    c.args.is_alone c.requires.held c.remove-was.new.self c.remove-was.ensures.updates.0 c.remove-was.ensures.ordered c.if-is_alone.false c.count_one_less.new.filed c.count_one_less.ensures
