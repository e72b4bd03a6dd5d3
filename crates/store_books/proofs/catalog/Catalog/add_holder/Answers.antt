use Rattle.std.proofs.Common.{arith, sym}
use Rattle.store_books.specs.inner.Catalog.{is_paired}
use Rattle.store_books.proofs.Catalogs.{is_numbered}
use Rattle.store_books.proofs.CatalogChanges.{count_fits, is_there_at, right_more, shows_again, shows_more}
use Rattle.store_books.proofs.Pairs.{was_absent}
use Rattle.store_books.proofs.catalog.Catalog.add_holder.Goals as goal

pub unreachable-requires : goal.unreachable-requires
unreachable-requires g c =
    let all = c.self.inside in
    is_numbered g.O.Content.address all.filings all.filed.entries all.held.keys (g.I.AddressIndex.number_of all.numbers) c.self.invariant.0 c.args.self.now c.self.view_is c.args.address c.requires (sym c.in_default.ensures)

pub count_one_more-requires-clause-there : goal.count_one_more-requires-clause-there
count_one_more-requires-clause-there g c =
    let all = c.self.inside in
    is_there_at g.O.Content.address all.filings all.filed all.held (g.I.AddressIndex.number_of all.numbers) c.args.self.now c.self.invariant.0 c.self.invariant.1 c.self.view_is c.args.tenant c.in-Some.number c.args.address (sym c.in-Some.ensures)

pub count_one_more-requires-clause-few : goal.count_one_more-requires-clause-few
count_one_more-requires-clause-few g c =
    let all = c.self.inside in
    let t = c.args.tenant in
    let n = c.in-Some.number in
    let fresh = was_absent c.in-Ok.is_new (is_paired all.held.keys t n) c.in-Ok.ensures.added c.if-is_new.true in
    count_fits g.O.Content.address all.filings all.filed all.held (g.I.AddressIndex.number_of all.numbers) c.args.self.now c.self.invariant.0 c.self.invariant.1 c.self.view_is t n c.args.address (sym c.in-Some.ensures) c.insert.new.self c.in-Ok.ensures.updates.0
    c.insert.ensures.ordered fresh (omega (arith, c.len-pairs.ensures.len, c.len-pairs.ensures.small))

pub invariant_of-self-then-is_new : goal.invariant_of-self-then-is_new
invariant_of-self-then-is_new g c =
    let all = c.self.inside in
    let t = c.args.tenant in
    let n = c.in-Some.number in
    let fresh = was_absent c.in-Ok.is_new (is_paired all.held.keys t n) c.in-Ok.ensures.added c.if-is_new.true in
    right_more g.O.Content.address all.filings all.filed all.held (g.I.AddressIndex.number_of all.numbers) c.args.self.now c.self.invariant.0 c.self.invariant.1 c.self.view_is t n c.args.address (sym c.in-Some.ensures) c.insert.new.self c.in-Ok.ensures.updates.0
    c.insert.ensures.ordered fresh c.count_one_more.new.filed c.count_one_more.ensures

pub returns-then-is_new-clause-objects : goal.returns-then-is_new-clause-objects
returns-then-is_new-clause-objects g c =
    let all = c.self.inside in
    let t = c.args.tenant in
    let n = c.in-Some.number in
    let fresh = was_absent c.in-Ok.is_new (is_paired all.held.keys t n) c.in-Ok.ensures.added c.if-is_new.true in
    shows_more g.O.Content.address all.filings all.filed all.held (g.I.AddressIndex.number_of all.numbers) c.args.self.now c.self.invariant.0 c.self.invariant.1 c.self.view_is t n c.args.address (sym c.in-Some.ensures) c.insert.new.self c.in-Ok.ensures.updates.0
    c.insert.ensures.ordered fresh c.count_one_more.new.filed c.count_one_more.ensures

pub returns-else-is_new-clause-objects : goal.returns-else-is_new-clause-objects
returns-else-is_new-clause-objects g c =
    let all = c.self.inside in
    shows_again g.O.Content.address all.filings all.filed all.held (g.I.AddressIndex.number_of all.numbers) c.args.self.now c.self.invariant.0 c.self.invariant.1 c.self.view_is c.args.tenant c.in-Some.number c.args.address (sym c.in-Some.ensures) c.insert.new.self
    c.in-Ok.ensures.updates.0 c.insert.ensures.ordered
