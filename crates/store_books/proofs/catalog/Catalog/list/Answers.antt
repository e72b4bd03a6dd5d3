use Rattle.std.proofs.Common.{◌∙◌, ◌++◌, ℕ, List, ap}
use Rattle.store_books.specs.Kept.{ModelCatalog}
use Rattle.store_books.specs.Questions.{listed}
use Rattle.store_books.proofs.Catalogs.{before}
use Rattle.store_books.proofs.HeldObjects.{ordered_of}
use Rattle.store_books.proofs.HoldingRows.{row_reported, reported_of}
use Rattle.store_books.proofs.catalog.Catalog.list.Goals as goal

pub loop-pair-init : goal.loop-pair-init
loop-pair-init g c =
    let all = c.self.inside in
    let es = all.filed.entries in
    let ps = all.held.keys in
    let size = g.O.Content.size in
    let address = g.O.Content.address in
    let is_numbered = c.self.invariant.0 in
    let pairs = c.into_iter-pair-iterator.result in
    let row = row_reported size address all.filings c.args.tenant es ps pairs (ordered_of address ps es is_numbered.ordered) (before address all.filings es ps (g.I.AddressIndex.number_of all.numbers) is_numbered) c.self.invariant.1
    (c.into_iter-pair-iterator.ensures.into_iter_gives ∙ c.range-pair-items.ensures.between tt) in
    (ap (λ (xs : List (List ℕ × ℕ)). xs ++ reported_of size address es pairs) c.new-list.ensures.items ∙ row.0 ∙ ap (λ (x : ModelCatalog g.row.O.Denot). listed size address c.args.tenant x.objects) c.self.view_is, row.1)
