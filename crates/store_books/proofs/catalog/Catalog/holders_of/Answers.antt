use Rattle.std.proofs.Common.{◌∙◌, ◌++◌, [], List, ℕ, Option, ap, sym}
use Rattle.std.specs.Option.{option_map_or}
use Rattle.store_books.specs.Books.{Filed}
use Rattle.store_books.specs.inner.Catalog.{holders_in}
use Rattle.store_books.proofs.Catalogs.{filed_there, nothing_at, object_at_number}
use Rattle.store_books.proofs.catalog.Catalog.holders_of.Goals as goal

pub returns-in_default : goal.returns-in_default
returns-in_default g c =
    let all = c.self.inside in
    c.new-holders.ensures.items ∙ sym (ap (λ (o : Option (Filed g.row.O.Denot)). option_map_or (λ o. o.holders) o [])
    (nothing_at g.O.Content.address all.filings all.filed.entries all.held.keys (g.I.AddressIndex.number_of all.numbers) c.self.invariant.0 c.args.self.now c.self.view_is c.args.address (sym c.in_default.ensures)))

pub loop-pair-init : goal.loop-pair-init
loop-pair-init g c =
    let all = c.self.inside in
    let address = g.O.Content.address in
    let es = all.filed.entries in
    let ps = all.held.keys in
    let p = g.I.AddressIndex.number_of all.numbers in
    let n = c.in-Some.number in
    let number = sym c.in-Some.ensures in
    let there = filed_there address all.filings es ps p c.self.invariant.0 c.args.address n number in
    ap (λ (hs : List ℕ). hs ++ holders_in c.into_iter-pair-iterator.result n) c.new-holders.ensures.items
    ∙ ap (λ (qs : List (ℕ × ℕ)). holders_in qs n) (c.into_iter-pair-iterator.ensures.into_iter_gives ∙ c.iter-pair-items.ensures.rest)
    ∙ sym (ap (λ (o : Option (Filed g.row.O.Denot)). option_map_or (λ o. o.holders) o []) (object_at_number address all.filings es ps p c.self.invariant.0 c.args.self.now c.self.view_is c.args.address n there.0 number there.1))
