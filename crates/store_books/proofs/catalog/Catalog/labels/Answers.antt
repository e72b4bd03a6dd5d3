use Rattle.std.proofs.Common.{◌∙◌, ◌++◌, List, ap, map}
use Rattle.store_books.specs.declared.catalog.FiledObject.{FiledObject}
use Rattle.store_books.specs.declared.content.ObjectLabel.{ObjectLabel}
use Rattle.store_books.specs.Forgetting.{label_of}
use Rattle.store_books.specs.Kept.{ModelCatalog}
use Rattle.store_books.proofs.HoldingRows.{labels_shown}
use Rattle.store_books.proofs.catalog.Catalog.labels.Goals as goal

pub loop-filed-init : goal.loop-filed-init
loop-filed-init g c =
    let all = c.self.inside in
    let size = g.O.Content.size in
    let address = g.O.Content.address in
    ap (λ (ls : List ObjectLabel). ls ++ map (λ (f : FiledObject g.row.O.Denot). label_of size address f.content) c.into_iter-filed-iterator.result) c.new-labels.ensures.items
    ∙ ap (λ (fs : List (FiledObject g.row.O.Denot)). map (λ (f : FiledObject g.row.O.Denot). label_of size address f.content) fs) (c.into_iter-filed-iterator.ensures.into_iter_gives ∙ c.values-filed-items.ensures.rest)
    ∙ labels_shown size address all.held.keys all.filed.entries ∙ ap (λ (x : ModelCatalog g.row.O.Denot). map (λ o. label_of size address o.content) x.objects) c.self.view_is
