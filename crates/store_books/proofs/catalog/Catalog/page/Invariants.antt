use Rattle.std.proofs.Common.{◌≡◌, ◌++◌, map, take}
use Rattle.std.specs.Iterator.Adapters.{take_count, take_source}
use Rattle.store_books.specs.Pages.{next_from, page_of}
use Rattle.store_books.proofs.HoldingRows.{AreThere, reported_of}
use Rattle.store_books.proofs.catalog.Catalog.page.Given as goal

-- those so far and those that are left are the page; what is left is filed
abbrev pub invariant-loop-pair : goal.invariant-loop-pair
invariant-loop-pair g l =
    (goal.iterator-loop-pair g).can_next l.pair-iterator × (goal.iterator-loop-pair g).is_finite l.pair-iterator
    × (l.objects.items ++ reported_of g.O.Content.size g.O.Content.address l.filed.entries (take (take_count l.pair-iterator) (take_source l.pair-iterator)) ≡ (page_of g.O.Content.size g.O.Content.address l.tenant l.from l.count l.self.objects).objects)
    × (next_from l.next (map (λ p. p.1) (take (take_count l.pair-iterator) (take_source l.pair-iterator))) ≡ (page_of g.O.Content.size g.O.Content.address l.tenant l.from l.count l.self.objects).next)
    × AreThere l.filed.entries (take (take_count l.pair-iterator) (take_source l.pair-iterator))
