use Rattle.std.proofs.Common.{◌≡◌, ◌++◌, map}
use Rattle.store_books.specs.Forgetting.{label_of}
use Rattle.store_books.proofs.catalog.Catalog.labels.Given as goal

-- those so far, and those of the objects that are left
abbrev pub invariant-loop-filed : goal.invariant-loop-filed
invariant-loop-filed g l =
    l.labels.items ++ map (λ f. label_of g.O.Content.size g.O.Content.address f.content) l.filed-iterator ≡ map (λ o. label_of g.O.Content.size g.O.Content.address o.content) l.self.objects
