use Rattle.std.proofs.Common.{◌≡◌, ◌++◌}
use Rattle.store_books.specs.inner.Catalog.{holders_in}
use Rattle.store_books.specs.Questions.{holders_at}
use Rattle.store_books.proofs.catalog.Catalog.holders_of.Given as goal

-- those so far, and those of the pairs that are left
abbrev pub invariant-loop-pair : goal.invariant-loop-pair
invariant-loop-pair g l = l.holders.items ++ holders_in l.pair-iterator l.number ≡ holders_at g.O.Content.address l.fn.self.objects l.fn.address
