use Rattle.std.proofs.Common.{◌≡◌, ◌++◌}
use Rattle.store_books.specs.Questions.{listed}
use Rattle.store_books.proofs.HoldingRows.{AreThere, reported_of}
use Rattle.store_books.proofs.catalog.Catalog.list.Given as goal

-- those so far, and those that are left, which are filed
abbrev pub invariant-loop-pair : goal.invariant-loop-pair
invariant-loop-pair g l = (l.list.items ++ reported_of g.O.Content.size g.O.Content.address l.objects.entries l.pair-iterator ≡ listed g.O.Content.size g.O.Content.address l.tenant l.self.objects) × AreThere l.objects.entries l.pair-iterator
