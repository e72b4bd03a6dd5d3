use Rattle.std.proofs.Common.{◌≡◌, map}
use Rattle.std.specs.List.{range_with_len}
use Rattle.store_books.specs.Questions.{usage_of}
use Rattle.store_books.proofs.books.Books.usages.Given as goal

-- those of the tenants so far
abbrev pub invariant-loop-tenant : goal.invariant-loop-tenant
invariant-loop-tenant g l = l.list.items ≡ map (usage_of g.O.Content.size l.self) (range_with_len 0 l.tenant)
