use Rattle.std.proofs.Common.{◌≡◌, ◌++◌}
use Rattle.store_books.specs.Questions.{open_uploads}
use Rattle.store_books.proofs.books.Books.list_uploads.Given as goal

-- those so far, and those among the uploads that are left
abbrev pub invariant-loop-number : goal.invariant-loop-number
invariant-loop-number g l = l.list.items ++ open_uploads g.H.Part.Length.len l.tenant l.number-iterator ≡ open_uploads g.H.Part.Length.len l.tenant l.self.uploads
