use Rattle.std.proofs.Common.{◌≡◌, Some, subst}
use Rattle.std.specs.Prelude.{IfSome}
use Rattle.store_books.specs.Books.{ModelBooks, Filed, object_at}
use Rattle.store_books.proofs.books.Books.object.Goals as goal

pub returns-clause-found : goal.returns-clause-found
returns-clause-found g c =
    subst (λ (b : ModelBooks g.row.H-Part.Denot g.row.O.Denot). IfSome c.content.result (λ content. (o : Filed g.row.O.Denot) × (object_at g.O.Content.address b c.args.address ≡ Some o) × (content.now ≡ o.content))) c.self.view_is c.content.ensures.found
