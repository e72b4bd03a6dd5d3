use Rattle.store_books.proofs.Forgets.{forgets}
use Rattle.store_books.proofs.laws.forgetting_laws.Goals as goal

pub returns : goal.returns
returns g c = forgets g.P.Length.len g.O.Content.size g.O.Content.address
