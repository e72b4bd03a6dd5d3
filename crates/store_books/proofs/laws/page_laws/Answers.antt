use Rattle.store_books.proofs.Pages.{pages_follow}
use Rattle.store_books.proofs.laws.page_laws.Goals as goal

pub returns : goal.returns
returns g c = pages_follow g.row.O.Denot
