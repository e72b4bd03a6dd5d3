use Rattle.store_books.proofs.Staying.{stay_sound}
use Rattle.store_books.proofs.laws.sound_laws.Goals as goal

pub returns : goal.returns
returns g c = stay_sound g.P.Length.len g.O.Content.size g.O.Content.address
