-- What went out of a text.
use Rattle.std.proofs.Common.{ℕ, List, Option}
use Rattle.std.specs.Prelude.{Result, Ok, Err, OnErr}
use Rattle.edge.proofs.Output.{AllBut-none}
use Rattle.edge.specs.Output.{WroteSome}

pub wrote_none : (a : Option (List ℕ)) (text : List ℕ) → WroteSome a a text
wrote_none a text = record { rest = text; front = AllBut-none a text }

pub stopped_none : {A E : Type 0} (r : Result A E) (a : Option (List ℕ)) (text : List ℕ) → OnErr r (WroteSome a a text)
stopped_none (Ok x) a text = tt
stopped_none (Err e) a text = wrote_none a text
