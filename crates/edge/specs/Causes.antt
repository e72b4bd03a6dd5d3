-- The text of the cause that stopped an engine.
use Rattle.std.specs.Prelude.{ℕ, List, codes}
use Rattle.edge.specs.declared.outcome.Cause.{Cause}
use Rattle.edge.specs.declared.outcome.Cause.TheVariants.{CannotRead, CannotWrite, OutOfMemory}

abbrev pub cause_text : Cause → List ℕ
cause_text CannotRead = codes "cannot read"
cause_text CannotWrite = codes "cannot write"
cause_text OutOfMemory = codes "out of memory"
