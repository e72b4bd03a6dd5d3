-- Lines for a store that a handle keeps.
use Rattle.std.specs.Prelude.{◌≡◌, ◌⊎◌, ℕ, List, [], Option, Some, Result, Ok, Err}
use Rattle.std.specs.Io.KnownBytes.{Appends}
use Rattle.edge.specs.Output.{WroteSome}
use Rattle.edge.specs.declared.outcome.Cause.{Cause}
use Rattle.edge.specs.declared.outcome.Cause.TheVariants as causes
use Rattle.edge.specs.declared.outcome.Verdict.{Verdict}
use Rattle.edge.specs.declared.outcome.Verdict.TheVariants as verdicts
use Rattle.store_core.specs.Model.{ModelStore}
use Rattle.store_handle.specs.declared.Kept.{Kept}
use Rattle.store_handle.specs.declared.Kept.TheVariants as kept
use Rattle.store_lines.specs.Access.{alone_stands}
use Rattle.store_lines.specs.Owning.{alone}
use Rattle.store_lines.specs.Turns.{Finishes, ServedAllOver, ServedSomeOver}
use Rattle.store_c.specs.Keeping.{OnStore, bytes_in}

-- The text is the answers to the lines, and the store is as they leave it; or to a prefix of them, and then it may lack its end; or there was
-- no memory before the first.
abbrev pub IsServed : ModelStore → List ℕ → Result Verdict Cause → List ℕ → ModelStore → Type 0
IsServed old lines (Ok verdict) text new = ServedAllOver alone (alone_stands old) (Finishes alone (alone_stands new)) lines (Some []) (Some text) verdict
IsServed old lines (Err causes.CannotRead) text new = ServedSomeOver alone (alone_stands old) (Finishes alone (alone_stands new)) lines (Appends (Some []) (Some text))
IsServed old lines (Err causes.CannotWrite) text new = ServedSomeOver alone (alone_stands old) (Finishes alone (alone_stands new)) lines (WroteSome (Some []) (Some text))
IsServed old lines (Err causes.OutOfMemory) text new = (text ≡ []) × (new ≡ old)

-- the number that the call returns
abbrev pub served_answer : Result Verdict Cause → ℕ
served_answer (Ok verdicts.Good) = 0
served_answer (Ok verdicts.Refused) = 67
served_answer (Err causes.CannotWrite) = 68
served_answer (Err causes.CannotRead) = 69
served_answer (Err causes.OutOfMemory) = 14

-- the numbers of a call that has run no line
abbrev pub IsUnserved : ℕ → Type 0
IsUnserved n = (n ≡ 14) ⊎ ((n ≡ 64) ⊎ (n ≡ 65))

-- a call that has run lines: it keeps their answers, and returns how it ended
abbrev pub Serves : Option Kept → List ℕ → ℕ → Option Kept → Option Kept → Type 0
Serves old lines answer answers new = OnStore old
    (λ s. (served : Result Verdict Cause) × (text : List ℕ) × (t : ModelStore) × IsServed s lines served text t × (answer ≡ served_answer served)
    × (bytes_in answers ≡ Some text) × (new ≡ Some (kept.Store t)))
    ⊥
