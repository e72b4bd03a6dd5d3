-- Definitions for private functions, in addition to specs/Script.
use Rattle.std.specs.Prelude.{◌≡◌, ◌≢◌, ℕ, List, [], Option, Result, Ok, Err}
use Rattle.std.specs.Io.KnownBytes.{Appends}
use Rattle.edge.specs.Output.{WroteSome}
use Rattle.store_lines.specs.Running.{Ran, RanSome}
use Rattle.store_lines.specs.declared.bad_lines.LineFault.{LineFault}
use Rattle.store_lines.specs.declared.ending.Ending.{Ending}
use Rattle.store_lines.specs.declared.ending.Ending.TheVariants as endings
use Rattle.edge.specs.declared.outcome.Cause.{Cause}
use Rattle.edge.specs.declared.outcome.Cause.TheVariants as causes
use Rattle.edge.specs.declared.outcome.Verdict.{Verdict}
use Rattle.edge.specs.declared.outcome.Verdict.TheVariants as verdicts

-- ---- a script

-- The loop over a script's lines ended like this, and its answers with this ending. All lines were answered; or those before a failed read or
-- before a line for which an allocation failed; or the last answer was written in part.
abbrev pub RanUntil : Result (Unit {0}) Cause → List ℕ → (List (ℕ × LineFault) → Type 0) → Option (List ℕ) → Option (List ℕ) → Ending → Type 0
RanUntil (Ok done) input Told old new ending = Ran input Told old new ending
RanUntil (Err causes.CannotRead) input Told old new ending = RanSome input Told (λ back said. said ≡ ending) (Appends old new)
RanUntil (Err causes.CannotWrite) input Told old new ending = RanSome input Told (λ back said. said ≡ ending) (WroteSome old new)
RanUntil (Err causes.OutOfMemory) input Told old new ending = RanSome input Told (λ back said. (back ≢ []) × (said ≡ ending)) (Appends old new)

-- the result of a run, given how its answers end: out of memory if one of them was; otherwise why it stopped, or its verdict
abbrev pub result_of : Ending → Result (Unit {0}) Cause → Result Verdict Cause
result_of endings.OutOfMemory ended = Err causes.OutOfMemory
result_of ending (Err cause) = Err cause
result_of endings.Good (Ok done) = Ok verdicts.Good
result_of endings.Refused (Ok done) = Ok verdicts.Refused
