-- What a client of a shared store has seen.
use Rattle.std.specs.Prelude.{◌≡◌, ◌++◌, List, Result, length}
use mathlib.Core.List.{IsPrefix}
use Rattle.std.specs.List.{AllByRecursion}
use Rattle.store_books.specs.declared.refusal.Refusal.{Refusal}
use Rattle.store_core.specs.Carried.{IsCarried}
use Rattle.store_core.specs.Runs.{Call, Step}
use Rattle.store_core.specs.declared.store.questions.Reply.{Reply}
use Rattle.store_shared.specs.Histories.{ModelFront}
use Rattle.store_lines.specs.Access.{took_numbers}
use Rattle.store_shared.specs.Made.{IsFitting, Numbers, if_accepted, store_of}

-- the shared store accepted these calls: what they make of an empty one is lawful, and its journal has an entry for each; each part fits its plan
pub record WereAccepted (limits : Numbers) (calls : List Call) : Type 0 where
  pub law : IsCarried (store_of limits calls)
  pub each : length (store_of limits calls).journal ≡ length calls
  pub fit : AllByRecursion IsFitting calls

-- A client whose front was `before` took a step of the store that the calls so far had made, and had seen a beginning of these. Afterwards
-- it has seen all of them and its own call, if that was accepted: this is then the client's own.
pub record TookStep (limits : Numbers) (before now : ModelFront) (call : Call) (reply : Result Reply Refusal) : Type 0 where
  pub calls : List Call
  pub since : IsPrefix before.seen calls
  pub found : WereAccepted limits calls
  pub step : Step (store_of limits calls) call reply (store_of limits now.seen)
  pub left : WereAccepted limits now.seen
  pub seen : now.seen ≡ calls ++ if_accepted call reply
  pub own : now.own ≡ before.own ++ took_numbers (store_of limits calls) call reply

-- A client whose front was `before` looked at the store. Afterwards it has seen the calls that made it.
pub record Looked (limits : Numbers) (before now : ModelFront) : Type 0 where
  pub since : IsPrefix before.seen now.seen
  pub found : WereAccepted limits now.seen
  pub own : now.own ≡ before.own
