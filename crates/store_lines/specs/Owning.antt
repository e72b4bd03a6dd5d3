-- A session's own uploads: those that it began itself, and has not sealed or aborted. A session over a shared store aborts them at its end.
use Rattle.std.specs.Prelude.{◌≡◌, ◌==◌, ◌⊎◌, ℕ, Bool, true, false, List, [], ◌∷◌, ◌++◌, Some, Result, Ok}
use Rattle.std.specs.List.{fold, position, remove}
use Rattle.std.specs.Option.{option_map_or}
use Rattle.store_books.specs.declared.refusal.Refusal.{Refusal}
use Rattle.store_core.specs.Runs.{Call, change}
use Rattle.store_core.specs.declared.command.Command.{Command}
use Rattle.store_core.specs.declared.command.Command.TheVariants as commands
use Rattle.store_core.specs.declared.store.questions.Reply.{Reply}
use Rattle.store_core.specs.declared.store.questions.Reply.TheVariants as replies
use Rattle.store_lines.specs.Access.{Reach, alone_reach}
use Rattle.store_lines.specs.Grammar.{command_at}
use Rattle.store_lines.specs.Script.{took}
use Rattle.store_lines.specs.Session.{SessionTurn, reported_as}
use Rattle.store_lines.specs.declared.owning.UploadsAtEnd.{UploadsAtEnd}
use Rattle.store_lines.specs.declared.owning.UploadsAtEnd.TheVariants as at_end
use Rattle.store_lines.specs.declared.request.Request.TheVariants.{Does}

-- A session: what its access may find, and what it does at its end with its own uploads.
pub record Session : Type 1 where
  pub reach : Reach
  pub at_end : UploadsAtEnd

abbrev pub session_of : Reach → UploadsAtEnd → Session
session_of reach at_end = record { reach = reach; at_end = at_end }

-- a session over its own store has nothing to abort
abbrev pub alone : Session
alone = session_of alone_reach at_end.Kept

-- whether the command begins an upload
abbrev pub begins : Command → Bool
begins (commands.Begin tenant len) = true
begins (commands.BeginOpen tenant at_most) = true
begins _ = false

-- the line is spelled as one
abbrev pub IsBeginLine : List ℕ → Type 0
IsBeginLine line = (command : Command) × (command_at line ≡ Some (Does command)) × (begins command ≡ true)

-- the numbers without this one
abbrev pub without : ℕ → List ℕ → List ℕ
without number numbers = option_map_or (remove numbers) (position (λ n. n == number) numbers) numbers

-- Its own uploads after a command with this reply, by number and in the order of their begins: one that was begun is the last, and one
-- that was sealed or aborted is not among them.
abbrev pub accepted_after : List ℕ → Command → Reply → List ℕ
accepted_after own (commands.Begin tenant len) (replies.Upload upload plan) = own ++ upload ∷ []
accepted_after own (commands.BeginOpen tenant at_most) (replies.Upload upload plan) = own ++ upload ∷ []
accepted_after own (commands.Seal upload) reply = without upload own
accepted_after own (commands.SealAs upload address) reply = without upload own
accepted_after own (commands.Abort upload) reply = without upload own
accepted_after own command reply = own

abbrev pub step_after : List ℕ → Call → Result Reply Refusal → List ℕ
step_after own (change command) (Ok reply) = accepted_after own command reply
step_after own call reply = own

-- After a turn, if it has to abort them. A file adds none: its upload is sealed or aborted within its turn.
abbrev pub own_after : List ℕ → SessionTurn → UploadsAtEnd → List ℕ
own_after own (reported_as manner (took call reply)) at_end.Aborted = step_after own call reply
own_after own turn at_end = own

-- what it has to abort after these turns
abbrev pub own_of : UploadsAtEnd → List SessionTurn → List ℕ
own_of at_end turns = fold (λ own turn. own_after own turn at_end) [] turns

-- ---- a law

-- the number is one of these
abbrev pub IsAmong : ℕ → List ℕ → Type 0
IsAmong number [] = ⊥
IsAmong number (n ∷ numbers) = (n ≡ number) ⊎ IsAmong number numbers

-- the turn is a begin that was answered with this upload, or one of the turns is
abbrev pub IsBeginOf : ℕ → SessionTurn → Type 0
IsBeginOf upload (reported_as manner (took (change command) (Ok (replies.Upload number plan)))) = (begins command ≡ true) × (number ≡ upload)
IsBeginOf upload turn = ⊥

abbrev pub WasBegunBy : ℕ → List SessionTurn → Type 0
WasBegunBy upload [] = ⊥
WasBegunBy upload (turn ∷ turns) = IsBeginOf upload turn ⊎ WasBegunBy upload turns

-- a session has to abort only what it began itself
abbrev pub OwnWereBegun : Type 0
OwnWereBegun = (at_end : UploadsAtEnd) (turns : List SessionTurn) (upload : ℕ) → IsAmong upload (own_of at_end turns) → WasBegunBy upload turns
