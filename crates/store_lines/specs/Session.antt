-- The turns of a session's lines, some of which are followed by the number of raw bytes that they state, and their answers.
use Rattle.std.specs.Prelude.{◌<◌, ℕ, List, [], ◌∷◌, ◌++◌, Option, Some, None, Result, Ok, codes, drop, length, take}
use Rattle.std.specs.Fmt.{decimal}
use Rattle.store_books.specs.Refusals.{refusal_text}
use Rattle.store_books.specs.declared.refusal.Refusal.{Refusal}
use Rattle.store_books.specs.declared.refusal.Refusal.TheVariants as refusals
use Rattle.store_core.specs.Runs.{Call}
use Rattle.store_core.specs.declared.store.questions.Reply.{Reply}
use Rattle.store_core.specs.declared.store.questions.Reply.TheVariants as replies
use Rattle.store_lines.specs.Filing.{FileTurn, outcome_of, turns_of}
use Rattle.store_lines.specs.Script as script
use Rattle.store_lines.specs.Texts.{refused_text}
use Rattle.store_lines.specs.Questions.{reply_text}
use Rattle.store_lines.specs.declared.request.Range.{Range}
use Rattle.store_lines.specs.declared.request.Request.{Request}
use Rattle.store_lines.specs.declared.request.Request.TheVariants.{File, PutRaw}

-- ---- answers

-- how a reply is written: as in a script; or for an object, the requested bytes
pub data Manner : Type 0 where
  as_script : Manner
  as_range : Option Range → Manner

-- the turn of a line: out of memory for it; the turn of a script's line, written in a manner; or the turns of a file
pub data SessionTurn : Type 0 where
  no_memory : SessionTurn
  reported_as : Manner → script.Turn → SessionTurn
  filed : FileTurn → SessionTurn

-- the requested bytes of an object, truncated at its end
abbrev pub ranged : Option Range → List ℕ → List ℕ
ranged None bytes = bytes
ranged (Some range) bytes = take range.len (drop range.from bytes)

-- the number of bytes, and the bytes themselves
abbrev pub raw_text : List ℕ → List ℕ
raw_text bytes = codes "bytes " ++ (decimal (length bytes) ++ (codes "\n" ++ bytes))

abbrev pub range_text : Option Range → Reply → List ℕ
range_text range (replies.Object bytes) = raw_text (ranged range bytes)
range_text range reply = reply_text reply

-- a turn with its reply written like this
abbrev pub reported_by : (Reply → List ℕ) → script.Turn → List ℕ
reported_by text (script.took call (Ok reply)) = text reply
reported_by text turn = script.turn_text turn

abbrev pub session_turn_text : SessionTurn → List ℕ
session_turn_text no_memory = refused_text (refusal_text refusals.NoMemory)
session_turn_text (reported_as as_script turn) = script.turn_text turn
session_turn_text (reported_as (as_range range) turn) = reported_by (range_text range) turn
session_turn_text (filed turns) = script.turn_text (outcome_of turns)

-- ---- a session

-- the request's bytes are truncated
abbrev pub IsShort : Option Request → List ℕ → Type 0
IsShort (Some (PutRaw part)) following = length following < part.len
IsShort (Some (File filing)) following = length following < filing.len
IsShort _ following = ⊥

-- the steps among turns, and their replies
abbrev pub session_calls : List SessionTurn → List Call
session_calls [] = []
session_calls (no_memory ∷ turns) = session_calls turns
session_calls (reported_as manner turn ∷ turns) = script.calls_of (turn ∷ []) ++ session_calls turns
session_calls (filed steps ∷ turns) = script.calls_of (turns_of steps) ++ session_calls turns

abbrev pub session_replies : List SessionTurn → List (Result Reply Refusal)
session_replies [] = []
session_replies (no_memory ∷ turns) = session_replies turns
session_replies (reported_as manner turn ∷ turns) = script.replies_of (turn ∷ []) ++ session_replies turns
session_replies (filed steps ∷ turns) = script.replies_of (turns_of steps) ++ session_replies turns
