-- A session over a store of its own.
use Rattle.std.proofs.Common.{◌≡◌, ◌∙◌, ◌++◌, ◌+◌, ◌*◌, ◌∷◌, [], ℕ, Bool, true, false, List, Some, None, Option, inl, inr, length, refl, subst, sym, take}
use Rattle.std.specs.Io.BufRead.{drop_through, strip_last, take_through}
use Rattle.store_core.specs.Model.{ModelStore}
use Rattle.store_core.specs.Runs.{Call, Run, ask, change}
use Rattle.store_core.specs.declared.store.questions.Question.TheVariants as questions
use Rattle.store_lines.specs.Script.{widest_start}
use Rattle.store_lines.specs.Script as script
use Rattle.store_lines.proofs.ScriptSteps.{Came, came, came_listing, came_put, came_step, same}
use Rattle.store_lines.specs.Requests.{request_in}
use Rattle.store_lines.specs.Session.{Manner, SessionTurn, filed, no_memory, session_calls, session_replies, reported_as}
use Rattle.store_core.specs.declared.command.Command.TheVariants as commands
use Rattle.store_lines.specs.Filing.{ArePut, FileTurn, IsOver, IsOutcome, begun, closing, is_accepted, numbered_part, opening, turns_of, unbegun}
use Rattle.store_upload.specs.Uploads.{max_part_bytes}
use Rattle.store_lines.specs.declared.request.Filing.{Filing}
use Rattle.store_lines.specs.declared.request.Request.{Request}
use Rattle.store_lines.specs.declared.request.Request.TheVariants.{Asks, Does, Entries, Fetch, File, Put, PutRaw}
use Rattle.store_lines.specs.Access.{SessionState, alone_reach, alone_stands}
use Rattle.store_lines.specs.Owning.{alone, session_of}
use Rattle.store_lines.specs.declared.owning.UploadsAtEnd.{UploadsAtEnd}
use Rattle.store_lines.specs.declared.request.EntryRange.{EntryRange}
use Rattle.store_core.specs.Carried.{IsCarried}
use Rattle.store_core.specs.declared.command.Command.{Command}
use Rattle.store_lines.specs.Turns.{AreLinkedSteps, AreLinkedTurns, Finishes, IsLinkedBytes, IsLinkedCall, IsLinkedChange, IsLinkedEntries, IsLinkedFile, IsLinkedPut, IsLinkedRequest, IsLinkedScriptLine, IsLinkedStep, StepsAreRun}

-- ---- the steps are a run

-- turns in order
abbrev CameAll : ModelStore → List script.Turn → ModelStore → Type 0
CameAll old [] new = new ≡ old
CameAll old (turn ∷ turns) new = (mid : ModelStore) × Came old turn mid × CameAll mid turns new

abbrev CameTo : ModelStore → SessionTurn → ModelStore → Type 0
CameTo old no_memory new = new ≡ old
CameTo old (reported_as manner turn) new = Came old turn new
CameTo old (filed turns) new = CameAll old (turns_of turns) new

came_then : (old mid new : ModelStore) (turns others : List script.Turn) → CameAll old turns mid → CameAll mid others new → CameAll old (turns ++ others) new
came_then old mid new [] others h k = subst (λ (s : ModelStore). CameAll s others new) h k
came_then old mid new (turn ∷ turns) others h k = (h.0, h.1, came_then h.0 mid new turns others h.2 k)

module _ (filing : Filing) (bytes : List ℕ) where
  came_puts : (upload : ℕ) (old new : SessionState) (number : ℕ) (puts : List script.Turn) → ArePut (IsLinkedStep alone_reach) (IsLinkedPut alone_reach) filing bytes upload old number puts new → CameAll old.store puts new.store
  came_puts upload old new number [] h = same h
  came_puts upload old new number (turn ∷ turns) h =
      (h.0.store, came_put old h.0 upload (number * max_part_bytes) (numbered_part filing.len bytes number) turn h.1, came_puts upload h.0 new (number + 1) turns h.3)

  came_outcome : (old new : SessionState) (upload number : ℕ) (outcome : script.Turn) → IsOutcome (IsLinkedStep alone_reach) (IsLinkedPut alone_reach) filing bytes old upload number outcome new → Came old.store outcome new.store
  came_outcome old new upload number outcome (inl h) = came_step old new (change (closing filing upload)) outcome h.1
  came_outcome old new upload number outcome (inr h) = came_put old new upload (number * max_part_bytes) (numbered_part filing.len bytes number) outcome h.2

  came_over : (old new : SessionState) (upload : ℕ) (is_done : Bool) (after : List script.Turn) → IsOver (IsLinkedStep alone_reach) (IsLinkedPut alone_reach) old upload is_done after new → CameAll old.store after new.store
  came_over old new upload true after h = subst (λ (turns : List script.Turn). CameAll old.store turns new.store) (sym h.0) (same h.1)
  came_over old new upload false after h = subst (λ (turns : List script.Turn). CameAll old.store turns new.store) (sym h.1) (new.store, came_step old new (change (commands.Abort upload)) h.0 h.2, refl)

  came_filed : (old new : SessionState) (turns : FileTurn) → AreLinkedSteps alone_reach filing bytes old turns new → CameAll old.store (turns_of turns) new.store
  came_filed old new (unbegun outcome) h = (new.store, came_step old new (change (opening filing)) outcome h.1, refl)
  came_filed old new (begun begin puts outcome after) h =
      let p = h.3 in
      let last : CameAll h.1.store (outcome ∷ after) new.store = (h.2.store, came_outcome h.1 h.2 h.0 (length puts) outcome h.4, came_over h.2 new h.0 (is_accepted outcome) after h.5) in
      (p.0.store, came_step old p.0 (change (opening filing)) begin p.1.2, came_then p.0.store h.1.store new.store puts (outcome ∷ after) (came_puts h.0 p.0 h.1 0 puts p.2) last)

  came_file : (old new : SessionState) (turn : SessionTurn) → IsLinkedFile alone_reach old filing bytes turn new → CameTo old.store turn new.store
  came_file old new no_memory h = absurd h
  came_file old new (reported_as manner turn) h = absurd h
  came_file old new (filed turns) h = came_filed old new turns h

came_call : (manner : Manner) (old new : SessionState) (call : Call) (turn : SessionTurn) → IsLinkedCall alone_reach manner old call turn new → CameTo old.store turn new.store
came_call manner old new call no_memory h = absurd h
came_call manner old new call (reported_as reported turn) h = came_step old new call turn h.1
came_call manner old new call (filed turns) h = absurd h

came_bytes : (old new : SessionState) (upload offset : ℕ) (bytes : List ℕ) (turn : SessionTurn) → IsLinkedBytes alone_reach old upload offset bytes turn new → CameTo old.store turn new.store
came_bytes old new upload offset bytes no_memory h = absurd h
came_bytes old new upload offset bytes (reported_as reported turn) h = came_put old new upload offset bytes turn h.1
came_bytes old new upload offset bytes (filed turns) h = absurd h

came_entries : (range : EntryRange) (old new : SessionState) (turn : SessionTurn) → IsLinkedEntries alone_reach range old turn new → CameTo old.store turn new.store
came_entries range old new no_memory h = same h.1
came_entries range old new (reported_as reported turn) h = came_listing old new range turn h.1
came_entries range old new (filed turns) h = absurd h

-- a session over a store of its own, whatever it does at its end
module _ (uploads : UploadsAtEnd) where
  came_change : (old new : SessionState) (command : Command) (turn : SessionTurn) → IsLinkedChange (session_of alone_reach uploads) old command turn new → CameTo old.store turn new.store
  came_change old new command no_memory h = same h.2
  came_change old new command (reported_as reported turn) h = came_step old new (change command) turn h.1
  came_change old new command (filed turns) h = absurd h

  came_script : (old new : SessionState) (line : List ℕ) (turn : SessionTurn) → IsLinkedScriptLine (session_of alone_reach uploads) old line turn new → CameTo old.store turn new.store
  came_script old new line no_memory h = same h.1
  came_script old new line (reported_as manner turn) h = came old new line turn h.1
  came_script old new line (filed turns) h = absurd h

  came_request : (old new : SessionState) (request : Option Request) (whole following : List ℕ) (turn : SessionTurn) (rest : List ℕ) → IsLinkedRequest (session_of alone_reach uploads) old request whole following turn new rest → CameTo old.store turn new.store
  came_request old new None whole following turn rest h = came_script old new (strip_last 10 whole) turn h.0
  came_request old new (Some (Does command)) whole following turn rest h = came_change old new command turn h.0
  came_request old new (Some (Put part)) whole following turn rest h = came_bytes old new part.upload part.offset part.bytes turn h.0
  came_request old new (Some (PutRaw part)) whole following turn rest h = came_bytes old new part.upload part.offset (take part.len following) turn h.0
  came_request old new (Some (File filing)) whole following turn rest h = came_file filing following old new turn h.0
  came_request old new (Some (Fetch wanted)) whole following turn rest h = came_call _ old new (ask (questions.Fetch wanted.tenant wanted.address)) turn h.0
  came_request old new (Some (Asks question)) whole following turn rest h = came_call _ old new (ask question) turn h.0
  came_request old new (Some (Entries range)) whole following turn rest h = came_entries range old new turn h.0

script_on : (old mid new : ModelStore) (manner : Manner) (turn : script.Turn) (turns : List SessionTurn) → Came old turn mid → Run mid (session_calls turns) (session_replies turns) new → Run old (session_calls (reported_as manner turn ∷ turns)) (session_replies (reported_as manner turn ∷ turns)) new
script_on old mid new manner script.skipped turns h r = subst (λ (s : ModelStore). Run s (session_calls turns) (session_replies turns) new) h r
script_on old mid new manner script.bad turns h r = subst (λ (s : ModelStore). Run s (session_calls turns) (session_replies turns) new) h r
script_on old mid new manner (script.unplanned refusal) turns h r = subst (λ (s : ModelStore). Run s (session_calls turns) (session_replies turns) new) h r
script_on old mid new manner (script.listed entries) turns h r = subst (λ (s : ModelStore). Run s (session_calls turns) (session_replies turns) new) h r
script_on old mid new manner (script.unmade fault) turns h r = subst (λ (s : ModelStore). Run s (session_calls turns) (session_replies turns) new) h r
script_on old mid new manner (script.took call reply) turns h r = (mid, h, r)

steps_on : (old mid new : ModelStore) (steps : List script.Turn) (turns : List SessionTurn) → CameAll old steps mid → Run mid (session_calls turns) (session_replies turns) new
    → Run old (script.calls_of steps ++ session_calls turns) (script.replies_of steps ++ session_replies turns) new
steps_on old mid new [] turns h r = subst (λ (s : ModelStore). Run s (session_calls turns) (session_replies turns) new) h r
steps_on old mid new (script.skipped ∷ steps) turns h r = steps_on old mid new steps turns (subst (λ (s : ModelStore). CameAll s steps mid) h.1 h.2) r
steps_on old mid new (script.bad ∷ steps) turns h r = steps_on old mid new steps turns (subst (λ (s : ModelStore). CameAll s steps mid) h.1 h.2) r
steps_on old mid new (script.unplanned refusal ∷ steps) turns h r = steps_on old mid new steps turns (subst (λ (s : ModelStore). CameAll s steps mid) h.1 h.2) r
steps_on old mid new (script.listed entries ∷ steps) turns h r = steps_on old mid new steps turns (subst (λ (s : ModelStore). CameAll s steps mid) h.1 h.2) r
steps_on old mid new (script.unmade fault ∷ steps) turns h r = steps_on old mid new steps turns (subst (λ (s : ModelStore). CameAll s steps mid) h.1 h.2) r
steps_on old mid new (script.took call reply ∷ steps) turns h r = (h.0, h.1, steps_on h.0 mid new steps turns h.2 r)

run_on : (old mid new : ModelStore) (turn : SessionTurn) (turns : List SessionTurn) → CameTo old turn mid → Run mid (session_calls turns) (session_replies turns) new → Run old (session_calls (turn ∷ turns)) (session_replies (turn ∷ turns)) new
run_on old mid new no_memory turns h r = subst (λ (s : ModelStore). Run s (session_calls turns) (session_replies turns) new) h r
run_on old mid new (reported_as manner turn) turns h r = script_on old mid new manner turn turns h r
run_on old mid new (filed steps) turns h r = steps_on old mid new (turns_of steps) turns h r

runs : (uploads : UploadsAtEnd) (old new : SessionState) (input : List ℕ) (turns : List SessionTurn) (rest : List ℕ) → AreLinkedTurns (session_of alone_reach uploads) old input turns new rest → Run old.store (session_calls turns) (session_replies turns) new.store
runs uploads old new input [] rest h = same h.0
runs uploads old new input (turn ∷ turns) rest h =
    run_on old.store h.0.store new.store turn turns (came_request uploads old h.0 (request_in (take_through 10 input)) (take_through 10 input) (drop_through 10 input) turn h.1 h.2.2) (runs uploads h.0 new h.1 turns rest h.3)

pub are_run : StepsAreRun
are_run = runs

-- ---- a session on the empty store

pub from_empty : (store : ModelStore) → store ≡ widest_start → (start : SessionState) → alone_stands widest_start start → alone_stands store start
from_empty store is start stands = stands ∙ sym is

-- the store at its end is lawful
pub to_lawful : (new : ModelStore) → IsCarried new → (turns : List SessionTurn) (last : SessionState) → Finishes alone (alone_stands new) turns last → Finishes alone (λ last. IsCarried last.store) turns last
to_lawful new lawful turns last h = (h.0, (h.1.0, subst IsCarried (sym h.1.1) lawful))
