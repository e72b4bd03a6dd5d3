-- Which uploads of a session's own are open after its turns.
use Rattle.std.proofs.Common.{◌≡◌, ◌++◌, ◌∷◌, [], ℕ, List, Some, None, Option, Ok, Err, Result, length, refl, subst, sym, true}
use Rattle.std.specs.Prelude.{IfOk, IfSome}
use Rattle.std.specs.Io.KnownBytes.{Appends}
use Rattle.std.proofs.lemmas.List.Sums.{fold-append}
use Rattle.b3_forest.specs.Parts.{ModelPrepared, planned}
use Rattle.store_books.specs.declared.refusal.Refusal.{Refusal}
use Rattle.store_core.specs.Model.{ModelStore}
use Rattle.store_core.specs.Questions.{plan_in}
use Rattle.store_core.specs.Runs.{Call, ask, change, put}
use Rattle.store_core.specs.declared.command.Command.{Command}
use Rattle.store_core.specs.declared.command.Command.TheVariants as commands
use Rattle.store_core.specs.declared.store.questions.Question.{Question}
use Rattle.store_core.specs.declared.store.questions.Reply.{Reply}
use Rattle.store_lines.specs.Access.{Reach, SessionState, Took, advance, at}
use Rattle.store_lines.specs.Owning.{Session, begins, own_after, own_of, session_of, step_after}
use Rattle.store_lines.specs.Script.{IsTurnOfStep, Turn, bad, listed, skipped, took, unmade, unplanned}
use Rattle.store_lines.specs.Session.{Manner, SessionTurn, as_script, filed, no_memory, reported_as, session_turn_text}
use Rattle.store_lines.specs.Questions.{answer_text}
use Rattle.store_lines.specs.Turns.{AreAborted, Finishes, IsLinkedBytes, IsLinkedCall, IsLinkedChange, IsLinkedEntries, IsLinkedMade, IsLinkedPart, IsLinkedPlan, IsLinkedStep, ServedAllOver, ServedSomeOver}
use Rattle.store_lines.specs.inner.Reporting.{AbortsOver, Notes, Owns, ReportedOver}
use Rattle.store_lines.specs.declared.owning.OwnUploads.{OwnUploads}
use Rattle.store_lines.specs.declared.owning.UploadsAtEnd.{UploadsAtEnd}
use Rattle.store_lines.specs.declared.owning.UploadsAtEnd.TheVariants as at_end
use Rattle.store_lines.specs.declared.request.EntryRange.{EntryRange}
use Rattle.store_upload.specs.Uploads.{UploadPlan, part_fault}
use Rattle.store_upload.specs.declared.refusal.PartFault.{PartFault}
use Rattle.edge.specs.declared.outcome.Verdict.{Verdict}

-- ---- turns that change nothing

-- the turn is of no command
abbrev IsQuiet : Turn → Type 0
IsQuiet (took (change command) reply) = ⊥
IsQuiet _ = Unit {0}

keeps : (own : List ℕ) (manner : Manner) (turn : Turn) (uploads : UploadsAtEnd) → IsQuiet turn → own ≡ own_after own (reported_as manner turn) uploads
keeps own manner skipped uploads quiet = refl
keeps own manner bad uploads quiet = refl
keeps own manner (unplanned refusal) uploads quiet = refl
keeps own manner (unmade fault) uploads quiet = refl
keeps own manner (listed entries) uploads quiet = refl
keeps own manner (took (ask question) reply) at_end.Kept quiet = refl
keeps own manner (took (ask question) reply) at_end.Aborted quiet = refl
keeps own manner (took (put upload part) reply) at_end.Kept quiet = refl
keeps own manner (took (put upload part) reply) at_end.Aborted quiet = refl
keeps own manner (took (change command) reply) uploads quiet = absurd quiet

quiet_step : (found left : ModelStore) (call : Call) (turn : Turn) → ((reply : Result Reply Refusal) → IsQuiet (took call reply)) → IsTurnOfStep found call turn left → IsQuiet turn
quiet_step found left call skipped is h = tt
quiet_step found left call bad is h = tt
quiet_step found left call (unplanned refusal) is h = tt
quiet_step found left call (unmade fault) is h = tt
quiet_step found left call (listed entries) is h = tt
quiet_step found left call (took asked reply) is h = subst (λ (k : Call). IsQuiet (took k reply)) (sym h.0) (is reply)

module _ (reach : Reach) (new : SessionState) where
  quiet_part : (first : SessionState) (upload : ℕ) (part : ModelPrepared) (turn : Turn) → IsLinkedPart reach first upload part turn new → IsQuiet turn
  quiet_part first upload part skipped h = tt
  quiet_part first upload part bad h = tt
  quiet_part first upload part (unplanned refusal) h = tt
  quiet_part first upload part (unmade fault) h = tt
  quiet_part first upload part (listed entries) h = tt
  quiet_part first upload part (took asked reply) h = quiet_step h.0 new.store (put upload part) (took asked reply) (λ r. tt) h.1.1.0

  quiet_made : (first : SessionState) (upload : ℕ) (part : ModelPrepared) (refused : Option PartFault) (turn : Turn) → IsLinkedMade reach first upload part refused turn new → IsQuiet turn
  quiet_made first upload part (Some fault) turn h = subst IsQuiet (sym h.0) tt
  quiet_made first upload part None turn h = quiet_part first upload part turn h

  quiet_plan : (first : SessionState) (upload offset : ℕ) (bytes : List ℕ) (plan : Result UploadPlan Refusal) (turn : Turn) → IsLinkedPlan reach first upload offset bytes plan turn new → IsQuiet turn
  quiet_plan first upload offset bytes (Err refusal) turn h = subst IsQuiet (sym h.0) tt
  quiet_plan first upload offset bytes (Ok plan) turn h = quiet_made first upload (planned plan offset bytes) (part_fault plan offset (length bytes)) turn h

  pub of_bytes : (own : List ℕ) (uploads : UploadsAtEnd) (old : SessionState) (upload offset : ℕ) (bytes : List ℕ) (turn : SessionTurn) → IsLinkedBytes reach old upload offset bytes turn new → own ≡ own_after own turn uploads
  of_bytes own uploads old upload offset bytes no_memory h = absurd h
  of_bytes own uploads old upload offset bytes (filed turns) h = absurd h
  of_bytes own uploads old upload offset bytes (reported_as manner turn) h = keeps own manner turn uploads (quiet_plan (at old h.1.0) upload offset bytes (plan_in h.1.0.state upload) turn h.1.1.1)

  pub of_question : (own : List ℕ) (uploads : UploadsAtEnd) (old : SessionState) (manner : Manner) (question : Question) (turn : SessionTurn) → IsLinkedCall reach manner old (ask question) turn new → own ≡ own_after own turn uploads
  of_question own uploads old manner question no_memory h = absurd h
  of_question own uploads old manner question (filed turns) h = absurd h
  of_question own uploads old manner question (reported_as reported turn) h = keeps own reported turn uploads (quiet_step h.1.0 new.store (ask question) turn (λ r. tt) h.1.1.1.0)

  pub of_entries : (own : List ℕ) (uploads : UploadsAtEnd) (old : SessionState) (range : EntryRange) (turn : SessionTurn) → IsLinkedEntries reach range old turn new → own ≡ own_after own turn uploads
  of_entries own uploads old range no_memory h = refl
  of_entries own uploads old range (filed turns) h = absurd h
  of_entries own uploads old range (reported_as manner turn) h = keeps own manner turn uploads (subst IsQuiet (sym h.1.1.1.0) tt)

-- ---- a command

noted_by : (own new : List ℕ) (uploads : UploadsAtEnd) (manner : Manner) (call : Call) (reply : Result Reply Refusal) → (uploads ≡ at_end.Kept → new ≡ own) → (uploads ≡ at_end.Aborted → new ≡ step_after own call reply) → new ≡ own_after own (reported_as manner (took call reply)) uploads
noted_by own new at_end.Kept manner call reply kept noted = kept refl
noted_by own new at_end.Aborted manner call reply kept noted = noted refl

pub executed : (reach : Reach) (was is : SessionState → Type 0) (old room new : OwnUploads) (command : Command) (reply : Result Reply Refusal) (Wrote : List ℕ → Type 0) → room.at_end ≡ old.at_end → room.numbers.items ≡ old.numbers.items → Took reach was is (change command) reply
    → (room.at_end ≡ at_end.Kept → new.numbers.items ≡ room.numbers.items) → (room.at_end ≡ at_end.Aborted → new.numbers.items ≡ step_after room.numbers.items (change command) reply) → Wrote (answer_text reply)
    → ReportedOver was is (λ before turn after. IsLinkedChange (session_of reach old.at_end) before command turn after × Notes old new turn) Wrote
executed reach was is old room new command reply Wrote same_end same t kept noted wrote =
    let turn = reported_as as_script (took (change command) reply) in
    let own = noted_by room.numbers.items new.numbers.items room.at_end as_script (change command) reply kept noted in
    let own2 = subst (λ (uploads : UploadsAtEnd). new.numbers.items ≡ own_after room.numbers.items turn uploads) same_end own in
    record {
      turn = turn;
      goes = λ before session. (
        advance before t.found (change command) reply t.left,
        (t.stands before session, ((refl, (t.found, (t.linked before session, ((refl, t.step), (refl, refl, refl, refl))))), subst (λ (numbers : List ℕ). new.numbers.items ≡ own_after numbers turn old.at_end) same own2)),
      );
      wrote = wrote;
    }

pub unexecuted : (reach : Reach) (was : SessionState → Type 0) (old new : OwnUploads) (command : Command) (Wrote : List ℕ → Type 0) → (old.at_end ≡ at_end.Aborted) × (begins command ≡ true) → new.numbers.items ≡ old.numbers.items → Wrote (session_turn_text no_memory)
    → ReportedOver was was (λ before turn after. IsLinkedChange (session_of reach old.at_end) before command turn after × Notes old new turn) Wrote
unexecuted reach was old new command Wrote lacks same wrote = record {
  turn = no_memory;
  goes = λ before session. (before, (session, ((lacks.0, lacks.1, refl), same)));
  wrote = wrote;
}

-- ---- all turns

pub own_more : (uploads : UploadsAtEnd) (turns : List SessionTurn) (turn : SessionTurn) → own_of uploads (turns ++ turn ∷ []) ≡ own_after (own_of uploads turns) turn uploads
own_more uploads turns turn = fold-append (λ (own : List ℕ) (turn : SessionTurn). own_after own turn uploads) [] turns (turn ∷ [])

-- ---- aborting them

aborted_more : (reach : Reach) (old mid new : SessionState) (uploads : List ℕ) (upload : ℕ) (turn : Turn) → AreAborted reach old uploads mid → IsLinkedStep reach mid (change (commands.Abort upload)) turn new → AreAborted reach old (uploads ++ upload ∷ []) new
aborted_more reach old mid new [] upload turn h step = (turn, new, subst (λ (s : SessionState). IsLinkedStep reach s (change (commands.Abort upload)) turn new) h step, refl)
aborted_more reach old mid new (first ∷ uploads) upload turn h step = (h.0, h.1, h.2, aborted_more reach h.1 mid new uploads upload turn h.3 step)

pub aborts_more : (reach : Reach) (was mid is : SessionState → Type 0) (uploads : List ℕ) (upload : ℕ) (reply : Result Reply Refusal) → AbortsOver reach was mid uploads → Took reach mid is (change (commands.Abort upload)) reply → AbortsOver reach was is (uploads ++ upload ∷ [])
aborts_more reach was mid is uploads upload reply a t = record {
  goes = λ before session.
      let k = a.goes before session in
      let call = change (commands.Abort upload) in
      let step : IsLinkedStep reach k.0 call (took call reply) (advance k.0 t.found call reply t.left) = (t.found, (t.linked k.0 k.1.1, ((refl, t.step), (refl, refl, refl, refl)))) in
      (advance k.0 t.found call reply t.left, (aborted_more reach before k.0 (advance k.0 t.found call reply t.left) uploads upload (took call reply) k.1.0 step, t.stands k.0 k.1.1));
}

-- ---- the end of a session

module _ (session : Session) (was was2 : SessionState → Type 0) (Then Then2 : List SessionTurn → SessionState → Type 0) (starts : (start : SessionState) → was2 start → was start) (then : (turns : List SessionTurn) (last : SessionState) → Then turns last → Then2 turns last) where
  abbrev served : (input : List ℕ) (Wrote : List ℕ → Type 0) → ServedSomeOver session was Then input Wrote → ServedSomeOver session was2 Then2 input Wrote
  served input Wrote h = record {
    turns = h.turns;
    rest = h.rest;
    plays = λ start stood. let p = h.plays start (starts start stood) in (p.0, (p.1.0, (p.1.1.0, (p.1.1.1.0, then h.turns p.1.1.0 p.1.1.1.1))));
    wrote = h.wrote;
  }

  pub served_some : (Wrote : List ℕ → Type 0) (old : Option (List ℕ)) → IfSome old (λ input. ServedSomeOver session was Then input Wrote) → IfSome old (λ input. ServedSomeOver session was2 Then2 input Wrote)
  served_some Wrote None h = tt
  served_some Wrote (Some input) h = served input Wrote h

  pub served_all : {E : Type 0} (r : Result Verdict E) (old w1 w2 : Option (List ℕ)) → IfOk r (λ verdict. IfSome old (λ input. ServedAllOver session was Then input w1 w2 verdict))
      → IfOk r (λ verdict. IfSome old (λ input. ServedAllOver session was2 Then2 input w1 w2 verdict))
  served_all (Err e) old w1 w2 h = tt
  served_all (Ok verdict) None w1 w2 h = tt
  served_all (Ok verdict) (Some input) w1 w2 h = record { served = served input (Appends w1 w2) h.served; ends = h.ends }

-- its own uploads were aborted
pub finished : (session : Session) (mid is : SessionState → Type 0) (own : List ℕ) → AbortsOver session.reach mid is own → (turns : List SessionTurn) (last : SessionState) → Owns session mid own turns last → Finishes session is turns last
finished session mid is own a turns last h = let k = a.goes last h.0 in (k.0, (subst (λ (uploads : List ℕ). AreAborted session.reach last uploads k.0) h.1 k.1.0, k.1.1))
