-- What a line results in.
use Rattle.std.proofs.Common.{◌≡◌, ◌∙◌, ◌+◌, ◌-◌, ◌<◌, ◌≤◌, ℕ, List, [], ◌∷◌, ◌++◌, Some, None, Ok, Err, Result, refl, ap, sym, subst, arith, cond, length, take}
use Rattle.std.specs.Prelude.{◌&&◌, ◌==◌, Bool, OnErr, codes, false, nat_lt, slice_index, true}
use Rattle.std.specs.Io.BufRead.{strip_last}
use Rattle.std.proofs.lemmas.List.{length-take}
use Rattle.edge.specs.Fields.{split_at, space}
use Rattle.edge.proofs.FieldTexts.{split_found}
use Rattle.store_books.specs.declared.refusal.Refusal.{Refusal}
use Rattle.store_core.specs.Questions.{Answers}
use Rattle.store_core.specs.Model.{ModelStore}
use Rattle.store_core.specs.declared.store.questions.Reply.{Reply}
use Rattle.store_core.specs.declared.command.Command.{Command}
use Rattle.store_core.specs.declared.store.questions.Question.{Question}
use Rattle.store_core.specs.Runs.{Call, Step, ask, change}
use Rattle.store_lines.specs.Grammar.{command_at}
use Rattle.store_lines.specs.declared.request.EntryRange.{EntryRange}
use Rattle.store_lines.specs.declared.request.Part.{Part}
use Rattle.store_lines.specs.declared.request.Request.{Request}
use Rattle.store_lines.specs.declared.request.Request.TheVariants.{Asks, Does, Entries, Put}
use Rattle.store_lines.specs.Access.{SessionState, advance, alone_reach, alone_stands, at}
use Rattle.store_lines.specs.Lines.{IsPutLine}
use Rattle.edge.specs.declared.lines.LineRead.{LineRead}
use Rattle.store_lines.specs.declared.bad_lines.LineFault.{LineFault}
use Rattle.store_lines.specs.declared.session_line.Line.{Line}
use Rattle.store_lines.specs.declared.session_line.Line.TheVariants as lines
use Rattle.store_lines.specs.inner.Requests.{IsLineOf, IsScriptFound}
use Rattle.store_lines.specs.inner.Answers.{Answered, AnswersRead, AnswersRequest, IsTurnOf, LacksRead, reported_ending, reported_text}
use Rattle.store_lines.specs.Turns.{IsLinkedPut, IsLinkedStep}
use Rattle.store_lines.specs.inner.Reporting.{AnsweredOver}
use Rattle.store_lines.proofs.Read.{found}
use Rattle.store_lines.proofs.Reports.{plays}
use Rattle.store_lines.specs.Script.{bad, listed, range_entries, reply_ending, skipped, took}
use Rattle.store_lines.specs.Texts.{entries_text}
use Rattle.store_lines.specs.Questions.{answer_text}
use Rattle.store_lines.specs.declared.answer.Answer.{Answer}
use Rattle.store_lines.specs.declared.ending.Ending.{Ending}
use Rattle.store_lines.specs.declared.ending.Ending.TheVariants as endings

-- ---- an answer

-- what is said of a step, and of a line that is no command
abbrev pub Says : Result Reply Refusal → List ℕ → Ending → Type 0
Says reply text ending = (text ≡ answer_text reply) × (ending ≡ reply_ending reply)

abbrev pub SaysBad : List ℕ → Ending → Type 0
SaysBad text ending = (text ≡ codes "bad\n") × (ending ≡ endings.Refused)

-- ---- a line

-- a step of a store that nobody else changes
stepped : (old new : ModelStore) (call : Call) (reply : Result Reply Refusal) → Step old call reply new → (before : SessionState) → alone_stands old before → (after : SessionState) × (alone_stands new after × IsLinkedStep alone_reach before call (took call reply) after)
stepped old new call reply step before is = (advance before old call reply new, (refl, (old, (sym is, ((refl, step), (refl, refl, refl, refl))))))

pub nothing : (old : ModelStore) (line text : List ℕ) (ending : Ending) → length line ≡ 0 → text ≡ [] → ending ≡ endings.Good → Answered (IsTurnOf old line old) text ending
nothing old [] text ending none text_is ending_is = record { turn = skipped; is = λ before is. (before, (is, (refl, refl))); text_is = text_is; ending_is = ending_is }
nothing old (b ∷ line) text ending none text_is ending_is = absurd (omega (arith, none))

pub no_command : (old : ModelStore) (line text : List ℕ) (ending : Ending) → 0 < length line → None ≡ command_at line → SaysBad text ending → Answered (IsTurnOf old line old) text ending
no_command old line text ending some none says = record {
  turn = bad;
  is = λ before is. (before, (is, plays alone_reach before before line bad None some none (refl, refl)));
  text_is = says.0;
  ending_is = says.1;
}

pub done : (old new : ModelStore) (line text : List ℕ) (ending : Ending) (command : Command) (reply : Result Reply Refusal) → 0 < length line → Some (Does command) ≡ command_at line → Step old (change command) reply new → Says reply text ending → Answered (IsTurnOf old line new) text ending
done old new line text ending command reply some spelled step says = record {
  turn = took (change command) reply;
  is = λ before is. let s = stepped old new (change command) reply step before is in (s.0, (s.1.0, plays alone_reach before s.0 line (took (change command) reply) (Some (Does command)) some spelled s.1.1));
  text_is = says.0;
  ending_is = says.1;
}

pub asked : (old : ModelStore) (line text : List ℕ) (ending : Ending) (question : Question) (reply : Result Reply Refusal) → 0 < length line → Some (Asks question) ≡ command_at line → Answers old question reply → Says reply text ending → Answered (IsTurnOf old line old) text ending
asked old line text ending question reply some spelled answers says = record {
  turn = took (ask question) reply;
  is = λ before is. let s = stepped old old (ask question) reply (answers, refl) before is in (s.0, (s.1.0, plays alone_reach before s.0 line (took (ask question) reply) (Some (Asks question)) some spelled s.1.1));
  text_is = says.0;
  ending_is = says.1;
}

pub listed_these : (old : ModelStore) (line : List ℕ) (range : EntryRange) → 0 < length line → Some (Entries range) ≡ command_at line → Answered (IsTurnOf old line old) (entries_text (range_entries range old.journal)) endings.Good
listed_these old line range some spelled = record {
  turn = listed (range_entries range old.journal);
  is = λ before is. (at before old, (refl, plays alone_reach before (at before old) line (listed (range_entries range old.journal)) (Some (Entries range)) some spelled (old, (sym is, (refl, refl)))));
  text_is = refl;
  ending_is = refl;
}

pub put_asked : (old new : ModelStore) (line : List ℕ) (part : Part) (answer : Answer) → 0 < length line → Some (Put part) ≡ command_at line → AnsweredOver (alone_stands old) (alone_stands new) (λ before turn after. IsLinkedPut alone_reach before part.upload part.offset part.bytes turn after) answer
    → Answered (IsTurnOf old line new) (reported_text new.journal answer) (reported_ending answer)
put_asked old new line part answer some spelled h = record {
  turn = h.turn;
  is = λ before is. let g = h.goes before is in (g.0, (g.1.0, plays alone_reach before g.0 line h.turn (Some (Put part)) some spelled g.1.1));
  text_is = h.text_is new.journal;
  ending_is = h.ending_is;
}

-- ---- a request

pub request_done : (old new : ModelStore) (request : Request) (command : Command) (reply : Result Reply Refusal) (text : List ℕ) (ending : Ending) → request ≡ Does command → Step old (change command) reply new → Says reply text ending → AnswersRequest old new request text ending
request_done old new request command reply text ending same step says =
    subst (λ (r : Request). AnswersRequest old new r text ending) (sym same) (record { answers = λ line some is. done old new line text ending command reply some is step says })

pub request_asked : (old : ModelStore) (request : Request) (question : Question) (reply : Result Reply Refusal) (text : List ℕ) (ending : Ending) → request ≡ Asks question → Answers old question reply → Says reply text ending → AnswersRequest old old request text ending
request_asked old request question reply text ending same answers says =
    subst (λ (r : Request). AnswersRequest old old r text ending) (sym same) (record { answers = λ line some is. asked old line text ending question reply some is answers says })

pub request_listed : (old : ModelStore) (request : Request) (range : EntryRange) → request ≡ Entries range → AnswersRequest old old request (entries_text (range_entries range old.journal)) endings.Good
request_listed old request range same =
    subst (λ (r : Request). AnswersRequest old old r (entries_text (range_entries range old.journal)) endings.Good) (sym same) (record { answers = λ line some is. listed_these old line range some is })

pub request_put : (old new : ModelStore) (request : Request) (part : Part) (answer : Answer) → request ≡ Put part → AnsweredOver (alone_stands old) (alone_stands new) (λ before turn after. IsLinkedPut alone_reach before part.upload part.offset part.bytes turn after) answer
    → AnswersRequest old new request (reported_text new.journal answer) (reported_ending answer)
request_put old new request part answer same h =
    subst (λ (r : Request). AnswersRequest old new r (reported_text new.journal answer) (reported_ending answer)) (sym same) (record { answers = λ line some is. put_asked old new line part answer some is h })

-- ---- a line that was read

pub strip_shorter : (xs : List ℕ) → length xs ≤ length (strip_last 10 xs) + 1
strip_shorter xs = go (nat_lt 0 (length xs) && slice_index xs (length xs - 1) == 10)
  where
    go : (t : Bool) → length xs ≤ length (cond t (take (length xs - 1) xs) xs) + 1
    go true = omega (arith, length-take (length xs - 1) xs)
    go false = omega arith

pub read_nothing : (old : ModelStore) (read : LineRead) (kept text : List ℕ) (ending : Ending) (found : Line) → found ≡ lines.Empty → IsScriptFound read kept found → text ≡ [] → ending ≡ endings.Good → AnswersRead old old read kept text ending
read_nothing old read kept text ending found same h text_is ending_is = record {
  answers = λ whole r. let line = strip_last 10 whole in nothing old line text ending (subst (IsLineOf line) same (h.is whole r)) text_is ending_is;
}

pub read_bad : (old : ModelStore) (read : LineRead) (kept text : List ℕ) (ending : Ending) (found : Line) (fault : LineFault) → found ≡ lines.Bad fault → IsScriptFound read kept found → SaysBad text ending → AnswersRead old old read kept text ending
read_bad old read kept text ending found fault same h says = record {
  answers = λ whole r. let line = strip_last 10 whole in let is = subst (IsLineOf line) same (h.is whole r) in no_command old line text ending is.0 is.1 says;
}

pub read_request : (old new : ModelStore) (read : LineRead) (kept text : List ℕ) (ending : Ending) (found : Line) (request : Request) → found ≡ lines.Has request → IsScriptFound read kept found → AnswersRequest old new request text ending → AnswersRead old new read kept text ending
read_request old new read kept text ending found request same h a = record {
  answers = λ whole r. let line = strip_last 10 whole in let is = subst (IsLineOf line) same (h.is whole r) in a.answers line is.0 is.1;
}

pub read_lacks : (read : LineRead) (kept : List ℕ) (found : Line) → found ≡ lines.NoMemory → IsScriptFound read kept found → LacksRead read kept
read_lacks read kept found same h = record { lacks = λ whole r. subst (IsLineOf (strip_last 10 whole)) same (h.is whole r) }

-- ---- out of memory

pub put_line : (line kind fields : List ℕ) → Some (kind, fields) ≡ split_at space line → kind ≡ codes "put" → IsPutLine line
put_line line kind fields cut is = (fields, sym (split_found space line (kind, fields) (sym cut)) ∙ ap (λ (k : List ℕ). k ++ space ∷ fields) is)

pub always : {A E P : Type 0} (r : Result A E) → P → OnErr r P
always (Ok a) p = tt
always (Err e) p = p
