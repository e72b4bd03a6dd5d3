-- What one line results in.
use Rattle.std.proofs.Common.{◌≡◌, ◌<◌, ℕ, Bool, true, false, List, [], ◌∷◌, Ok, Err, Some, Option, Result, arith, inl, inr, length, refl, subst, sym}
use Rattle.std.specs.Io.KnownBytes.{Appends}
use Rattle.store_books.specs.Refusals.{refusal_text}
use Rattle.store_books.specs.declared.refusal.Refusal.{Refusal}
use Rattle.store_books.specs.declared.refusal.Refusal.TheVariants as refusals
use Rattle.store_core.specs.Runs.{Call, ask}
use Rattle.store_core.specs.declared.store.questions.Reply.{Reply}
use Rattle.store_core.specs.declared.store.questions.Reply.TheVariants as replies
use Rattle.store_core.specs.declared.store.questions.Question.TheVariants as questions
use Rattle.store_journal.specs.declared.entry.Entry.{Entry}
use Rattle.store_lines.specs.Grammar.{command_at}
use Rattle.store_lines.specs.inner.Answers.{reported_text}
use Rattle.store_lines.specs.Script.{Turn, listed, range_entries, took}
use Rattle.store_lines.specs.Spelling.{IsSpelled}
use Rattle.store_lines.specs.declared.answer.Answer.{Answer}
use Rattle.store_lines.specs.Texts.{entries_text, refused_text}
use Rattle.store_lines.specs.Questions.{answer_text}
use Rattle.store_lines.proofs.Read.{found}
use Rattle.store_lines.specs.Session.{SessionTurn, as_range, as_script, filed, no_memory, ranged, raw_text, reported_as}
use Rattle.store_lines.specs.declared.request.EntryRange.{EntryRange}
use Rattle.store_lines.specs.declared.request.Range.{Range}
use Rattle.store_lines.specs.declared.request.Request.{Request}
use Rattle.store_lines.specs.declared.request.Request.TheVariants.{Asks, Does, Entries, Fetch, File, Put, PutRaw}
use Rattle.store_core.specs.declared.command.Command.{Command}
use Rattle.store_lines.specs.Owning.{Session}
use Rattle.store_lines.specs.Access.{advance, at, SessionState, Reach, ReportedEntries, ReportedThese, Took}
use Rattle.store_lines.specs.inner.Reporting.{AnsweredOver, ReportedOver}
use Rattle.store_lines.specs.Turns.{IsLinkedBytes, IsLinkedCall, IsLinkedChange, IsLinkedCommand, IsLinkedEntries, IsLinkedLine, IsLinkedPut, IsLinkedRequest, IsLinkedScriptLine}

-- ---- steps

pub replied : (reach : Reach) (was is : SessionState → Type 0) (call : Call) (reply : Result Reply Refusal) (Wrote : List ℕ → Type 0) → Took reach was is call reply → Wrote (answer_text reply)
    → ReportedOver was is (λ before turn after. IsLinkedCall reach as_script before call turn after) Wrote
replied reach was is call reply Wrote t wrote = record {
  turn = reported_as as_script (took call reply);
  goes = λ before session. (advance before t.found call reply t.left, (t.stands before session, (refl, (t.found, (t.linked before session, ((refl, t.step), (refl, refl, refl, refl)))))));
  wrote = wrote;
}

pub put_reported : (reach : Reach) (was is : SessionState → Type 0) (upload offset : ℕ) (bytes : List ℕ) (answer : Answer) (Wrote : List ℕ → Type 0) → AnsweredOver was is (λ before turn after. IsLinkedPut reach before upload offset bytes turn after) answer → Wrote (reported_text [] answer)
    → ReportedOver was is (λ before turn after. IsLinkedBytes reach before upload offset bytes turn after) Wrote
put_reported reach was is upload offset bytes answer Wrote a wrote = record {
  turn = reported_as as_script a.turn;
  goes = λ before session. let g = a.goes before session in (g.0, (g.1.0, (refl, g.1.1)));
  wrote = subst Wrote (a.text_is []) wrote;
}

pub fetched : (reach : Reach) (was is : SessionState → Type 0) (tenant : ℕ) (address bytes : List ℕ) (range : Option Range) (Wrote : List ℕ → Type 0) → Took reach was is (ask (questions.Fetch tenant address)) (Ok (replies.Object bytes)) → Wrote (raw_text (ranged range bytes))
    → ReportedOver was is (λ before turn after. IsLinkedCall reach (as_range range) before (ask (questions.Fetch tenant address)) turn after) Wrote
fetched reach was is tenant address bytes range Wrote t wrote = record {
  turn = reported_as (as_range range) (took (ask (questions.Fetch tenant address)) (Ok (replies.Object bytes)));
  goes = λ before session. (advance before t.found (ask (questions.Fetch tenant address)) (Ok (replies.Object bytes)) t.left, (t.stands before session, (refl, (t.found, (t.linked before session, ((refl, t.step), (refl, refl, refl, refl)))))));
  wrote = wrote;
}

pub unfetched : (reach : Reach) (was is : SessionState → Type 0) (tenant : ℕ) (address : List ℕ) (refusal : Refusal) (range : Option Range) (Wrote : List ℕ → Type 0) → Took reach was is (ask (questions.Fetch tenant address)) (Err refusal) → Wrote (refused_text (refusal_text refusal))
    → ReportedOver was is (λ before turn after. IsLinkedCall reach (as_range range) before (ask (questions.Fetch tenant address)) turn after) Wrote
unfetched reach was is tenant address refusal range Wrote t wrote = record {
  turn = reported_as (as_range range) (took (ask (questions.Fetch tenant address)) (Err refusal));
  goes = λ before session. (advance before t.found (ask (questions.Fetch tenant address)) (Err refusal) t.left, (t.stands before session, (refl, (t.found, (t.linked before session, ((refl, t.step), (refl, refl, refl, refl)))))));
  wrote = wrote;
}

-- ---- the journal

-- entries of the journal, reported so
abbrev pub EntriesOver : Reach → (SessionState → Type 0) → (SessionState → Type 0) → EntryRange → (List ℕ → Type 0) → Type 0
EntriesOver reach was is range Wrote = ReportedOver was is (λ before turn after. IsLinkedEntries reach range before turn after) Wrote

pub these_reported : (reach : Reach) (was is : SessionState → Type 0) (range : EntryRange) (Wrote : List ℕ → Type 0) → ReportedThese reach was is range Wrote → EntriesOver reach was is range Wrote
these_reported reach was is range Wrote these =
    let t = these.took in
    record {
      turn = reported_as as_script (listed (range_entries range t.found.journal));
      goes = λ before session. (at before t.found, (t.stands before session, (refl, (t.found, (t.linked before session, (refl, refl))))));
      wrote = subst (λ (es : List Entry). Wrote (entries_text es)) t.entries_are these.wrote;
    }

pub reported_these : (given : Bool) (reach : Reach) (was is : SessionState → Type 0) (range : EntryRange) (w1 w2 : Option (List ℕ)) → given ≡ true → ReportedEntries reach was is given range w1 w2 → EntriesOver reach was is range (Appends w1 w2)
reported_these true reach was is range w1 w2 is_read these = these_reported reach was is range (Appends w1 w2) these
reported_these false reach was is range w1 w2 is_read h = absurd (cc)

pub reported_none : (Wrote : Option (List ℕ) → Option (List ℕ) → List ℕ → Type 0) (given : Bool) (reach : Reach) (was is : SessionState → Type 0) (range : EntryRange) (w1 w2 w3 : Option (List ℕ)) → given ≡ false → ReportedEntries reach was is given range w1 w2
    → Wrote w2 w3 (refused_text (refusal_text refusals.NoMemory)) → EntriesOver reach was is range (Wrote w1 w3)
reported_none Wrote true reach was is range w1 w2 w3 is_read h wrote = absurd (cc)
reported_none Wrote false reach was is range w1 w2 w3 is_read h wrote = record {
  turn = no_memory;
  goes = λ before session. (before, (h.1.kept before session, (h.0, refl)));
  wrote = subst (λ (w : Option (List ℕ)). Wrote w w3 (refused_text (refusal_text refusals.NoMemory))) h.2 wrote;
}

-- ---- a line of a script

pub plays : (reach : Reach) (old new : SessionState) (line : List ℕ) (turn : Turn) (command : Option Request) → 0 < length line → command ≡ command_at line → IsLinkedCommand reach old command turn new → IsLinkedLine reach old line turn new
plays reach old new [] turn command some is h = absurd (omega (arith, some))
plays reach old new (b ∷ line) turn command some is h = subst (λ o. IsLinkedCommand reach old o turn new) is h

call_turn : (session : Session) (old new : SessionState) (line : List ℕ) (request : Request) (call : Call) (turn : SessionTurn) → 0 < length line → Some request ≡ command_at line → ((t : Turn) → IsLinkedCall session.reach as_script old call (reported_as as_script t) new → IsLinkedCommand session.reach old (Some request) t new)
    → IsLinkedCall session.reach as_script old call turn new → IsLinkedScriptLine session old line turn new
call_turn session old new line request call no_memory some is f h = absurd h
call_turn session old new line request call (filed turns) some is f h = absurd h
call_turn session old new line request call (reported_as manner turn) some is f h = (h.0, plays session.reach old new line turn (Some request) some is (f turn (refl, h.1)))

change_turn : (session : Session) (old new : SessionState) (line : List ℕ) (command : Command) (turn : SessionTurn) → 0 < length line → Some (Does command) ≡ command_at line → IsLinkedChange session old command turn new → IsLinkedScriptLine session old line turn new
change_turn session old new line command no_memory some is h = (inr (inr (inr (h.0, (command, sym is, h.1)))), h.2)
change_turn session old new line command (filed turns) some is h = absurd h
change_turn session old new line command (reported_as manner turn) some is h = (h.0, plays session.reach old new line turn (Some (Does command)) some is h.1)

entries_turn : (session : Session) (old new : SessionState) (line : List ℕ) (range : EntryRange) (turn : SessionTurn) → 0 < length line → Some (Entries range) ≡ command_at line → IsLinkedEntries session.reach range old turn new → IsLinkedScriptLine session old line turn new
entries_turn session old new line range no_memory some is h =
    let spelled : IsSpelled line (Entries range) = found line (Entries range) (sym is) in
    (inr (inr (inl (h.0, subst (λ (r : EntryRange). command_at line ≡ Some (Entries r)) spelled.1 (sym is)))), h.1)
entries_turn session old new line range (filed turns) some is h = absurd h
entries_turn session old new line range (reported_as manner turn) some is h = (h.0, plays session.reach old new line turn (Some (Entries range)) some is h.1)

bytes_turn : (session : Session) (old new : SessionState) (line : List ℕ) (request : Request) (upload offset : ℕ) (bytes : List ℕ) (turn : SessionTurn) → 0 < length line → Some request ≡ command_at line → ((t : Turn) → IsLinkedPut session.reach old upload offset bytes t new → IsLinkedCommand session.reach old (Some request) t new)
    → IsLinkedBytes session.reach old upload offset bytes turn new → IsLinkedScriptLine session old line turn new
bytes_turn session old new line request upload offset bytes no_memory some is f h = absurd h
bytes_turn session old new line request upload offset bytes (filed turns) some is f h = absurd h
bytes_turn session old new line request upload offset bytes (reported_as manner turn) some is f h = (h.0, plays session.reach old new line turn (Some request) some is (f turn h.1))

-- the turn of a script's request is that of its line
pub script_turn : (session : Session) (old new : SessionState) (line whole following rest : List ℕ) (request : Request) (turn : SessionTurn) → 0 < length line → Some request ≡ command_at line → IsLinkedRequest session old (Some request) whole following turn new rest → IsLinkedScriptLine session old line turn new × (rest ≡ following)
script_turn session old new line whole following rest (Does command) turn some is h = (change_turn session old new line command turn some is h.0, h.1)
script_turn session old new line whole following rest (Asks question) turn some is h = (call_turn session old new line (Asks question) _ turn some is (λ t k. k.1) h.0, h.1)
script_turn session old new line whole following rest (Put part) turn some is h = (bytes_turn session old new line (Put part) part.upload part.offset part.bytes turn some is (λ t k. k) h.0, h.1)
script_turn session old new line whole following rest (PutRaw part) turn some is h = absurd (found line (PutRaw part) (sym is))
script_turn session old new line whole following rest (File filing) turn some is h = absurd (found line (File filing) (sym is))
script_turn session old new line whole following rest (Fetch wanted) turn some is h = absurd (found line (Fetch wanted) (sym is))
script_turn session old new line whole following rest (Entries range) turn some is h = (entries_turn session old new line range turn some is h.0, h.1)
