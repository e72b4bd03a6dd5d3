-- How far a script has come.
use Rattle.std.proofs.Common.{◌≡◌, ◌∙◌, ◌+◌, ◌<◌, ℕ, Bool, true, false, List, [], ◌∷◌, ◌++◌, Some, None, Ok, Err, Result, refl, ap, sym, subst, arith, length, length-append, cond, append_assoc}
use Rattle.std.specs.Prelude.{◌≢◌, Option, ◌==◌, IfOk, IfSome, OnOk}
use Rattle.std.specs.List.{flat_map}
use Rattle.std.specs.Io.BufRead.{DropsThrough, drop_through, strip_last, take_through}
use Rattle.std.specs.Io.KnownBytes.{Appends, IsAtEnd}
use Rattle.std.proofs.lemmas.List.{append-nil}
use Rattle.std.proofs.lemmas.List.Concat.{flat_map-append}
use Rattle.b3_forest.specs.Parts.{ModelPrepared, planned}
use Rattle.store_upload.specs.Uploads.{UploadPlan, part_fault}
use Rattle.store_upload.specs.declared.refusal.PartFault.{PartFault}
use Rattle.store_books.specs.declared.refusal.Refusal.{Refusal}
use Rattle.store_books.specs.Books.{max_entries, max_tenants, max_workers}
use Rattle.store_core.specs.Questions.{plan_in}
use Rattle.edge.specs.Lines.{lines_of}
use Rattle.edge.proofs.FirstLines.{lines_next, none_left, nothing_is}
use Rattle.edge.specs.Output.{WroteSome}
use Rattle.edge.proofs.Joining.{appends_none}
use Rattle.edge.proofs.Output.{all_written}
use Rattle.store_core.specs.Model.{ModelStore}
use Rattle.store_core.specs.Runs.{Call, Run, Step, ask, change, put}
use Rattle.store_lines.specs.Grammar.{command_at, fault_at}
use Rattle.store_lines.specs.declared.request.Request.{Request}
use Rattle.store_lines.specs.declared.request.EntryRange.{EntryRange}
use Rattle.store_lines.specs.declared.request.Request.TheVariants.{Asks, Does, Entries, Put}
use Rattle.edge.specs.declared.lines.LineRead.{LineRead}
use Rattle.store_lines.specs.inner.Answers.{AnswersRead}
use Rattle.store_lines.specs.inner.Requests.{IsSessionLine}
use Rattle.store_lines.specs.Access.{SessionState, alone_reach, alone_stands, at, newly}
use Rattle.store_lines.specs.Turns.{IsLinkedCommand, IsLinkedLine, IsLinkedListing, IsLinkedMade, IsLinkedPart, IsLinkedPlan, IsLinkedPut, IsLinkedStep}
use Rattle.store_lines.specs.Running.{AreTurnsOf, HasMemory, Ran, RanOut, RanSome, after_answer, before_line, told_from, told_of}
use Rattle.store_lines.specs.declared.bad_lines.LineFault.{LineFault}
use Rattle.store_lines.proofs.Told.{told_more}
use Rattle.store_lines.specs.Script.{IsTurnOfStep, Turn, bad, calls_of, ending_of, listed, replies_of, skipped, took, turn_ending, turn_text, unmade, unplanned, verdict_ending, widest_start, worse}
use Rattle.store_lines.specs.inner.Script.{RanUntil, result_of}
use Rattle.store_lines.specs.declared.ending.Ending.{Ending}
use Rattle.store_lines.specs.declared.ending.Ending.TheVariants as endings
use Rattle.edge.specs.declared.outcome.Cause.{Cause}
use Rattle.edge.specs.declared.outcome.Cause.TheVariants as causes
use Rattle.store_core.proofs.Carried.{empty_carried}
use Rattle.store_core.proofs.Runs.{runs_carry}

-- ---- a line more

more_play : (old mid new : SessionState) (front : List (List ℕ)) (turns : List Turn) (line : List ℕ) (turn : Turn) → AreTurnsOf old front turns mid → IsLinkedLine alone_reach mid line turn new → AreTurnsOf old (front ++ line ∷ []) (turns ++ turn ∷ []) new
more_play old mid new [] [] line turn h p = (new, subst (λ (s : SessionState). IsLinkedLine alone_reach s line turn new) h p, refl)
more_play old mid new [] (t ∷ turns) line turn h p = absurd h
more_play old mid new (l ∷ front) [] line turn h p = absurd h
more_play old mid new (l ∷ front) (t ∷ turns) line turn h p = (h.0, h.1, more_play h.0 mid new front turns line turn h.2 p)

worse_good : (e : Ending) → worse e endings.Good ≡ e
worse_good endings.Good = refl
worse_good endings.Refused = refl
worse_good endings.OutOfMemory = refl

worse_assoc : (a b c : Ending) → worse (worse a b) c ≡ worse a (worse b c)
worse_assoc endings.Good b c = refl
worse_assoc endings.OutOfMemory b c = refl
worse_assoc endings.Refused endings.Good c = refl
worse_assoc endings.Refused endings.OutOfMemory c = refl
worse_assoc endings.Refused endings.Refused endings.Good = refl
worse_assoc endings.Refused endings.Refused endings.Refused = refl
worse_assoc endings.Refused endings.Refused endings.OutOfMemory = refl

ending_more : (turns : List Turn) (turn : Turn) → ending_of (turns ++ turn ∷ []) ≡ worse (ending_of turns) (turn_ending turn)
ending_more [] turn = worse_good (turn_ending turn)
ending_more (t ∷ turns) turn = ap (worse (turn_ending t)) (ending_more turns turn) ∙ sym (worse_assoc (turn_ending t) (ending_of turns) (turn_ending turn))

text_more : (turns : List Turn) (turn : Turn) → flat_map turn_text (turns ++ turn ∷ []) ≡ flat_map turn_text turns ++ turn_text turn
text_more turns turn = flat_map-append turn_text turns (turn ∷ []) ∙ ap (λ xs. flat_map turn_text turns ++ xs) (append-nil (turn_text turn))

-- ---- the steps are a run

-- a step, or nothing
abbrev pub Came : ModelStore → Turn → ModelStore → Type 0
Came old skipped new = new ≡ old
Came old bad new = new ≡ old
Came old (unplanned refusal) new = new ≡ old
Came old (unmade fault) new = new ≡ old
Came old (took call reply) new = Step old call reply new
Came old (listed entries) new = new ≡ old

came_takes : (old new : ModelStore) (call : Call) (turn : Turn) → IsTurnOfStep old call turn new → Came old turn new
came_takes old new call skipped h = absurd h
came_takes old new call bad h = absurd h
came_takes old new call (unplanned refusal) h = absurd h
came_takes old new call (unmade fault) h = absurd h
came_takes old new call (listed entries) h = absurd h
came_takes old new call (took asked reply) h = subst (λ (c : Call). Step old c reply new) (sym h.0) h.1

pub same : {old new : SessionState} → new ≡ old → new.store ≡ old.store
same h = ap (λ (s : SessionState). s.store) h

pub came_step : (old new : SessionState) (call : Call) (turn : Turn) → IsLinkedStep alone_reach old call turn new → Came old.store turn new.store
came_step old new call turn h = subst (λ (s : ModelStore). Came s turn new.store) h.1.0 (came_takes h.0 new.store call turn h.1.1.0)

came_part : (old new : SessionState) (upload : ℕ) (part : ModelPrepared) (turn : Turn) → IsLinkedPart alone_reach old upload part turn new → Came old.store turn new.store
came_part old new upload part skipped h = absurd h
came_part old new upload part bad h = absurd h
came_part old new upload part (unplanned refusal) h = absurd h
came_part old new upload part (unmade fault) h = same h.1
came_part old new upload part (listed entries) h = absurd h
came_part old new upload part (took asked reply) h = came_step old new (put upload part) (took asked reply) h

came_made : (old new : SessionState) (upload : ℕ) (part : ModelPrepared) (refused : Option PartFault) (turn : Turn) → IsLinkedMade alone_reach old upload part refused turn new → Came old.store turn new.store
came_made old new upload part (Some fault) turn h = subst (λ (t : Turn). Came old.store t new.store) (sym h.0) (same h.1)
came_made old new upload part None turn h = came_part old new upload part turn h

came_plan : (old new : SessionState) (upload offset : ℕ) (bytes : List ℕ) (plan : Result UploadPlan Refusal) (turn : Turn) → IsLinkedPlan alone_reach old upload offset bytes plan turn new → Came old.store turn new.store
came_plan old new upload offset bytes (Err refusal) turn h = subst (λ (t : Turn). Came old.store t new.store) (sym h.0) (same h.1)
came_plan old new upload offset bytes (Ok plan) turn h = came_made old new upload (planned plan offset bytes) (part_fault plan offset (length bytes)) turn h

pub came_put : (old new : SessionState) (upload offset : ℕ) (bytes : List ℕ) (turn : Turn) → IsLinkedPut alone_reach old upload offset bytes turn new → Came old.store turn new.store
came_put old new upload offset bytes turn h = subst (λ (s : ModelStore). Came s turn new.store) h.1.0 (came_plan (at old h.0) new upload offset bytes (plan_in h.0.state upload) turn h.1.1)

pub came_listing : (old new : SessionState) (range : EntryRange) (turn : Turn) → IsLinkedListing alone_reach old range turn new → Came old.store turn new.store
came_listing old new range turn h = subst (λ (t : Turn). Came old.store t new.store) (sym h.1.1.0) (same h.1.1.1 ∙ h.1.0)

came_does : (old new : SessionState) (command : Option Request) (turn : Turn) → IsLinkedCommand alone_reach old command turn new → Came old.store turn new.store
came_does old new None turn h = subst (λ (t : Turn). Came old.store t new.store) (sym h.0) (same h.1)
came_does old new (Some (Does command)) turn h = came_step old new (change command) turn h
came_does old new (Some (Asks question)) turn h = came_step old new (ask question) turn h
came_does old new (Some (Put part)) turn h = came_put old new part.upload part.offset part.bytes turn h
came_does old new (Some (Entries range)) turn h = came_listing old new range turn h
came_does old new (Some _) turn h = subst (λ (t : Turn). Came old.store t new.store) (sym h.0) (same h.1)

pub came : (old new : SessionState) (line : List ℕ) (turn : Turn) → IsLinkedLine alone_reach old line turn new → Came old.store turn new.store
came old new [] turn h = subst (λ (t : Turn). Came old.store t new.store) (sym h.0) (same h.1)
came old new (b ∷ line) turn h = came_does old new (command_at (b ∷ line)) turn h

run_on : (old mid new : ModelStore) (turn : Turn) (turns : List Turn) → Came old turn mid → Run mid (calls_of turns) (replies_of turns) new → Run old (calls_of (turn ∷ turns)) (replies_of (turn ∷ turns)) new
run_on old mid new skipped turns h r = subst (λ (s : ModelStore). Run s (calls_of turns) (replies_of turns) new) h r
run_on old mid new bad turns h r = subst (λ (s : ModelStore). Run s (calls_of turns) (replies_of turns) new) h r
run_on old mid new (unplanned refusal) turns h r = subst (λ (s : ModelStore). Run s (calls_of turns) (replies_of turns) new) h r
run_on old mid new (listed entries) turns h r = subst (λ (s : ModelStore). Run s (calls_of turns) (replies_of turns) new) h r
run_on old mid new (unmade fault) turns h r = subst (λ (s : ModelStore). Run s (calls_of turns) (replies_of turns) new) h r
run_on old mid new (took call reply) turns h r = (mid, h, r)

runs : (old new : SessionState) (lines : List (List ℕ)) (turns : List Turn) → AreTurnsOf old lines turns new → Run old.store (calls_of turns) (replies_of turns) new.store
runs old new [] [] h = same h
runs old new [] (turn ∷ turns) h = absurd h
runs old new (line ∷ lines) [] h = absurd h
runs old new (line ∷ lines) (turn ∷ turns) h = run_on old.store h.0.store new.store turn turns (came old h.0 line turn h.1) (runs h.0 new lines turns h.2)

-- ---- a run under way

-- the steps of such turns are a run
abbrev ran_by : {Told : List (ℕ × LineFault) → Type 0} {Ends : List (List ℕ) → Ending → Type 0} {Wrote : List ℕ → Type 0} (input : List ℕ) (front back : List (List ℕ)) (turns : List Turn) (end : SessionState) → lines_of input ≡ front ++ back → AreTurnsOf (newly widest_start) front turns end → Told (told_from 1 front) → Ends back (ending_of turns) → Wrote (flat_map turn_text turns) → RanSome input Told Ends Wrote
ran_by input front back turns end lines plays told ends wrote =
    let run = runs (newly widest_start) end front turns plays in
    record {
      front = front;
      back = back;
      lines = lines;
      turns = turns;
      end = end;
      plays = plays;
      run = run;
      law = (runs_carry widest_start end.store (calls_of turns) (replies_of turns) (empty_carried max_tenants max_entries max_workers (omega arith) (omega arith)) run).0;
      told = told;
      ends = ends;
      wrote = wrote;
    }

-- the lines that are left, the ending and what was written have other properties too
so : {Told : List (ℕ × LineFault) → Type 0} {Ends Ends2 : List (List ℕ) → Ending → Type 0} {Wrote Wrote2 : List ℕ → Type 0} (input : List ℕ) → ((back : List (List ℕ)) (ending : Ending) → Ends back ending → Ends2 back ending) → ((text : List ℕ) → Wrote text → Wrote2 text) → RanSome input Told Ends Wrote → RanSome input Told Ends2 Wrote2
so input ends wrote h = record {
  front = h.front;
  back = h.back;
  lines = h.lines;
  turns = h.turns;
  end = h.end;
  plays = h.plays;
  run = h.run;
  law = h.law;
  told = h.told;
  ends = ends h.back (ending_of h.turns) h.ends;
  wrote = wrote (flat_map turn_text h.turns) h.wrote;
}

-- the lines before the rest were answered, and this much was written
pub record IsUnder (Told : List (ℕ × LineFault) → Type 0) (number : ℕ) (now : Option (List ℕ)) (Wrote : List ℕ → Type 0) (store : ModelStore) (ending : Ending) (input : List ℕ) : Type 0 where
  pub rest : List ℕ
  pub left : now ≡ Some rest
  pub ran : RanSome input Told (λ back said. (back ≡ lines_of rest) × (said ≡ ending)) Wrote
  pub stands : alone_stands store ran.end
  pub count : number ≡ length ran.front

pub begun : (Told : List (ℕ × LineFault) → Type 0) (old was : Option (List ℕ)) (store : ModelStore) → store ≡ widest_start → Told [] → IfSome old (IsUnder Told 0 old (Appends was was) store endings.Good)
begun Told None was store is nothing = tt
begun Told (Some input) was store is nothing = record { rest = input; left = refl; ran = ran_by input [] (lines_of input) [] (newly widest_start) refl refl nothing (refl, refl) (appends_none was); stands = sym is; count = refl }

pub at_end : (Told : List (ℕ × LineFault) → Type 0) (number : ℕ) (old now was is : Option (List ℕ)) (store : ModelStore) (ending : Ending) → IfSome old (IsUnder Told number now (Appends was is) store ending) → IsAtEnd now → IfSome old (λ input. Ran input Told was is ending)
at_end Told number None now was is store ending h e = tt
at_end Told number (Some input) now was is store ending h e =
    let none : IsAtEnd (Some h.rest) = subst IsAtEnd h.left e in
    so input (λ back said k. (k.0 ∙ ap lines_of none ∙ none_left, k.1)) (λ text wrote. wrote) h.ran

-- at the end the reader stays there
pub ended_reader : (Told : List (ℕ × LineFault) → Type 0) (number : ℕ) (old now then was is : Option (List ℕ)) (store : ModelStore) (ending : Ending) → IfSome old (IsUnder Told number now (Appends was is) store ending) → IsAtEnd now → DropsThrough now then 10 → IfSome old (λ _. IsAtEnd then)
ended_reader Told number None now then was is store ending h none drops = tt
ended_reader Told number (Some input) now then was is store ending h none drops =
    let rest : then ≡ Some (drop_through 10 h.rest) = subst (λ (o : Option (List ℕ)). DropsThrough o then 10) h.left drops in
    let nothing : h.rest ≡ [] = subst IsAtEnd h.left none in
    subst IsAtEnd (sym rest) (ap (drop_through 10) nothing)

-- ---- a run that stops

some_left : (input : List ℕ) → 0 < length input → lines_of input ≢ []
some_left input some = λ none. let nothing = ap length (nothing_is input none) in absurd (omega (arith, nothing, some))

-- stopped before a line: its read failed, or an allocation for it
pub until_line : (Told : List (ℕ × LineFault) → Type 0) (number : ℕ) (old now was is : Option (List ℕ)) (store : ModelStore) (ending : Ending) (cause : Cause) → cause ≢ causes.CannotWrite → (cause ≡ causes.OutOfMemory → IfSome now (λ left. 0 < length left)) → IfSome old (IsUnder Told number now (Appends was is) store ending)
    → IfSome old (λ input. RanUntil (Err cause) input Told was is ending)
until_line Told number None now was is store ending cause unwritten some h = tt
until_line Told number (Some input) now was is store ending causes.CannotRead unwritten some h = so input (λ back said k. k.1) (λ text wrote. wrote) h.ran
until_line Told number (Some input) now was is store ending causes.CannotWrite unwritten some h = absurd (unwritten refl)
until_line Told number (Some input) now was is store ending causes.OutOfMemory unwritten some h =
    let left : 0 < length h.rest = subst (λ (o : Option (List ℕ)). IfSome o (λ left. 0 < length left)) h.left (some refl) in
    so input (λ back said k. (λ none. some_left h.rest left (sym k.0 ∙ none), k.1)) (λ text wrote. wrote) h.ran

-- the answer to a line was written in part
pub in_answer : (Told : List (ℕ × LineFault) → Type 0) (number : ℕ) (old now was is : Option (List ℕ)) (store : ModelStore) (ending : Ending) → IfSome old (IsUnder Told number now (WroteSome was is) store ending) → IfSome old (λ input. RanUntil (Err causes.CannotWrite) input Told was is ending)
in_answer Told number None now was is store ending h = tt
in_answer Told number (Some input) now was is store ending h = so input (λ back said k. k.1) (λ text wrote. wrote) h.ran

-- a line that was read is left
pub line_left : (now : Option (List ℕ)) (got : LineRead) (kept : List ℕ) → 0 < got.count → IfSome now (λ xs. IsSessionLine (take_through 10 xs) got kept) → IfSome now (λ left. 0 < length left)
line_left None got kept some h = tt
line_left (Some []) got kept some h = absurd (omega (arith, some, h.count_is))
line_left (Some (b ∷ bs)) got kept some h = omega arith

-- at the end nothing is read
pub nothing_read : (now : Option (List ℕ)) (got : LineRead) (kept : List ℕ) → got.count ≡ 0 → IfSome now (λ xs. IsSessionLine (take_through 10 xs) got kept) → IsAtEnd now
nothing_read None got kept zero h = tt
nothing_read (Some xs) got kept zero h = nothing_through xs (omega (arith, h.count_is, zero))
  where
    nothing_through : (xs : List ℕ) → length (take_through 10 xs) ≡ 0 → xs ≡ []
    nothing_through [] e = refl
    nothing_through (b ∷ bs) e = absurd (some_through (b == 10) e)
      where
        some_through : (t : Bool) → length (cond t (b ∷ []) (b ∷ take_through 10 bs)) ≡ 0 → ⊥
        some_through true e = omega (arith, e)
        some_through false e = omega (arith, e)

-- ---- a line more of a run

pub turned : (Told Told2 : List (ℕ × LineFault) → Type 0) (number : ℕ) (old now then : Option (List ℕ)) (Wrote Wrote2 Wrote3 : List ℕ → Type 0) (store next : ModelStore) (ending said : Ending) (got : LineRead) (kept text : List ℕ) → ((done text : List ℕ) → Wrote done → Wrote2 text → Wrote3 (done ++ text)) → IfSome old (IsUnder Told number now Wrote store ending)
    → IfSome now (λ xs. IsSessionLine (take_through 10 xs) got kept) → DropsThrough now then 10 → 0 < got.count → AnswersRead store next got kept text said → Wrote2 text → ((whole : List ℕ) → IsSessionLine whole got kept → (told : List (ℕ × LineFault)) → Told told → Told2 (told ++ told_of (number + 1) (fault_at (strip_last 10 whole)))) → IfSome old (IsUnder Told2 (number + 1) then Wrote3 next (worse ending said))
turned Told Told2 number None now then Wrote Wrote2 Wrote3 store next ending said got kept text more h read rest some answered wrote say = tt
turned Told Told2 number (Some input) now then Wrote Wrote2 Wrote3 store next ending said got kept text more h read rest some answered wrote say =
    let whole = take_through 10 h.rest in
    let read2 : IsSessionLine whole got kept = subst (λ (o : Option (List ℕ)). IfSome o (λ xs. IsSessionLine (take_through 10 xs) got kept)) h.left read in
    let rest2 : then ≡ Some (drop_through 10 h.rest) = subst (λ (o : Option (List ℕ)). DropsThrough o then 10) h.left rest in
    let line = strip_last 10 whole in
    let some2 : 0 < length whole = omega (arith, some, read2.count_is) in
    let answer = answered.answers whole read2 in
    let ran = h.ran in
    let goes = answer.is ran.end h.stands in
    let lines = ran.lines ∙ ap (λ ls. ran.front ++ ls) (ran.ends.0 ∙ lines_next h.rest some2) ∙ sym (append_assoc ran.front (line ∷ []) (lines_of (drop_through 10 h.rest))) in
    let ending_is = ending_more ran.turns answer.turn ∙ ap (λ e. worse e (turn_ending answer.turn)) ran.ends.1 ∙ ap (worse ending) (sym answer.ending_is) in
    let told = subst Told2 (sym (told_more 1 ran.front line (number + 1) (omega (arith, h.count)))) (say whole read2 (told_from 1 ran.front) ran.told) in
    let wrote2 = subst Wrote3 (ap (λ t. flat_map turn_text ran.turns ++ t) answer.text_is ∙ sym (text_more ran.turns answer.turn)) (more (flat_map turn_text ran.turns) text ran.wrote wrote) in
    record {
      rest = drop_through 10 h.rest;
      left = rest2;
      ran = ran_by input (ran.front ++ line ∷ []) (lines_of (drop_through 10 h.rest)) (ran.turns ++ answer.turn ∷ []) goes.0 lines (more_play (newly widest_start) ran.end goes.0 ran.front ran.turns line answer.turn ran.plays goes.1.1) told (refl, ending_is) wrote2;
      stands = goes.1.0;
      count = omega (arith, h.count, length-append ran.front (line ∷ []));
    }

-- ---- the result of a run

-- it stopped for this cause
stopped : (ending : Ending) (ended : Result (Unit {0}) Cause) (cause : Cause) → cause ≢ causes.OutOfMemory → result_of ending ended ≡ Err cause → (ended ≡ Err cause) × (ending ≢ endings.OutOfMemory)
stopped endings.OutOfMemory ended cause other is = absurd (other (cc))
stopped endings.Good (Ok done) cause other is = absurd (cc)
stopped endings.Refused (Ok done) cause other is = absurd (cc)
stopped endings.Good (Err reported) cause other is = (cc, λ memory. cc)
stopped endings.Refused (Err reported) cause other is = (cc, λ memory. cc)

module _ (Told : List (ℕ × LineFault) → Type 0) (was is : Option (List ℕ)) where
  pub is_verdict : (ending : Ending) (ended : Result (Unit {0}) Cause) (old : Option (List ℕ)) → IfSome old (λ input. RanUntil ended input Told was is ending) → IfOk (result_of ending ended) (λ verdict. IfSome old (λ input. Ran input Told was is (verdict_ending verdict)))
  is_verdict endings.OutOfMemory ended old h = tt
  is_verdict endings.Good (Ok done) old h = h
  is_verdict endings.Refused (Ok done) old h = h
  is_verdict endings.Good (Err cause) old h = tt
  is_verdict endings.Refused (Err cause) old h = tt

  pub if_ended : (ending : Ending) (ended : Result (Unit {0}) Cause) (Holds : Type 0) → OnOk ended Holds → OnOk (result_of ending ended) Holds
  if_ended endings.OutOfMemory ended Holds h = tt
  if_ended endings.Good (Ok done) Holds h = h
  if_ended endings.Refused (Ok done) Holds h = h
  if_ended endings.Good (Err cause) Holds h = tt
  if_ended endings.Refused (Err cause) Holds h = tt

  has_memory : (ending : Ending) → ending ≢ endings.OutOfMemory → (Wrote : List ℕ → Type 0) (old : Option (List ℕ)) → IfSome old (λ input. RanSome input Told (λ back said. said ≡ ending) Wrote) → IfSome old (λ input. RanSome input Told HasMemory Wrote)
  has_memory ending memory Wrote None h = tt
  has_memory ending memory Wrote (Some input) h = so input (λ back said same. subst (λ (e : Ending). e ≢ endings.OutOfMemory) (sym same) memory) (λ text wrote. wrote) h

  pub is_read : (ending : Ending) (ended : Result (Unit {0}) Cause) (old : Option (List ℕ)) → IfSome old (λ input. RanUntil ended input Told was is ending) → result_of ending ended ≡ Err causes.CannotRead → IfSome old (λ input. RanSome input Told HasMemory (Appends was is))
  is_read ending ended old h e =
      let s = stopped ending ended causes.CannotRead (λ memory. cc) e in
      has_memory ending s.1 (Appends was is) old (subst (λ (r : Result (Unit {0}) Cause). IfSome old (λ input. RanUntil r input Told was is ending)) s.0 h)

  pub is_failed : (ending : Ending) (ended : Result (Unit {0}) Cause) (old : Option (List ℕ)) → IfSome old (λ input. RanUntil ended input Told was is ending) → result_of ending ended ≡ Err causes.CannotWrite → IfSome old (λ input. RanSome input Told HasMemory (WroteSome was is))
  is_failed ending ended old h e =
      let s = stopped ending ended causes.CannotWrite (λ memory. cc) e in
      has_memory ending s.1 (WroteSome was is) old (subst (λ (r : Result (Unit {0}) Cause). IfSome old (λ input. RanUntil r input Told was is ending)) s.0 h)

  pub is_out : (ending : Ending) (ended : Result (Unit {0}) Cause) (old : Option (List ℕ)) → IfSome old (λ input. RanUntil ended input Told was is ending) → result_of ending ended ≡ Err causes.OutOfMemory → IfSome old (λ input. RanOut input Told was is)
  is_out ending ended None h e = tt
  is_out ending (Err causes.OutOfMemory) (Some input) h e = before_line (so input (λ back said k. k.0) (λ text wrote. wrote) h)
  is_out endings.OutOfMemory (Ok done) (Some input) h e = after_answer (so input (λ back said k. k.1) (all_written was is) h)
  is_out endings.OutOfMemory (Err causes.CannotRead) (Some input) h e = after_answer (so input (λ back said k. k) (all_written was is) h)
  is_out endings.OutOfMemory (Err causes.CannotWrite) (Some input) h e = after_answer h
  is_out endings.Good (Ok done) (Some input) h e = absurd (cc)
  is_out endings.Good (Err causes.CannotRead) (Some input) h e = absurd (cc)
  is_out endings.Good (Err causes.CannotWrite) (Some input) h e = absurd (cc)
  is_out endings.Refused (Ok done) (Some input) h e = absurd (cc)
  is_out endings.Refused (Err causes.CannotRead) (Some input) h e = absurd (cc)
  is_out endings.Refused (Err causes.CannotWrite) (Some input) h e = absurd (cc)
