-- What one line results in, and what it leaves.
use Rattle.std.proofs.Common.{◌≡◌, ◌<◌, [], ℕ, Bool, true, false, List, ◌∷◌, Ok, Err, Some, None, Option, Result, arith, drop, inl, inr, length, refl, subst, sym, take}
use Rattle.std.specs.Prelude.{IfOk, IfSome, codes}
use Rattle.std.specs.Io.BufRead.{strip_last}
use Rattle.store_lines.specs.Grammar.{command_at}
use Rattle.store_lines.specs.inner.Answers.{reported_text}
use Rattle.store_lines.specs.Script.{bad, skipped}
use Rattle.store_lines.specs.declared.answer.Answer.{Answer}
use Rattle.store_lines.specs.inner.Requests.{IsFound, IsLineOf, IsOwnOrScript, IsSessionLine}
use Rattle.store_lines.specs.Requests.{request_in}
use Rattle.store_lines.specs.Session.{IsShort, SessionTurn, as_script, filed, reported_as, session_turn_text}
use Rattle.edge.specs.declared.lines.LineRead.{LineRead}
use Rattle.store_lines.specs.declared.request.Request.{Request}
use Rattle.store_lines.specs.declared.request.Filing.{Filing}
use Rattle.store_lines.specs.declared.request.RawPart.{RawPart}
use Rattle.store_lines.specs.declared.request.Request.TheVariants.{File, PutRaw}
use Rattle.store_lines.specs.declared.bad_lines.LineFault.{LineFault}
use Rattle.store_lines.specs.declared.session_line.Line.{Line}
use Rattle.store_lines.specs.declared.session_line.Line.TheVariants as lines
use Rattle.store_lines.specs.Access.{SessionState, Reach}
use Rattle.store_lines.specs.Filing.{FileTurn}
use Rattle.store_lines.specs.Owning.{Session, session_of}
use Rattle.store_lines.specs.declared.owning.OwnUploads.{OwnUploads}
use Rattle.store_lines.specs.declared.owning.UploadsAtEnd.{UploadsAtEnd}
use Rattle.store_lines.proofs.Under.{Noted}
use Rattle.store_lines.specs.inner.Reporting.{FilesOver, LeavesLineOver, LeavesOver, Notes, ReceivesOver, ReportedOver, ServesLineOver, ServesOver, ServesReadOver, ServesRequestOver}
use Rattle.store_lines.specs.Turns.{IsCut, IsLinkedBytes, IsLinkedRequest, IsLinkedScriptLine}
use Rattle.store_lines.proofs.Read.{found}
use Rattle.store_lines.proofs.Reports.{plays, put_reported, script_turn}

-- ---- a request

pub served_by : (now : Option (List ℕ)) (Wrote : List ℕ → Type 0) (session : Session) (was is : SessionState → Type 0) (Has : SessionTurn → Type 0) (request : Request) (Is : SessionState → SessionTurn → SessionState → Type 0)
    → ((whole following : List ℕ) (before : SessionState) (turn : SessionTurn) (after : SessionState) → Is before turn after → IsLinkedRequest session before (Some request) whole following turn after following × Has turn) → ReportedOver was is Is Wrote
    → IfSome now (λ following. ServesRequestOver session was is Has true request following now Wrote)
served_by None Wrote session was is Has request Is does t = tt
served_by (Some following) Wrote session was is Has request Is does t = record {
  serves = λ whole. (
    following,
    (
      refl,
      record {
        turn = t.turn;
        goes = λ before session. let g = t.goes before session in (g.0, (g.1.0, does whole following before t.turn g.0 g.1.1));
        wrote = t.wrote;
      },
    ),
  );
}

pub served_raw : (now left : Option (List ℕ)) (Wrote : List ℕ → Type 0) (session : Session) (was is : SessionState → Type 0) (Has : SessionTurn → Type 0) (part : RawPart) (got : Option Answer) (answer : Answer) → got ≡ Some answer
    → ((bytes : List ℕ) (before : SessionState) (turn : SessionTurn) (after : SessionState) → IsLinkedBytes session.reach before part.upload part.offset bytes turn after → Has turn) → IfSome now (λ following. ReceivesOver session.reach was is got part.upload part.offset part.len following left)
    → Wrote (reported_text [] answer) → IfSome now (λ following. ServesRequestOver session was is Has true (PutRaw part) following left Wrote)
served_raw None left Wrote session was is Has part got answer same has h wrote = tt
served_raw (Some following) left Wrote session was is Has part got answer same has h wrote =
    let h2 = subst (λ (o : Option Answer). ReceivesOver session.reach was is o part.upload part.offset part.len following left) same h in
    let t = put_reported session.reach was is part.upload part.offset (take part.len following) answer Wrote h2.2 wrote in
    record {
      serves = λ whole. (
        drop part.len following,
        (
          h2.1,
          record {
            turn = t.turn;
            goes = λ before stood. let g = t.goes before stood in (g.0, (g.1.0, ((g.1.1, h2.0, refl), has (take part.len following) before t.turn g.0 g.1.1)));
            wrote = t.wrote;
          },
        ),
      );
    }

-- a file
pub served_file : (now left : Option (List ℕ)) (Wrote : List ℕ → Type 0) (session : Session) (was is : SessionState → Type 0) (Has : SessionTurn → Type 0) (filing : Filing) (got : Option Answer) (answer : Answer) → got ≡ Some answer → ((turns : FileTurn) → Has (filed turns))
    → IfSome now (λ following. FilesOver session.reach was is got filing following left) → Wrote (reported_text [] answer) → IfSome now (λ following. ServesRequestOver session was is Has true (File filing) following left Wrote)
served_file None left Wrote session was is Has filing got answer same has h wrote = tt
served_file (Some following) left Wrote session was is Has filing got answer same has h wrote =
    let h2 = subst (λ (o : Option Answer). FilesOver session.reach was is o filing following left) same h in
    record {
      serves = λ whole. (
        drop filing.len following,
        (
          h2.1,
          record {
            turn = filed h2.2.turns;
            goes = λ before stood. let g = h2.2.goes before stood in (g.0, (g.1.0, ((g.1.1, h2.0, refl), has h2.2.turns)));
            wrote = subst Wrote (h2.2.text_is []) wrote;
          },
        ),
      );
    }

-- ---- a line

not_short : (line following : List ℕ) (request : Request) → Some request ≡ command_at line → IsShort (Some request) following → ⊥
not_short line following (PutRaw part) is h = found line (PutRaw part) (sym is)
not_short line following (File filing) is h = found line (File filing) (sym is)
not_short line following _ is h = h

not_cut : (reach : Reach) (old new : SessionState) (line following : List ℕ) (request : Request) → Some request ≡ command_at line → IsCut reach old (Some request) following new → ⊥
not_cut reach old new line following (File filing) is h = found line (File filing) (sym is)
not_cut reach old new line following _ is h = h

has_left : (whole following : List ℕ) (reach : Reach) (was is : SessionState → Type 0) (request : Request) → IsOwnOrScript whole (lines.Has request) → LeavesOver reach was is (Some request) following → LeavesOver reach was is (request_in whole) following
has_left whole following reach was is request (inl own) l = subst (λ (q : Option Request). LeavesOver reach was is q following) own l
has_left whole following reach was is request (inr of) l =
    let read : (0 < length (strip_last 10 whole)) × (Some request ≡ command_at (strip_last 10 whole)) = of.1 in
    record {
      leaves = λ before session.
          let k = l.leaves before session in
          (k.0, (elim k.1.0 [ inl kept ↦ inl kept | inr cut ↦ absurd (not_cut reach before k.0 (strip_last 10 whole) following request read.1 cut) ], k.1.1));
    }

pub left_has : (now : Option (List ℕ)) (reach : Reach) (was is : SessionState → Type 0) (line : Line) (request : Request) → line ≡ lines.Has request → IfSome now (λ following. LeavesOver reach was is (Some request) following) → IfSome now (λ following. LeavesLineOver reach was is line following)
left_has None reach was is line request same l = tt
left_has (Some following) reach was is line request same l = record { leaves = λ whole own. has_left whole following reach was is request (subst (IsOwnOrScript whole) same own) l }

has_served : (is_whole : Bool) (whole following : List ℕ) (left : Option (List ℕ)) (Wrote : List ℕ → Type 0) (session : Session) (was is : SessionState → Type 0) (Has : SessionTurn → Type 0) (request : Request) → IsOwnOrScript whole (lines.Has request) → ServesOver session was is Has is_whole (Some request) whole following left Wrote
    → ServesOver session was is Has is_whole (request_in whole) whole following left Wrote
has_served is_whole whole following left Wrote session was is Has request (inl own) h = subst (λ (q : Option Request). ServesOver session was is Has is_whole q whole following left Wrote) own h
has_served true whole following left Wrote session was is Has request (inr of) h =
    let t = h.1.1 in
    let read : (0 < length (strip_last 10 whole)) × (Some request ≡ command_at (strip_last 10 whole)) = of.1 in (
      h.0,
      (
        h.1.0,
        record {
          turn = t.turn;
          goes = λ before stood.
              let g = t.goes before stood in
              (g.0, (g.1.0, (subst (λ (q : Option Request). IsLinkedRequest session before q whole following t.turn g.0 h.0) of.0 (script_turn session before g.0 (strip_last 10 whole) whole following h.0 request t.turn read.0 read.1 g.1.1.0), g.1.1.1)));
          wrote = t.wrote;
        },
      ),
    )
has_served false whole following left Wrote session was is Has request (inr of) h =
    let read : (0 < length (strip_last 10 whole)) × (Some request ≡ command_at (strip_last 10 whole)) = of.1 in
    absurd (not_short (strip_last 10 whole) following request read.1 h.0)

pub served_has : (is_whole : Bool) (now left : Option (List ℕ)) (Wrote : List ℕ → Type 0) (session : Session) (was is : SessionState → Type 0) (Has : SessionTurn → Type 0) (line : Line) (request : Request) → line ≡ lines.Has request
    → IfSome now (λ following. ServesRequestOver session was is Has is_whole request following left Wrote) → IfSome now (λ following. ServesLineOver session was is Has is_whole line following left Wrote)
served_has is_whole None left Wrote session was is Has line request same h = tt
served_has is_whole (Some following) left Wrote session was is Has line request same h = record {
  serves = λ whole own. has_served is_whole whole following left Wrote session was is Has request (subst (IsOwnOrScript whole) same own) (h.serves whole);
}

pub served_has_ok : {E : Type 0} (r : Result Bool E) (now left : Option (List ℕ)) (Wrote : List ℕ → Type 0) (session : Session) (was is : SessionState → Type 0) (Has : SessionTurn → Type 0) (line : Line) (request : Request) → line ≡ lines.Has request
    → IfOk r (λ is_whole. IfSome now (λ following. ServesRequestOver session was is Has is_whole request following left Wrote)) → IfOk r (λ is_whole. IfSome now (λ following. ServesLineOver session was is Has is_whole line following left Wrote))
served_has_ok (Err e) now left Wrote session was is Has line request same h = tt
served_has_ok (Ok is_whole) now left Wrote session was is Has line request same h = served_has is_whole now left Wrote session was is Has line request same h

-- the turn of a line without a request
line_served : (now : Option (List ℕ)) (Wrote : List ℕ → Type 0) (session : Session) (was : SessionState → Type 0) (Has : SessionTurn → Type 0) (line : Line) (turn : SessionTurn) → ((whole : List ℕ) → IsOwnOrScript whole line → (None ≡ request_in whole) × IsLineOf (strip_last 10 whole) line)
    → ((text : List ℕ) (before : SessionState) → IsLineOf text line → IsLinkedScriptLine session before text turn before) → Has turn → Wrote (session_turn_text turn) → IfSome now (λ following. ServesLineOver session was was Has true line following now Wrote)
line_served None Wrote session was Has line turn script goes has wrote = tt
line_served (Some following) Wrote session was Has line turn script goes has wrote = record {
  serves = λ whole own.
      let of = script whole own in (
        following,
        (
          refl,
          record {
            turn = turn;
            goes = λ before stood. (before, (stood, (subst (λ (q : Option Request). IsLinkedRequest session before q whole following turn before following) of.0 (goes (strip_last 10 whole) before of.1, refl), has)));
            wrote = wrote;
          },
        ),
      );
}

empty_turn : (session : Session) (text : List ℕ) (before : SessionState) → length text ≡ 0 → IsLinkedScriptLine session before text (reported_as as_script skipped) before
empty_turn session [] before none = (refl, (refl, refl))
empty_turn session (b ∷ text) before none = absurd (omega (arith, none))

pub served_empty : (now : Option (List ℕ)) (Wrote : List ℕ → Type 0) (session : Session) (was : SessionState → Type 0) (Has : SessionTurn → Type 0) (line : Line) → line ≡ lines.Empty → Has (reported_as as_script skipped) → Wrote [] → IfSome now (λ following. ServesLineOver session was was Has true line following now Wrote)
served_empty now Wrote session was Has line same has wrote =
    subst (λ (l : Line). IfSome now (λ following. ServesLineOver session was was Has true l following now Wrote)) (sym same)
    (line_served now Wrote session was Has lines.Empty (reported_as as_script skipped) (λ whole h. h) (λ text before none. empty_turn session text before none) has wrote)

pub served_bad : (now : Option (List ℕ)) (Wrote : List ℕ → Type 0) (session : Session) (was : SessionState → Type 0) (Has : SessionTurn → Type 0) (line : Line) (fault : LineFault) → line ≡ lines.Bad fault → Has (reported_as as_script bad) → Wrote (codes "bad\n") → IfSome now (λ following. ServesLineOver session was was Has true line following now Wrote)
served_bad now Wrote session was Has line fault same has wrote =
    subst (λ (l : Line). IfSome now (λ following. ServesLineOver session was was Has true l following now Wrote)) (sym same)
    (line_served now Wrote session was Has (lines.Bad fault) (reported_as as_script bad) (λ whole h. h) (λ text before is. (refl, plays session.reach before before text bad None is.0 is.1 (refl, refl))) has wrote)

-- a line that was read, after which the session's own uploads are noted
pub noted_read : (reach : Reach) (uploads : UploadsAtEnd) (was is : SessionState → Type 0) (old new : OwnUploads) (is_whole : Bool) (now left : Option (List ℕ)) (Wrote : List ℕ → Type 0) (read : LineRead) (slice kept : List ℕ) (line : Line) → old.at_end ≡ uploads → slice ≡ kept → IsFound read slice line
    → IfSome now (λ following. ServesLineOver (session_of reach old.at_end) was is (Notes old new) is_whole line following left Wrote) → IfSome now (λ following. ServesReadOver (session_of reach uploads) was is (Noted (session_of reach uploads) old.numbers.items new.numbers.items) is_whole read kept following left Wrote)
noted_read reach uploads was is old new is_whole None left Wrote read slice kept line same_end same f h = tt
noted_read reach uploads was is old new is_whole (Some following) left Wrote read slice kept line same_end same f h =
    subst (λ (u : UploadsAtEnd). ServesReadOver (session_of reach u) was is (Noted (session_of reach u) old.numbers.items new.numbers.items) is_whole read kept following left Wrote) same_end
    (record { serves = λ whole r. h.serves whole (f.is whole (subst (λ (k : List ℕ). IsSessionLine whole read k) (sym same) r)) })
