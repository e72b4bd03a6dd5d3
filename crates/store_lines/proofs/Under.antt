-- How far a session has come.
use Rattle.std.proofs.Common.{◌≡◌, ◌∙◌, ◌<◌, ◌++◌, ◌∷◌, [], ℕ, Bool, true, false, List, Some, None, Option, ◌⊎◌, ap, append-nil, arith, cond, eqb, inl, inr, length, refl, slice_index, subst, suc, sym, ◌-◌}
use Rattle.std.specs.Prelude.{IfSome}
use Rattle.std.specs.List.{flat_map}
use Rattle.std.specs.Io.BufRead.{DropsThrough, drop_through, take_through}
use Rattle.std.specs.Io.KnownBytes.{Appends, IsAtEnd}
use Rattle.std.proofs.lemmas.Bool.{eqb-true}
use Rattle.std.proofs.BufReadLemmas.{take_through-nil, take_through_nonempty}
use Rattle.std.proofs.KnownBytes.{Appends-nil, Appends-trans}
use Rattle.edge.specs.declared.outcome.Verdict.TheVariants as verdicts
use Rattle.std.proofs.lemmas.List.Concat.{flat_map-append}
use Rattle.store_lines.specs.inner.Requests.{IsSessionLine}
use Rattle.store_lines.specs.Requests.{request_in}
use Rattle.store_lines.specs.Session.{SessionTurn, session_turn_text}
use Rattle.edge.specs.Lines.{HasNewline}
use Rattle.edge.specs.declared.lines.LineRead.{LineRead}
use Rattle.store_lines.specs.Access.{SessionState, Reach}
use Rattle.store_lines.specs.declared.request.Request.{Request}
use Rattle.store_lines.specs.declared.session_line.Line.{Line}
use Rattle.store_lines.specs.inner.Requests.{IsFound}
use Rattle.store_lines.specs.Owning.{Session, own_after, own_of}
use Rattle.store_lines.specs.inner.Reporting.{LeavesLineOver, LeavesOver, Owns, ServesOver, ServesReadOver}
use Rattle.store_lines.proofs.Owned.{own_more}
use Rattle.store_lines.specs.Turns.{AreLinkedTurns, IsLinkedFirstLine, ServedAllOver, ServedSomeOver}

-- the lines before the rest were served: what they came to, the session's own uploads, and what was written
pub record IsUnder (session : Session) (was is : SessionState → Type 0) (own : List ℕ) (now : Option (List ℕ)) (Wrote : List ℕ → Type 0) (input : List ℕ) : Type 0 where
  pub rest : List ℕ
  pub left : now ≡ Some rest
  pub turns : List SessionTurn
  pub plays : (start : SessionState) → was start → (end : SessionState) × (is end × AreLinkedTurns session start input turns end rest × (own ≡ own_of session.at_end turns))
  pub wrote : Wrote (flat_map session_turn_text turns)

pub more_play : (session : Session) (old mid new : SessionState) (input following rest : List ℕ) (turns : List SessionTurn) (turn : SessionTurn) → AreLinkedTurns session old input turns mid following → IsLinkedFirstLine session mid following turn new rest → AreLinkedTurns session old input (turns ++ turn ∷ []) new rest
more_play session old mid new input following rest [] turn h p =
    let from : IsLinkedFirstLine session old input turn new rest = subst (λ (k : SessionState). IsLinkedFirstLine session k input turn new rest) h.0 (subst (λ (b : List ℕ). IsLinkedFirstLine session mid b turn new rest) h.1 p) in
    (new, rest, from, (refl, refl))
more_play session old mid new input following rest (t ∷ turns) turn h p = (h.0, h.1, h.2, more_play session h.0 mid new h.1 following rest turns turn h.3 p)

pub text_more : (turns : List SessionTurn) (turn : SessionTurn) → flat_map session_turn_text (turns ++ turn ∷ []) ≡ flat_map session_turn_text turns ++ session_turn_text turn
text_more turns turn = flat_map-append session_turn_text turns (turn ∷ []) ∙ ap (λ xs. flat_map session_turn_text turns ++ xs) (append-nil (session_turn_text turn))

-- the session's own uploads after one more turn
abbrev pub Noted : Session → List ℕ → List ℕ → SessionTurn → Type 0
Noted session own new turn = new ≡ own_after own turn session.at_end

pub noted : (session : Session) (own new : List ℕ) (turns : List SessionTurn) (turn : SessionTurn) → own ≡ own_of session.at_end turns → Noted session own new turn → new ≡ own_of session.at_end (turns ++ turn ∷ [])
noted session own new turns turn is n = n ∙ (ap (λ (o : List ℕ). own_after o turn session.at_end) is ∙ sym (own_more session.at_end turns turn))

-- nothing is done between two lines
rests : (reach : Reach) (is : SessionState → Type 0) (request : Option Request) (following : List ℕ) → LeavesOver reach is is request following
rests reach is request following = record { leaves = λ before session. (before, (inl (before.store, inl refl, refl), session)) }

-- what the first line of the rest left, which was not answered
abbrev pub LeftBy : Reach → (SessionState → Type 0) → (SessionState → Type 0) → List ℕ → Type 0
LeftBy reach was is rest = LeavesOver reach was is (request_in (take_through 10 rest)) (drop_through 10 rest)

pub unread : (reach : Reach) (is : SessionState → Type 0) (now : Option (List ℕ)) → IfSome now (λ rest. LeftBy reach is is rest)
unread reach is None = tt
unread reach is (Some rest) = rests reach is (request_in (take_through 10 rest)) (drop_through 10 rest)

-- what a line left that was read like this
pub left_read : (reach : Reach) (was is : SessionState → Type 0) (now then : Option (List ℕ)) (read : LineRead) (kept : List ℕ) (line : Line) → IsFound read kept line → IfSome now (λ left. IsSessionLine (take_through 10 left) read kept) → DropsThrough now then 10
    → IfSome then (λ following. LeavesLineOver reach was is line following) → IfSome now (λ rest. LeftBy reach was is rest)
left_read reach was is None then read kept line f r drops l = tt
left_read reach was is (Some rest) then read kept line f r drops l =
    let l2 = subst (λ (o : Option (List ℕ)). IfSome o (λ following. LeavesLineOver reach was is line following)) drops l in
    l2.leaves (take_through 10 rest) (f.is (take_through 10 rest) r)

pub begun : (session : Session) (was : SessionState → Type 0) (own : List ℕ) (old w : Option (List ℕ)) → own ≡ [] → IfSome old (IsUnder session was was own old (Appends w w))
begun session was own None w none = tt
begun session was own (Some input) w none = record { rest = input; left = refl; turns = []; plays = λ start stood. (start, (stood, (refl, refl), none)); wrote = Appends-nil w }

-- the lines before the rest were answered, and the next one left this
abbrev pub answered : (session : Session) (was mid is : SessionState → Type 0) (own : List ℕ) (now : Option (List ℕ)) (input : List ℕ) (Wrote Wrote2 : List ℕ → Type 0) (h : IsUnder session was mid own now Wrote input) → LeftBy session.reach mid is h.rest → Wrote2 (flat_map session_turn_text h.turns) → ServedSomeOver session was (Owns session is own) input Wrote2
answered session was mid is own now input Wrote Wrote2 h l wrote = record {
  turns = h.turns;
  rest = h.rest;
  plays = λ start stood. let p = h.plays start stood in let k = l.leaves p.0 p.1.0 in (p.0, (p.1.1, (k.0, (k.1.0, (k.1.1, p.1.2)))));
  wrote = wrote;
}

pub stopped : (session : Session) (was mid is : SessionState → Type 0) (own : List ℕ) (old now : Option (List ℕ)) (Wrote : List ℕ → Type 0) → IfSome old (IsUnder session was mid own now Wrote) → IfSome now (λ rest. LeftBy session.reach mid is rest) → IfSome old (λ input. ServedSomeOver session was (Owns session is own) input Wrote)
stopped session was mid is own None now Wrote h l = tt
stopped session was mid is own (Some input) now Wrote h l =
    let left : LeftBy session.reach mid is h.rest = subst (λ (o : Option (List ℕ)). IfSome o (λ rest. LeftBy session.reach mid is rest)) h.left l in
    answered session was mid is own now input Wrote Wrote h left h.wrote

pub at_end : (session : Session) (was is : SessionState → Type 0) (own : List ℕ) (old now w1 w2 : Option (List ℕ)) (read : LineRead) (kept : List ℕ) → IfSome old (IsUnder session was is own now (Appends w1 w2)) → IfSome now (λ left. IsSessionLine (take_through 10 left) read kept) → read.count ≡ 0
    → IfSome old (λ input. ServedAllOver session was (Owns session is own) input w1 w2 verdicts.Good)
at_end session was is own None now w1 w2 read kept h r none = tt
at_end session was is own (Some input) now w1 w2 read kept h r none =
    let read2 : IsSessionLine (take_through 10 h.rest) read kept = subst (λ (o : Option (List ℕ)). IfSome o (λ left. IsSessionLine (take_through 10 left) read kept)) h.left r in
    let nothing : h.rest ≡ [] = take_through-nil 10 h.rest (omega (arith, read2.count_is, none)) in
    record { served = answered session was is is own now input (Appends w1 w2) (Appends w1 w2) h (rests session.reach is (request_in (take_through 10 h.rest)) (drop_through 10 h.rest)) h.wrote; ends = nothing }

-- a newline is the last byte of a longer line too
onto : (b : ℕ) (line : List ℕ) → HasNewline line → HasNewline (b ∷ line)
onto b [] has = absurd (omega (arith, has.0))
onto b (x ∷ line) has =
    let last : suc (length (x ∷ line) - 1) ≡ length (b ∷ x ∷ line) - 1 = omega arith in
    (omega arith, subst (λ (j : ℕ). slice_index (b ∷ x ∷ line) j ≡ 10) last has.1)

-- nothing is left after a line without a newline
no_newline : (bytes : List ℕ) → (HasNewline (take_through 10 bytes) → ⊥) → drop_through 10 bytes ≡ []
no_newline [] lacks = refl
no_newline (b ∷ bytes) lacks = by_test (eqb b 10) refl lacks (λ later. no_newline bytes later)
  where
    by_test : (t : Bool) → eqb b 10 ≡ t → (HasNewline (cond t (b ∷ []) (b ∷ take_through 10 bytes)) → ⊥) → ((HasNewline (take_through 10 bytes) → ⊥) → drop_through 10 bytes ≡ []) → cond t bytes (drop_through 10 bytes) ≡ []
    by_test true same none later = absurd (none (omega arith, eqb-true b 10 same))
    by_test false other none later = later (λ has. none (onto b (take_through 10 bytes) has))

-- the reader is at its end
pub all_read : (session : Session) (was is : SessionState → Type 0) (own : List ℕ) (old now then w1 w2 : Option (List ℕ)) (read : LineRead) (kept : List ℕ) → IfSome old (IsUnder session was is own now (Appends w1 w2)) → IfSome now (λ left. IsSessionLine (take_through 10 left) read kept)
    → DropsThrough now then 10 → (read.count ≡ 0) ⊎ (read.is_ended ≡ false) → IfSome old (λ _. IsAtEnd then)
all_read session was is own None now then w1 w2 read kept h r drops last = tt
all_read session was is own (Some input) now then w1 w2 read kept h r drops last =
    let read2 : IsSessionLine (take_through 10 h.rest) read kept = subst (λ (o : Option (List ℕ)). IfSome o (λ left. IsSessionLine (take_through 10 left) read kept)) h.left r in
    let then_is : then ≡ Some (drop_through 10 h.rest) = subst (λ (o : Option (List ℕ)). DropsThrough o then 10) h.left drops in
    let lacks : HasNewline (take_through 10 h.rest) → ⊥ = elim last [ inl none ↦ (λ has. omega (arith, read2.count_is, none, has.0)) | inr unended ↦ read2.unended unended ] in
    subst IsAtEnd (sym then_is) (no_newline h.rest lacks)

-- a line lacks the newline that it needs
pub unended : (session : Session) (was is : SessionState → Type 0) (own : List ℕ) (old now w1 w2 : Option (List ℕ)) (read : LineRead) (kept : List ℕ) → IfSome old (IsUnder session was is own now (Appends w1 w2)) → IfSome now (λ left. IsSessionLine (take_through 10 left) read kept) → 0 < read.count
    → session.reach.needs_newline ≡ true → read.is_ended ≡ false → IfSome old (λ input. ServedAllOver session was (Owns session is own) input w1 w2 verdicts.Refused)
unended session was is own None now w1 w2 read kept h r some needs lacks = tt
unended session was is own (Some input) now w1 w2 read kept h r some needs lacks =
    let read2 : IsSessionLine (take_through 10 h.rest) read kept = subst (λ (o : Option (List ℕ)). IfSome o (λ left. IsSessionLine (take_through 10 left) read kept)) h.left r in
    record {
      served = answered session was is is own now input (Appends w1 w2) (Appends w1 w2) h (rests session.reach is (request_in (take_through 10 h.rest)) (drop_through 10 h.rest)) h.wrote;
      ends = inr (needs, take_through_nonempty 10 h.rest (omega (arith, read2.count_is, some)), read2.unended lacks);
    }

pub some_left : (rest : List ℕ) (read : LineRead) (kept : List ℕ) → IsSessionLine (take_through 10 rest) read kept → 0 < read.count → 0 < length rest
some_left rest read kept r some = take_through_nonempty 10 rest (omega (arith, r.count_is, some))

-- what a line that was read came to
pub served_now : (session : Session) (was is : SessionState → Type 0) (Has : SessionTurn → Type 0) (now then left : Option (List ℕ)) (Wrote : List ℕ → Type 0) (rest : List ℕ) (read : LineRead) (kept : List ℕ) (is_whole : Bool) → now ≡ Some rest → IfSome now (λ left. IsSessionLine (take_through 10 left) read kept)
    → DropsThrough now then 10 → IfSome then (λ following. ServesReadOver session was is Has is_whole read kept following left Wrote) → ServesOver session was is Has is_whole (request_in (take_through 10 rest)) (take_through 10 rest) (drop_through 10 rest) left Wrote
served_now session was is Has now then left Wrote rest read kept is_whole at r drops served =
    let read2 : IsSessionLine (take_through 10 rest) read kept = subst (λ (o : Option (List ℕ)). IfSome o (λ l. IsSessionLine (take_through 10 l) read kept)) at r in
    let then_is : then ≡ Some (drop_through 10 rest) = subst (λ (o : Option (List ℕ)). DropsThrough o then 10) at drops in
    let served2 = subst (λ (o : Option (List ℕ)). IfSome o (λ following. ServesReadOver session was is Has is_whole read kept following left Wrote)) then_is served in
    served2.serves (take_through 10 rest) read2

pub truncated : (session : Session) (was mid is : SessionState → Type 0) (own : List ℕ) (Has : SessionTurn → Type 0) (old now then left w1 w2 w3 : Option (List ℕ)) (read : LineRead) (kept : List ℕ) (is_whole : Bool) → is_whole ≡ false → IfSome old (IsUnder session was mid own now (Appends w1 w2))
    → IfSome now (λ left. IsSessionLine (take_through 10 left) read kept) → DropsThrough now then 10 → IfSome then (λ following. ServesReadOver session mid is Has is_whole read kept following left (Appends w2 w3)) → IfSome old (λ input. ServedAllOver session was (Owns session is own) input w1 w3 verdicts.Refused)
truncated session was mid is own Has None now then left w1 w2 w3 read kept is_whole none h r drops served = tt
truncated session was mid is own Has (Some input) now then left w1 w2 w3 read kept is_whole none h r drops served =
    let whole = take_through 10 h.rest in
    let following = drop_through 10 h.rest in
    let served1 = served_now session mid is Has now then left (Appends w2 w3) h.rest read kept is_whole h.left r drops served in
    let served2 : ServesOver session mid is Has false (request_in whole) whole following left (Appends w2 w3) = subst (λ (w : Bool). ServesOver session mid is Has w (request_in whole) whole following left (Appends w2 w3)) none served1 in
    let text : flat_map session_turn_text h.turns ++ [] ≡ flat_map session_turn_text h.turns = append-nil (flat_map session_turn_text h.turns) in
    let wrote = subst (λ (t : List ℕ). Appends w1 w3 t) text (Appends-trans w1 w2 w3 (flat_map session_turn_text h.turns) [] h.wrote served2.1) in
    record { served = answered session was mid is own now input (Appends w1 w2) (Appends w1 w3) h served2.2 wrote; ends = inl served2.0 }

pub at_cut : (session : Session) (was mid is : SessionState → Type 0) (own : List ℕ) (Has : SessionTurn → Type 0) (old now then left w1 w2 : Option (List ℕ)) (Wrote : List ℕ → Type 0) (read : LineRead) (kept : List ℕ) (is_whole : Bool) → is_whole ≡ false → IfSome old (IsUnder session was mid own now (Appends w1 w2))
    → IfSome now (λ left. IsSessionLine (take_through 10 left) read kept) → DropsThrough now then 10 → IfSome then (λ following. ServesReadOver session mid is Has is_whole read kept following left Wrote) → IfSome old (λ _. IsAtEnd left)
at_cut session was mid is own Has None now then left w1 w2 Wrote read kept is_whole none h r drops served = tt
at_cut session was mid is own Has (Some input) now then left w1 w2 Wrote read kept is_whole none h r drops served =
    let whole = take_through 10 h.rest in
    let following = drop_through 10 h.rest in
    let served1 = served_now session mid is Has now then left Wrote h.rest read kept is_whole h.left r drops served in
    let served2 : ServesOver session mid is Has false (request_in whole) whole following left Wrote = subst (λ (w : Bool). ServesOver session mid is Has w (request_in whole) whole following left Wrote) none served1 in
    served2.3

unfoldable pub turned : (session : Session) (was mid is : SessionState → Type 0) (own new : List ℕ) (old now then left : Option (List ℕ)) (Wrote Wrote2 Wrote3 : List ℕ → Type 0) (read : LineRead) (kept : List ℕ) (is_whole : Bool) → is_whole ≡ true → (session.reach.needs_newline ≡ true → read.is_ended ≡ true) → ((done text : List ℕ) → Wrote done → Wrote2 text → Wrote3 (done ++ text))
    → IfSome old (IsUnder session was mid own now Wrote) → IfSome now (λ left. IsSessionLine (take_through 10 left) read kept) → 0 < read.count → DropsThrough now then 10 → IfSome then (λ following. ServesReadOver session mid is (Noted session own new) is_whole read kept following left Wrote2) → IfSome old (IsUnder session was is new left Wrote3)
turned session was mid is own new None now then left Wrote Wrote2 Wrote3 read kept is_whole all ended more h r some drops served = tt
turned session was mid is own new (Some input) now then left Wrote Wrote2 Wrote3 read kept is_whole all ended more h r some drops served =
    let whole = take_through 10 h.rest in
    let following = drop_through 10 h.rest in
    let read2 : IsSessionLine whole read kept = subst (λ (o : Option (List ℕ)). IfSome o (λ l. IsSessionLine (take_through 10 l) read kept)) h.left r in
    let served1 = served_now session mid is (Noted session own new) now then left Wrote2 h.rest read kept is_whole h.left r drops served in
    let served2 : ServesOver session mid is (Noted session own new) true (request_in whole) whole following left Wrote2 = subst (λ (w : Bool). ServesOver session mid is (Noted session own new) w (request_in whole) whole following left Wrote2) all served1 in
    let rest = served2.0 in
    let t = served2.1.1 in
    record {
      rest = rest;
      left = served2.1.0;
      turns = h.turns ++ t.turn ∷ [];
      plays = λ start stood.
          let p = h.plays start stood in
          let g = t.goes p.0 p.1.0 in
          (g.0, (g.1.0, more_play session start p.0 g.0 input h.rest rest h.turns t.turn p.1.1 (some_left h.rest read kept read2 some, (λ needs. read2.ended (ended needs)), g.1.1.0), noted session own new h.turns t.turn p.1.2 g.1.1.1));
      wrote = subst Wrote3 (sym (text_more h.turns t.turn)) (more (flat_map session_turn_text h.turns) (session_turn_text t.turn) h.wrote t.wrote);
    }
