-- What lines take of an input.
use Rattle.std.proofs.Common.{◌≡◌, ◌∙◌, ◌∷◌, [], ℕ, List, Some, None, Option, arith, length, subst, sym}
use Rattle.std.specs.Io.BufRead.{drop_through, take_through}
use Rattle.store_lines.specs.Access.{Reach, SessionState}
use Rattle.store_lines.specs.Owning.{Session, session_of}
use Rattle.store_lines.specs.Turns.{AreLinkedTurns, FramesAlike, IsLinkedRequest}
use Rattle.store_lines.specs.Requests.{request_in}
use Rattle.store_lines.specs.Session.{SessionTurn}
use Rattle.store_lines.specs.declared.request.Request.{Request}
use Rattle.store_lines.specs.declared.request.Request.TheVariants.{Asks, Does, Entries, Fetch, File, Put, PutRaw}

module _ (session : Session) where
  one_rest : (old new old2 new2 : SessionState) (request : Option Request) (whole following : List ℕ) (turn turn2 : SessionTurn) (rest rest2 : List ℕ)
      → IsLinkedRequest session old request whole following turn new rest → IsLinkedRequest session old2 request whole following turn2 new2 rest2 → rest ≡ rest2
  one_rest old new old2 new2 None whole following turn turn2 rest rest2 h k = h.1 ∙ sym k.1
  one_rest old new old2 new2 (Some (Does command)) whole following turn turn2 rest rest2 h k = h.1 ∙ sym k.1
  one_rest old new old2 new2 (Some (Put part)) whole following turn turn2 rest rest2 h k = h.1 ∙ sym k.1
  one_rest old new old2 new2 (Some (PutRaw part)) whole following turn turn2 rest rest2 h k = h.2 ∙ sym k.2
  one_rest old new old2 new2 (Some (File filing)) whole following turn turn2 rest rest2 h k = h.2 ∙ sym k.2
  one_rest old new old2 new2 (Some (Fetch wanted)) whole following turn turn2 rest rest2 h k = h.1 ∙ sym k.1
  one_rest old new old2 new2 (Some (Asks question)) whole following turn turn2 rest rest2 h k = h.1 ∙ sym k.1
  one_rest old new old2 new2 (Some (Entries range)) whole following turn turn2 rest rest2 h k = h.1 ∙ sym k.1

  framed : (old new old2 new2 : SessionState) (input : List ℕ) (turns turns2 : List SessionTurn) (rest rest2 : List ℕ)
      → AreLinkedTurns session old input turns new rest → AreLinkedTurns session old2 input turns2 new2 rest2 → length turns ≡ length turns2 → rest ≡ rest2
  framed old new old2 new2 input [] [] rest rest2 h k same = h.1 ∙ sym k.1
  framed old new old2 new2 input [] (u ∷ us) rest rest2 h k same = absurd (omega arith)
  framed old new old2 new2 input (t ∷ ts) [] rest rest2 h k same = absurd (omega arith)
  framed old new old2 new2 input (t ∷ ts) (u ∷ us) rest rest2 h k same =
      let one : h.1 ≡ k.1 = one_rest old h.0 old2 k.0 (request_in (take_through 10 input)) (take_through 10 input) (drop_through 10 input) t u h.1 k.1 h.2.2 k.2.2 in
      let from : AreLinkedTurns session k.0 h.1 us new2 rest2 = subst (λ (b : List ℕ). AreLinkedTurns session k.0 b us new2 rest2) (sym one) k.3 in
      framed h.0 new k.0 new2 h.1 ts us rest rest2 h.3 from (omega arith)

pub frames : (reach : Reach) → FramesAlike reach
frames reach uploads = framed (session_of reach uploads)
