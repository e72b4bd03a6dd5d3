-- What becomes of a file.
use Rattle.std.proofs.Common.{◌≡◌, ◌∙◌, ◌+◌, ◌*◌, ◌-◌, ◌≤◌, ◌∷◌, [], ℕ, Bool, true, false, List, Some, None, Option, Ok, Err, Result, ap, arith, drop, inl, inr, length, refl, subst, sym}
use Rattle.std.specs.Prelude.{IfOk, IfSome, OnErr}
use Rattle.std.proofs.lemmas.List.{drop-drop, length-drop}
use Rattle.store_books.specs.declared.refusal.Refusal.{Refusal}
use Rattle.store_core.specs.Runs.{Call, change}
use Rattle.store_core.specs.declared.command.Command.TheVariants as commands
use Rattle.store_core.specs.declared.store.questions.Reply.{Reply}
use Rattle.store_core.specs.declared.store.questions.Reply.TheVariants as replies
use Rattle.store_lines.specs.Access.{Reach, SessionState, Took, advance, at}
use Rattle.store_lines.specs.Filing.{IsOver, begun, closing, is_accepted, opening, unbegun}
use Rattle.store_lines.specs.Script.{Turn, took}
use Rattle.store_lines.specs.Turns.{AreLinkedSteps, IsLinkedPut, IsLinkedStep}
use Rattle.store_lines.specs.declared.answer.Answer.{Answer}
use Rattle.store_lines.specs.declared.answer.Answer.TheVariants as answers
use Rattle.store_lines.specs.declared.request.Filing.{Filing}
use Rattle.store_lines.specs.declared.request.Request.TheVariants.{File}
use Rattle.store_lines.specs.inner.Reads.{Dropped}
use Rattle.store_lines.specs.declared.filing.Filled.TheVariants as filled
use Rattle.store_lines.specs.inner.Reporting.{FiledOver, FilesOver, FillsOver, LeavesOver, NamesUpload, OutcomeOver, PutsOver, StopsOver, bytes_before}
use Rattle.store_upload.specs.Uploads.{UploadPlan, max_part_bytes}

-- ---- steps

stepped : (reach : Reach) (was is : SessionState → Type 0) (call : Call) (reply : Result Reply Refusal) → Took reach was is call reply → (before : SessionState) → was before → (after : SessionState) × (is after × IsLinkedStep reach before call (took call reply) after)
stepped reach was is call reply t before session = (advance before t.found call reply t.left, (t.stands before session, (t.found, (t.linked before session, ((refl, t.step), (refl, refl, refl, refl))))))

named : (reply : Reply) (upload : ℕ) → NamesUpload reply upload → (plan : UploadPlan) × (reply ≡ replies.Upload upload plan)
named (replies.Upload number plan) upload is = (plan, ap (λ (n : ℕ). replies.Upload n plan) (sym is))
named _ upload is = absurd is

pub took_begin : (reach : Reach) (was is : SessionState → Type 0) (filing : Filing) (reply : Reply) (upload : ℕ) → NamesUpload reply upload → Took reach was is (change (opening filing)) (Ok reply) → (plan : UploadPlan) × Took reach was is (change (opening filing)) (Ok (replies.Upload upload plan))
took_begin reach was is filing reply upload names t = let n = named reply upload names in (n.0, subst (λ (r : Reply). Took reach was is (change (opening filing)) (Ok r)) n.1 t)

pub sealed : (reach : Reach) (was mid is : SessionState → Type 0) (filing : Filing) (upload number : ℕ) (following : List ℕ) (now : Option (List ℕ)) (reply : Result Reply Refusal) (accepted : Bool) → filing.len ≤ number * max_part_bytes → PutsOver reach was mid filing upload number following now
    → Took reach mid is (change (closing filing upload)) reply → is_accepted (took (change (closing filing upload)) reply) ≡ accepted → OutcomeOver reach was is filing upload following accepted (answers.Replied reply)
sealed reach was mid is filing upload number following now reply accepted all p t is_it = record {
  puts = p.puts;
  outcome = took (change (closing filing upload)) reply;
  goes = λ before session.
      let g = p.goes before session in
      let s = stepped reach mid is (change (closing filing upload)) reply t g.0 g.1.0 in
      let enough : filing.len ≤ length p.puts * max_part_bytes = subst (λ (k : ℕ). filing.len ≤ k * max_part_bytes) (sym p.count) all in
      (g.0, s.0, g.1.1, inl (enough, s.1.1), s.1.0, is_it);
  text_is = λ entries. refl;
}

-- ---- a file

module _ (reach : Reach) (filing : Filing) where
  abbrev Filed : (SessionState → Type 0) → (SessionState → Type 0) → List ℕ → Answer → Type 0
  Filed was is following answer = FiledOver was is (λ before turns after. AreLinkedSteps reach filing following before turns after) answer

  abbrev Unanswered : (SessionState → Type 0) → (SessionState → Type 0) → List ℕ → Type 0
  Unanswered was is following = LeavesOver reach was is (Some (File filing)) following

  module _ (was is : SessionState → Type 0) (refusal : Refusal) (t : Took reach was is (change (opening filing)) (Err refusal)) where
    abbrev call : Call
    call = change (opening filing)

    not_begun : (following : List ℕ) → Filed was is following (answers.Replied (Err refusal))
    not_begun following = record {
      turns = unbegun (took call (Err refusal));
      goes = λ before session. let s = stepped reach was is call (Err refusal) t before session in (s.0, (s.1.0, (refl, s.1.1)));
      text_is = λ entries. refl;
    }

    not_begun_left : (following : List ℕ) → Unanswered was is following
    not_begun_left following = record {
      leaves = λ before session. let s = stepped reach was is call (Err refusal) t before session in (s.0, (inr (inr (unbegun (took call (Err refusal)), refl, (refl, s.1.1))), s.1.0));
    }

    pub unread : (now : Option (List ℕ)) → IfSome now (λ following. Unanswered was is following)
    unread None = tt
    unread (Some following) = not_begun_left following

    pub unfiled : {E : Type 0} (r : Result (Option Answer) E) (now left : Option (List ℕ)) → IfOk r (λ given. IfSome now (λ following. Dropped given (answers.Replied (Err refusal)) filing.len following left)) → IfOk r (λ given. IfSome now (λ following. FilesOver reach was is given filing following left))
    unfiled (Err e) now left h = tt
    unfiled (Ok given) None left h = tt
    unfiled (Ok None) (Some following) left h = (h.0, not_begun_left following, h.1)
    unfiled (Ok (Some given)) (Some following) left h = (h.1, h.2, subst (Filed was is following) (sym h.0) (not_begun following))

  module _ (was first : SessionState → Type 0) (upload : ℕ) (plan : UploadPlan) (t : Took reach was first (change (opening filing)) (Ok (replies.Upload upload plan))) where
    abbrev begin : Turn
    begin = took (change (opening filing)) (Ok (replies.Upload upload plan))

    -- all parts were put, and the upload was sealed
    pub filed_whole : (is : SessionState → Type 0) (following : List ℕ) (answer : Answer) → OutcomeOver reach first is filing upload following true answer → Filed was is following answer
    filed_whole is following answer p = record {
      turns = begun begin p.puts p.outcome [];
      goes = λ before session.
          let b = stepped reach was first (change (opening filing)) (Ok (replies.Upload upload plan)) t before session in
          let g = p.goes b.0 b.1.0 in
          let over : IsOver (IsLinkedStep reach) (IsLinkedPut reach) g.1 upload (is_accepted p.outcome) [] g.1 = subst (λ (a : Bool). IsOver (IsLinkedStep reach) (IsLinkedPut reach) g.1 upload a [] g.1) (sym g.5) (refl, refl) in
          (g.1, (g.4, (upload, g.0, g.1, (b.0, (plan, refl, b.1.1), g.2), g.3, over)));
      text_is = p.text_is;
    }

    module _ (mid is : SessionState → Type 0) (reply : Result Reply Refusal) (a : Took reach mid is (change (commands.Abort upload)) reply) (following : List ℕ) where
      abbrev abort : Turn
      abort = took (change (commands.Abort upload)) reply

      -- some parts were put, and the upload was aborted
      pub cut_short : StopsOver reach first mid filing upload following → Unanswered was is following
      cut_short p = record {
        leaves = λ before session.
            let b = stepped reach was first (change (opening filing)) (Ok (replies.Upload upload plan)) t before session in
            let g = p.goes b.0 b.1.0 in
            let e = stepped reach mid is (change (commands.Abort upload)) reply a (at g.0 g.1) g.4 in (
              e.0,
              (
                inr (
                    inl (
                    record {
                      upload = upload;
                      begin = begin;
                      puts = p.puts;
                      abort = abort;
                      mid = g.0;
                      left = g.1;
                      begun = (b.0, (plan, refl, b.1.1), g.2);
                      since = g.3;
                      aborted = e.1.1;
                    }
                    )
                    ),
                e.1.0,
              ),
            );
      }

      -- a part or the seal was refused, and the upload was aborted
      abbrev Ended : SessionState → Turn → List Turn → Type 0
      Ended before outcome puts = (after : SessionState) × (is after × AreLinkedSteps reach filing following before (begun begin puts outcome (abort ∷ [])) after) × (is_accepted outcome ≡ false)

      ended : (answer : Answer) (p : OutcomeOver reach first mid filing upload following false answer) (before : SessionState) → was before → Ended before p.outcome p.puts
      ended answer p before session =
          let b = stepped reach was first (change (opening filing)) (Ok (replies.Upload upload plan)) t before session in
          let g = p.goes b.0 b.1.0 in
          let e = stepped reach mid is (change (commands.Abort upload)) reply a g.1 g.4 in
          let over : IsOver (IsLinkedStep reach) (IsLinkedPut reach) g.1 upload (is_accepted p.outcome) (abort ∷ []) e.0 = subst (λ (o : Bool). IsOver (IsLinkedStep reach) (IsLinkedPut reach) g.1 upload o (abort ∷ []) e.0) (sym g.5) (abort, refl, e.1.1) in
          (e.0, (e.1.0, (upload, g.0, g.1, (b.0, (plan, refl, b.1.1), g.2), g.3, over)), g.5)

      filed_refused : (answer : Answer) → OutcomeOver reach first mid filing upload following false answer → Filed was is following answer
      filed_refused answer p = record {
        turns = begun begin p.puts p.outcome (abort ∷ []);
        goes = λ before session. let e = ended answer p before session in (e.0, e.1);
        text_is = p.text_is;
      }

      pub left_refused : (answer : Answer) → OutcomeOver reach first mid filing upload following false answer → Unanswered was is following
      left_refused answer p = record {
        leaves = λ before session. let e = ended answer p before session in (e.0, (inr (inr (begun begin p.puts p.outcome (abort ∷ []), e.2, e.1.1)), e.1.0));
      }

      -- the bytes that are left are dropped
      module _ (count : ℕ) (few : count ≤ filing.len) (enough : filing.len - count ≤ length following) (answer : Answer) (p : OutcomeOver reach first mid filing upload following false answer) where
        rest_len : length (drop (filing.len - count) following) ≡ length following - (filing.len - count)
        rest_len = length-drop (filing.len - count) following

        to_end : drop count (drop (filing.len - count) following) ≡ drop filing.len following
        to_end = let all : filing.len - count + count ≡ filing.len = omega (arith, few) in drop-drop count (filing.len - count) following ∙ ap (λ (k : ℕ). drop k following) all

        pub dropped_rest : (given : Option Answer) (left : Option (List ℕ)) → Dropped given answer count (drop (filing.len - count) following) left → FilesOver reach was is given filing following left
        dropped_rest None left h = (omega (arith, rest_len, h.0, few, enough), left_refused answer p, h.1)
        dropped_rest (Some given) left h =
            (omega (arith, rest_len, h.1, few, enough), h.2 ∙ ap Some to_end, subst (Filed was is following) (sym h.0) (filed_refused answer p))

-- ---- the same for what the code has

pub at_err : {A E : Type 0} {X : Type 0} (r : Result A E) → X → OnErr r X
at_err (Ok a) x = tt
at_err (Err e) x = x

module _ (start now : Option (List ℕ)) (reach : Reach) (was mid is : SessionState → Type 0) (filing : Filing) (upload number : ℕ) (all : filing.len ≤ number * max_part_bytes) (p : IfSome start (λ following. PutsOver reach was mid filing upload number following now)) where
  bytes_are : bytes_before filing.len number ≡ filing.len
  bytes_are = omega (arith, all)

  pub filled_sealed : (reply : Reply) → Took reach mid is (change (closing filing upload)) (Ok reply) → IfSome start (λ following. FillsOver reach was is (filled.Sealed reply) filing upload following now)
  filled_sealed reply t = by start p
    where
      by : (o : Option (List ℕ)) → IfSome o (λ following. PutsOver reach was mid filing upload number following now) → IfSome o (λ following. FillsOver reach was is (filled.Sealed reply) filing upload following now)
      by None q = tt
      by (Some following) q = (omega (arith, q.arrived, bytes_are), subst (λ (k : ℕ). now ≡ Some (drop k following)) bytes_are q.left_is, sealed reach was mid is filing upload number following now (Ok reply) true all q t refl)

  pub filled_refused : (refusal : Refusal) → Took reach mid is (change (closing filing upload)) (Err refusal) → IfSome start (λ following. FillsOver reach was is (filled.Refused (answers.Replied (Err refusal)) 0) filing upload following now)
  filled_refused refusal t = by start p
    where
      none_left : bytes_before filing.len number ≡ filing.len - 0
      none_left = omega (arith, bytes_are)

      by : (o : Option (List ℕ)) → IfSome o (λ following. PutsOver reach was mid filing upload number following now) → IfSome o (λ following. FillsOver reach was is (filled.Refused (answers.Replied (Err refusal)) 0) filing upload following now)
      by None q = tt
      by (Some following) q =
          (omega arith, omega (arith, q.arrived, bytes_are), subst (λ (k : ℕ). now ≡ Some (drop k following)) none_left q.left_is, sealed reach was mid is filing upload number following now (Err refusal) false all q t refl)

module _ (start now left : Option (List ℕ)) (reach : Reach) (filing : Filing) (was first mid is : SessionState → Type 0) (upload : ℕ) (plan : UploadPlan) (t : Took reach was first (change (opening filing)) (Ok (replies.Upload upload plan))) where
  pub file_sealed : (reply : Reply) → IfSome start (λ following. FillsOver reach first is (filled.Sealed reply) filing upload following now) → IfSome start (λ following. FilesOver reach was is (Some (answers.Replied (Ok reply))) filing following now)
  file_sealed reply h = by start h
    where
      by : (o : Option (List ℕ)) → IfSome o (λ following. FillsOver reach first is (filled.Sealed reply) filing upload following now) → IfSome o (λ following. FilesOver reach was is (Some (answers.Replied (Ok reply))) filing following now)
      by None q = tt
      by (Some following) q = (q.0, q.1, filed_whole reach filing was first upload plan t is following (answers.Replied (Ok reply)) q.2)

  module _ (reply : Result Reply Refusal) (a : Took reach mid is (change (commands.Abort upload)) reply) where
    pub file_refused : {E : Type 0} (r : Result (Option Answer) E) (answer : Answer) (count : ℕ) → IfSome start (λ following. FillsOver reach first mid (filled.Refused answer count) filing upload following now)
        → IfOk r (λ given. IfSome now (λ rest. Dropped given answer count rest left)) → IfOk r (λ given. IfSome start (λ following. FilesOver reach was is given filing following left))
    file_refused (Err e) answer count h d = tt
    file_refused (Ok given) answer count h d = by start h
      where
        by : (o : Option (List ℕ)) → IfSome o (λ following. FillsOver reach first mid (filled.Refused answer count) filing upload following now) → IfSome o (λ following. FilesOver reach was is given filing following left)
        by None q = tt
        by (Some following) q =
            let rest = subst (λ (o : Option (List ℕ)). IfSome o (λ rest. Dropped given answer count rest left)) q.2 d in
            dropped_rest reach filing was first upload plan t mid is reply a following count q.0 q.1 answer q.3 given left rest

    pub file_unread : (answer : Answer) (count : ℕ) → IfSome start (λ following. FillsOver reach first mid (filled.Refused answer count) filing upload following now) → IfSome start (λ following. LeavesOver reach was is (Some (File filing)) following)
    file_unread answer count h = by start h
      where
        by : (o : Option (List ℕ)) → IfSome o (λ following. FillsOver reach first mid (filled.Refused answer count) filing upload following now) → IfSome o (λ following. LeavesOver reach was is (Some (File filing)) following)
        by None q = tt
        by (Some following) q = left_refused reach filing was first upload plan t mid is reply a following answer q.3

    pub file_cut : IfSome start (λ following. FillsOver reach first mid filled.Truncated filing upload following now) → IfSome start (λ following. FilesOver reach was is None filing following now)
    file_cut h = by start h
      where
        by : (o : Option (List ℕ)) → IfSome o (λ following. FillsOver reach first mid filled.Truncated filing upload following now) → IfSome o (λ following. FilesOver reach was is None filing following now)
        by None q = tt
        by (Some following) q = (q.0, cut_short reach filing was first upload plan t mid is reply a following q.1, q.2)

    pub file_stopped : IfSome start (λ following. StopsOver reach first mid filing upload following) → IfSome start (λ following. LeavesOver reach was is (Some (File filing)) following)
    file_stopped h = by start h
      where
        by : (o : Option (List ℕ)) → IfSome o (λ following. StopsOver reach first mid filing upload following) → IfSome o (λ following. LeavesOver reach was is (Some (File filing)) following)
        by None q = tt
        by (Some following) q = cut_short reach filing was first upload plan t mid is reply a following q
