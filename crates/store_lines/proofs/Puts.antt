-- Parts that are put in two moments.
use Rattle.std.proofs.Common.{◌≡◌, ◌∙◌, ℕ, Bool, true, false, List, Ok, Err, Some, None, Option, Result, ap, inr, length, length-take-le, refl, subst, sym, take}
use Rattle.std.specs.Prelude.{IfOk, IfSome, unwrap_or}
use Rattle.b3_forest.specs.Parts.{ModelPrepared, planned}
use Rattle.store_books.specs.declared.refusal.Refusal.{Refusal}
use Rattle.store_core.specs.Runs.{put}
use Rattle.store_core.specs.declared.store.questions.Reply.{Reply}
use Rattle.store_journal.specs.declared.entry.Entry.{Entry}
use Rattle.store_lines.specs.inner.Answers.{reported_ending, reported_text}
use Rattle.store_lines.specs.Script.{reply_ending, took, unmade, unplanned}
use Rattle.store_lines.specs.Questions.{answer_text}
use Rattle.store_lines.specs.declared.answer.Answer.{Answer}
use Rattle.store_lines.specs.declared.answer.Answer.TheVariants as answers
use Rattle.store_lines.specs.inner.Reads.{Copied, Dropped}
use Rattle.store_upload.specs.Uploads.{UploadPlan, part_fault}
use Rattle.store_upload.specs.declared.refusal.PartFault.{PartFault}
use Rattle.store_upload.specs.declared.refusal.PartFault.TheVariants as faults
use Rattle.store_lines.specs.Access.{advance, at, SessionState, Reach, Took, TookPlan}
use Rattle.store_lines.specs.inner.Reporting.{Leaves, AnsweredOver, ReceivesOver}
use Rattle.store_lines.specs.Turns.{IsLinkedMade, IsLinkedPlan, IsLinkedPut}

-- what a part that was made for a plan results in
abbrev pub MadeOver : Reach → (SessionState → Type 0) → (SessionState → Type 0) → ℕ → ℕ → UploadPlan → List ℕ → Answer → Type 0
MadeOver reach was is upload offset plan bytes answer = AnsweredOver was is (λ first turn after. IsLinkedMade reach first upload (planned plan offset bytes) (part_fault plan offset (length bytes)) turn after) answer

abbrev pub PutOver : Reach → (SessionState → Type 0) → (SessionState → Type 0) → ℕ → ℕ → List ℕ → Answer → Type 0
PutOver reach was is upload offset bytes answer = AnsweredOver was is (λ before turn after. IsLinkedPut reach before upload offset bytes turn after) answer

-- a part that was put, and the answer to it
pub made : (reach : Reach) (was is : SessionState → Type 0) (upload offset : ℕ) (plan : UploadPlan) (bytes : List ℕ) (part : ModelPrepared) (reply : Result Reply Refusal) (answer : Answer) → part_fault plan offset (length bytes) ≡ None → part ≡ planned plan offset bytes
    → Took reach was is (put upload part) reply → ((entries : List Entry) → reported_text entries answer ≡ answer_text reply) → reported_ending answer ≡ reply_ending reply → MadeOver reach was is upload offset plan bytes answer
made reach was is upload offset plan bytes part reply answer fits part_is took_it text ending =
    let call = put upload (planned plan offset bytes) in
    let t = subst (λ (p : ModelPrepared). Took reach was is (put upload p) reply) part_is took_it in
    record {
      turn = took call reply;
      goes = λ before session. (
        advance before t.found call reply t.left,
        (
          t.stands before session,
          subst (λ (o : Option PartFault). IsLinkedMade reach before upload (planned plan offset bytes) o (took call reply) (advance before t.found call reply t.left)) (sym fits)
              (t.found, (t.linked before session, ((refl, t.step), (refl, refl, refl, refl)))),
        ),
      );
      text_is = text;
      ending_is = ending;
    }

fault_is : (reach : Reach) (old : SessionState) (upload : ℕ) (part : ModelPrepared) (refused : Option PartFault) (fault : PartFault) → fault ≡ unwrap_or refused faults.NoMemory → IsLinkedMade reach old upload part refused (unmade fault) old
fault_is reach old upload part (Some first) fault is = (ap unmade is, refl)
fault_is reach old upload part None fault is = (is, refl)

pub no_part : (reach : Reach) (was : SessionState → Type 0) (upload offset : ℕ) (plan : UploadPlan) (bytes : List ℕ) (fault : PartFault) → fault ≡ unwrap_or (part_fault plan offset (length bytes)) faults.NoMemory
    → MadeOver reach was was upload offset plan bytes (answers.Unmade fault)
no_part reach was upload offset plan bytes fault is = record {
  turn = unmade fault;
  goes = λ before session. (before, (session, fault_is reach before upload (planned plan offset bytes) (part_fault plan offset (length bytes)) fault is));
  text_is = λ entries. refl;
  ending_is = refl;
}

pub planned_put : (reach : Reach) (was mid is : SessionState → Type 0) (upload offset : ℕ) (plan : UploadPlan) (bytes : List ℕ) (answer : Answer) → TookPlan reach was mid upload (Ok plan) → MadeOver reach mid is upload offset plan bytes answer → PutOver reach was is upload offset bytes answer
planned_put reach was mid is upload offset plan bytes answer p a = record {
  turn = a.turn;
  goes = λ before session.
      let g = a.goes (at before p.found) (p.stands before session) in
      (g.0, (g.1.0, (p.found, (p.linked before session, subst (λ (r : Result UploadPlan Refusal). IsLinkedPlan reach (at before p.found) upload offset bytes r a.turn g.0) p.plan_is g.1.1))));
  text_is = a.text_is;
  ending_is = a.ending_is;
}

pub no_plan : (reach : Reach) (was is : SessionState → Type 0) (upload offset : ℕ) (bytes : List ℕ) (refusal : Refusal) → TookPlan reach was is upload (Err refusal) → PutOver reach was is upload offset bytes (answers.Replied (Err refusal))
no_plan reach was is upload offset bytes refusal p = record {
  turn = unplanned refusal;
  goes = λ before session. (
    at before p.found,
    (
      p.stands before session,
      (
        p.found,
        (p.linked before session, subst (λ (r : Result UploadPlan Refusal). IsLinkedPlan reach (at before p.found) upload offset bytes r (unplanned refusal) (at before p.found)) p.plan_is (refl, refl)),
      ),
    ),
  );
  text_is = λ entries. refl;
  ending_is = refl;
}

pub leaves : (reach : Reach) (was is : SessionState → Type 0) (upload : ℕ) (plan : Result UploadPlan Refusal) → TookPlan reach was is upload plan → Leaves reach was is
leaves reach was is upload plan p = record { leaves = λ before session. (p.found, (inr (p.linked before session), p.stands before session)) }

-- ---- the bytes after a line

-- they are dropped after an answer that does not look at them
pub dropped : {E : Type 0} (r : Result (Option Answer) E) (now left : Option (List ℕ)) (reach : Reach) (was is : SessionState → Type 0) (upload offset len : ℕ) (answer : Answer)
    → ((bytes : List ℕ) → length bytes ≡ len → PutOver reach was is upload offset bytes answer) → Leaves reach was is → IfOk r (λ given. IfSome now (λ following. Dropped given answer len following left))
    → IfOk r (λ given. IfSome now (λ following. ReceivesOver reach was is given upload offset len following left))
dropped (Err e) now left reach was is upload offset len answer f l h = tt
dropped (Ok given) None left reach was is upload offset len answer f l h = tt
dropped (Ok None) (Some following) left reach was is upload offset len answer f l h = (h.0, l, h.1)
dropped (Ok (Some given)) (Some following) left reach was is upload offset len answer f l h =
    (h.1, h.2, subst (λ (a : Answer). PutOver reach was is upload offset (take len following) a) (sym h.0) (f (take len following) (length-take-le len following h.1)))

pub whole : (now left : Option (List ℕ)) (reach : Reach) (was is : SessionState → Type 0) (upload offset len : ℕ) (bytes : List ℕ) (answer : Answer) (is_whole : Bool) → is_whole ≡ true → IfSome now (λ following. Copied is_whole len following bytes left)
    → PutOver reach was is upload offset bytes answer → IfSome now (λ following. ReceivesOver reach was is (Some answer) upload offset len following left)
whole None left reach was is upload offset len bytes answer is_whole all h p = tt
whole (Some following) left reach was is upload offset len bytes answer true all h p = (h.0, h.2, subst (λ (bs : List ℕ). PutOver reach was is upload offset bs answer) h.1 p)
whole (Some following) left reach was is upload offset len bytes answer false all h p = absurd (cc)

-- ---- faults

pub fault_reported : (made_for : UploadPlan) (offset len n : ℕ) (fault : PartFault) → Some fault ≡ part_fault made_for offset len → n ≡ len → fault ≡ unwrap_or (part_fault made_for offset n) faults.NoMemory
fault_reported made_for offset len n fault is same = ap (λ (o : Option PartFault). unwrap_or o faults.NoMemory) (is ∙ ap (part_fault made_for offset) (sym same))

pub no_fault : (made_for : UploadPlan) (offset len n : ℕ) → None ≡ part_fault made_for offset len → n ≡ len → faults.NoMemory ≡ unwrap_or (part_fault made_for offset n) faults.NoMemory
no_fault made_for offset len n is same = ap (λ (o : Option PartFault). unwrap_or o faults.NoMemory) (is ∙ ap (part_fault made_for offset) (sym same))

pub truncated : (now left : Option (List ℕ)) (reach : Reach) (was is : SessionState → Type 0) (upload offset len : ℕ) (bytes : List ℕ) (is_whole : Bool) → is_whole ≡ false → IfSome now (λ following. Copied is_whole len following bytes left) → Leaves reach was is
    → IfSome now (λ following. ReceivesOver reach was is None upload offset len following left)
truncated None left reach was is upload offset len bytes is_whole cut h l = tt
truncated (Some following) left reach was is upload offset len bytes true cut h l = absurd (cc)
truncated (Some following) left reach was is upload offset len bytes false cut h l = (h.0, l, h.1)
