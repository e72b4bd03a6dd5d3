-- Filing the bytes after a line, part by part.
use Rattle.std.proofs.Common.{◌≡◌, ◌∙◌, ◌+◌, ◌*◌, ◌-◌, ◌<◌, ◌≤◌, ◌++◌, ◌∷◌, [], ℕ, true, false, List, Some, None, Option, Ok, Err, Result, ap, arith, drop, inr, length, refl, subst, sym}
use Rattle.std.specs.Prelude.{IfSome}
use Rattle.std.proofs.lemmas.List.{drop-drop, length-append, length-drop}
use Rattle.b3_forest.specs.Parts.{ModelPrepared, planned}
use Rattle.store_books.specs.declared.refusal.Refusal.{Refusal}
use Rattle.store_books.specs.declared.refusal.Refusal.TheVariants as refusals
use Rattle.store_core.specs.Questions.{plan_in}
use Rattle.store_lines.specs.Access.{Reach, SessionState, at}
use Rattle.store_lines.specs.Filing.{ArePut, is_accepted, numbered_part, part_len}
use Rattle.store_lines.specs.Script.{Turn, bad, fault_ending, listed, refusal_ending, skipped, took, turn_ending, unmade, unplanned}
use Rattle.store_lines.specs.Turns.{IsLinkedMade, IsLinkedPart, IsLinkedPlan, IsLinkedPut, IsLinkedStep}
use Rattle.store_lines.specs.declared.answer.Answer.{Answer}
use Rattle.store_lines.specs.declared.ending.Ending.{Ending}
use Rattle.store_lines.specs.declared.ending.Ending.TheVariants as endings
use Rattle.store_lines.specs.declared.request.Filing.{Filing}
use Rattle.store_lines.specs.inner.Answers.{is_good, reported_ending}
use Rattle.store_lines.specs.declared.filing.Filled.TheVariants as filled
use Rattle.store_lines.specs.inner.Reporting.{FillsOver, OutcomeOver, PutsOver, ReceivesOver, bytes_before}
use Rattle.store_upload.specs.Uploads.{UploadPlan, max_part_bytes, part_fault}
use Rattle.store_upload.specs.declared.refusal.PartFault.{PartFault}
use Rattle.store_upload.specs.declared.refusal.PartFault.TheVariants as faults

-- ---- turns of puts

-- a turn that a put may have
abbrev IsPutTurn : Turn → Type 0
IsPutTurn (unplanned refusal) = Unit {0}
IsPutTurn (unmade fault) = Unit {0}
IsPutTurn (took call reply) = Unit {0}
IsPutTurn _ = ⊥

of_part : (reach : Reach) (old new : SessionState) (upload : ℕ) (part : ModelPrepared) (turn : Turn) → IsLinkedPart reach old upload part turn new → IsPutTurn turn
of_part reach old new upload part skipped h = h
of_part reach old new upload part bad h = h
of_part reach old new upload part (listed entries) h = h
of_part reach old new upload part (unplanned refusal) h = tt
of_part reach old new upload part (unmade fault) h = tt
of_part reach old new upload part (took call reply) h = tt

of_made : (reach : Reach) (old new : SessionState) (upload : ℕ) (part : ModelPrepared) (refused : Option PartFault) (turn : Turn) → IsLinkedMade reach old upload part refused turn new → IsPutTurn turn
of_made reach old new upload part (Some fault) turn h = subst IsPutTurn (sym h.0) tt
of_made reach old new upload part None turn h = of_part reach old new upload part turn h

of_plan : (reach : Reach) (old new : SessionState) (upload offset : ℕ) (bytes : List ℕ) (plan : Result UploadPlan Refusal) (turn : Turn) → IsLinkedPlan reach old upload offset bytes plan turn new → IsPutTurn turn
of_plan reach old new upload offset bytes (Err refusal) turn h = subst IsPutTurn (sym h.0) tt
of_plan reach old new upload offset bytes (Ok plan) turn h = of_made reach old new upload (planned plan offset bytes) (part_fault plan offset (length bytes)) turn h

of_put : (reach : Reach) (old new : SessionState) (upload offset : ℕ) (bytes : List ℕ) (turn : Turn) → IsLinkedPut reach old upload offset bytes turn new → IsPutTurn turn
of_put reach old new upload offset bytes turn h = of_plan reach (at old h.0) new upload offset bytes (plan_in h.0.state upload) turn h.1.1

not_good : (refusal : Refusal) → refusal_ending refusal ≡ endings.Good → ⊥
not_good refusals.NoMemory is = absurd (cc)
not_good _ is = absurd (cc)

not_made : (fault : PartFault) → fault_ending fault ≡ endings.Good → ⊥
not_made faults.NoMemory is = absurd (cc)
not_made _ is = absurd (cc)

good_is : (ending : Ending) → is_good ending ≡ true → ending ≡ endings.Good
good_is endings.Good is = refl
good_is endings.Refused is = absurd (cc)
good_is endings.OutOfMemory is = absurd (cc)

not_good_is : (ending : Ending) → is_good ending ≡ false → ending ≡ endings.Good → ⊥
not_good_is endings.Good is good = absurd (cc)
not_good_is endings.Refused is good = absurd (cc)
not_good_is endings.OutOfMemory is good = absurd (cc)

accepted_turn : (turn : Turn) → IsPutTurn turn → turn_ending turn ≡ endings.Good → is_accepted turn ≡ true
accepted_turn skipped put good = absurd put
accepted_turn bad put good = absurd put
accepted_turn (listed entries) put good = absurd put
accepted_turn (unplanned refusal) put good = absurd (not_good refusal good)
accepted_turn (unmade fault) put good = absurd (not_made fault good)
accepted_turn (took call (Ok reply)) put good = refl
accepted_turn (took call (Err refusal)) put good = absurd (not_good refusal good)

refused_turn : (turn : Turn) → IsPutTurn turn → (turn_ending turn ≡ endings.Good → ⊥) → is_accepted turn ≡ false
refused_turn skipped put good = absurd put
refused_turn bad put good = absurd put
refused_turn (listed entries) put good = absurd put
refused_turn (unplanned refusal) put good = refl
refused_turn (unmade fault) put good = refl
refused_turn (took call (Ok reply)) put good = absurd (good refl)
refused_turn (took call (Err refusal)) put good = refl

-- ---- parts

-- the put of the part with this number
abbrev PutAt : Reach → Filing → List ℕ → SessionState → ℕ → ℕ → Turn → SessionState → Type 0
PutAt reach filing bytes old upload number turn new = IsLinkedPut reach old upload (number * max_part_bytes) (numbered_part filing.len bytes number) turn new

puts_more : (reach : Reach) (filing : Filing) (bytes : List ℕ) (upload : ℕ) (old mid new : SessionState) (number next : ℕ) (puts : List Turn) (turn : Turn) → next ≡ number + length puts
    → ArePut (IsLinkedStep reach) (IsLinkedPut reach) filing bytes upload old number puts mid → PutAt reach filing bytes mid upload next turn new → is_accepted turn ≡ true → ArePut (IsLinkedStep reach) (IsLinkedPut reach) filing bytes upload old number (puts ++ turn ∷ []) new
puts_more reach filing bytes upload old mid new number next [] turn same h p accepted =
    let here : next ≡ number = omega (arith, same) in
    (new, subst (λ (k : ℕ). PutAt reach filing bytes old upload k turn new) here (subst (λ (s : SessionState). PutAt reach filing bytes s upload next turn new) h p), accepted, refl)
puts_more reach filing bytes upload old mid new number next (t ∷ puts) turn same h p accepted =
    (h.0, h.1, h.2, puts_more reach filing bytes upload h.0 mid new (number + 1) next puts turn (omega (arith, same)) h.3 p accepted)

pub no_puts : (reach : Reach) (is : SessionState → Type 0) (filing : Filing) (upload : ℕ) (now : Option (List ℕ)) → IfSome now (λ following. PutsOver reach is is filing upload 0 following now)
no_puts reach is filing upload None = tt
no_puts reach is filing upload (Some following) =
    let none : bytes_before filing.len 0 ≡ 0 = omega arith in
    record {
      puts = [];
      count = refl;
      goes = λ before session. (before, (session, refl));
      arrived = omega (arith, none);
      left_is = subst (λ (k : ℕ). Some following ≡ Some (drop k following)) (sym none) refl;
    }

module _ (reach : Reach) (was mid is : SessionState → Type 0) (filing : Filing) (upload number : ℕ) where
  -- the next part was received
  abbrev Received : Option Answer → List ℕ → Option (List ℕ) → Option (List ℕ) → Type 0
  Received answer following now left = PutsOver reach was mid filing upload number following now × IfSome now (λ rest. ReceivesOver reach mid is answer upload (number * max_part_bytes) (part_len filing.len number) rest left)

  at_part : (following : List ℕ) (now left : Option (List ℕ)) (answer : Option Answer) → number * max_part_bytes < filing.len → Received answer following now left
      → ReceivesOver reach mid is answer upload (number * max_part_bytes) (part_len filing.len number) (drop (number * max_part_bytes) following) left
  at_part following now left answer more h =
      let before : bytes_before filing.len number ≡ number * max_part_bytes = omega arith in
      let there : now ≡ Some (drop (number * max_part_bytes) following) = subst (λ (k : ℕ). now ≡ Some (drop k following)) before h.0.left_is in
      subst (λ (o : Option (List ℕ)). IfSome o (λ rest. ReceivesOver reach mid is answer upload (number * max_part_bytes) (part_len filing.len number) rest left)) there h.1

  module _ (following : List ℕ) (now left : Option (List ℕ)) (more : number * max_part_bytes < filing.len) where
    -- where the part begins, and how long it is
    abbrev first : ℕ
    first = number * max_part_bytes

    abbrev size : ℕ
    size = part_len filing.len number

    begins : PutsOver reach was mid filing upload number following now → first ≤ length following
    begins p = let before : bytes_before filing.len number ≡ first = omega arith in omega (arith, p.arrived, before)

    -- the bytes up to its end
    after_part : PutsOver reach was mid filing upload number following now → size ≤ length (drop first following) → left ≡ Some (drop size (drop first following)) → (first + size ≤ length following) × (left ≡ Some (drop (first + size) following))
    after_part p fits is =
        let enough : first ≤ length following = begins p in
        let rest : length (drop first following) ≡ length following - first = length-drop first following in
        (omega (arith, fits, rest, enough), is ∙ ap Some (drop-drop size first following))

    pub accepted : (answer : Answer) → Received (Some answer) following now left → reported_ending answer ≡ endings.Good → PutsOver reach was is filing upload (number + 1) following left
    accepted answer h good =
        let r = at_part following now left (Some answer) more h in
        let p = h.0 in
        let end = after_part p r.0 r.1 in
        let next : bytes_before filing.len (number + 1) ≡ first + size = omega arith in
        record {
          puts = p.puts ++ r.2.turn ∷ [];
          count = length-append p.puts (r.2.turn ∷ []) ∙ ap (λ (k : ℕ). k + 1) p.count;
          goes = λ before session.
              let g = p.goes before session in
              let a = r.2.goes g.0 g.1.0 in
              let put_it : IsPutTurn r.2.turn = of_put reach g.0 a.0 upload first _ r.2.turn a.1.1 in
              (a.0, (a.1.0, puts_more reach filing following upload before g.0 a.0 0 number p.puts r.2.turn (omega (arith, p.count)) g.1.1 a.1.1 (accepted_turn r.2.turn put_it (sym r.2.ending_is ∙ good))));
          arrived = omega (arith, next, end.0);
          left_is = subst (λ (k : ℕ). left ≡ Some (drop k following)) (sym next) end.1;
        }

    pub refused : (answer : Answer) → Received (Some answer) following now left → (reported_ending answer ≡ endings.Good → ⊥) → (first + size ≤ length following) × (left ≡ Some (drop (first + size) following)) × OutcomeOver reach was is filing upload following false answer
    refused answer h good =
        let r = at_part following now left (Some answer) more h in
        let p = h.0 in
        let end = after_part p r.0 r.1 in (
          end.0,
          end.1,
          record {
            puts = p.puts;
            outcome = r.2.turn;
            goes = λ before session.
                let g = p.goes before session in
                let a = r.2.goes g.0 g.1.0 in
                let put_it : IsPutTurn r.2.turn = of_put reach g.0 a.0 upload first _ r.2.turn a.1.1 in
                let no : is_accepted r.2.turn ≡ false = refused_turn r.2.turn put_it (λ is_good. good (r.2.ending_is ∙ is_good)) in
                let there : PutAt reach filing following g.0 upload (length p.puts) r.2.turn a.0 = subst (λ (k : ℕ). PutAt reach filing following g.0 upload k r.2.turn a.0) (sym p.count) a.1.1 in
                let some : length p.puts * max_part_bytes < filing.len = subst (λ (k : ℕ). k * max_part_bytes < filing.len) (sym p.count) more in
                (g.0, a.0, g.1.1, inr (some, no, there), a.1.0, no);
            text_is = r.2.text_is;
          },
        )

-- ---- the same for what the code has

module _ (start now left : Option (List ℕ)) (reach : Reach) (was mid is : SessionState → Type 0) (filing : Filing) (upload number offset len : ℕ) (offset_is : offset ≡ number * max_part_bytes) (len_is : len ≡ part_len filing.len number)
    (more : number * max_part_bytes < filing.len) (p : IfSome start (λ following. PutsOver reach was mid filing upload number following now)) (got : Option Answer) (r : IfSome now (λ rest. ReceivesOver reach mid is got upload offset len rest left)) where
  received : (answer : Option Answer) → got ≡ answer → IfSome now (λ rest. ReceivesOver reach mid is answer upload (number * max_part_bytes) (part_len filing.len number) rest left)
  received answer given =
      subst (λ (o : ℕ). IfSome now (λ rest. ReceivesOver reach mid is answer upload o (part_len filing.len number) rest left)) offset_is
      (subst (λ (n : ℕ). IfSome now (λ rest. ReceivesOver reach mid is answer upload offset n rest left)) len_is
      (subst (λ (a : Option Answer). IfSome now (λ rest. ReceivesOver reach mid is a upload offset len rest left)) given r))

  pub puts_on : (answer : Answer) → got ≡ Some answer → is_good (reported_ending answer) ≡ true → IfSome start (λ following. PutsOver reach was is filing upload (number + 1) following left)
  puts_on answer given good = by start p
    where
      by : (o : Option (List ℕ)) → IfSome o (λ following. PutsOver reach was mid filing upload number following now) → IfSome o (λ following. PutsOver reach was is filing upload (number + 1) following left)
      by None q = tt
      by (Some following) q = accepted reach was mid is filing upload number following now left more answer (q, received (Some answer) given) (good_is (reported_ending answer) good)

  pub refused_at : (answer : Answer) → got ≡ Some answer → is_good (reported_ending answer) ≡ false → (count : ℕ) → count ≡ filing.len - offset - len → IfSome start (λ following. FillsOver reach was is (filled.Refused answer count) filing upload following left)
  refused_at answer given unfit count count_is = by start p
    where
      by : (o : Option (List ℕ)) → IfSome o (λ following. PutsOver reach was mid filing upload number following now) → IfSome o (λ following. FillsOver reach was is (filled.Refused answer count) filing upload following left)
      by None q = tt
      by (Some following) q =
          let end = refused reach was mid is filing upload number following now left more answer (q, received (Some answer) given) (not_good_is (reported_ending answer) unfit) in
          let same : filing.len - count ≡ number * max_part_bytes + part_len filing.len number = omega (arith, count_is, offset_is, len_is, more) in (
            omega (arith, count_is),
            omega (arith, same, end.0),
            subst (λ (k : ℕ). left ≡ Some (drop k following)) (sym same) end.1,
            end.2,
          )
