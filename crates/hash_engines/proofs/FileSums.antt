-- Sums of files, one file longer.
use Rattle.std.proofs.Common.{◌≡◌, ◌∙◌, ◌&&◌, ℕ, ◌+◌, ◌<◌, Bool, true, false, List, [], ◌∷◌, ◌++◌, Option, Result, Ok, Err, length, take, drop, get_or, ap, inr, sym, subst, refl, append_assoc, append-nil, take-append-drop}
use Rattle.std.specs.Prelude.{◌≢◌, if◌then◌else◌}
use Rattle.std.specs.Io.KnownBytes.{Appends}
use Rattle.std.proofs.KnownBytes.{Appends-trans}
use Rattle.std.proofs.lemmas.List.{drop_more, take_more}
use Rattle.b3_core.specs.Tree.{ModelTop}
use Rattle.edge.specs.declared.outcome.Cause.{Cause}
use Rattle.edge.specs.declared.outcome.Cause.TheVariants.{CannotRead, CannotWrite, OutOfMemory}
use Rattle.edge.specs.declared.outcome.Verdict.{Verdict}
use Rattle.edge.specs.declared.outcome.Verdict.TheVariants.{Good, Refused}
use Rattle.hash_engines.specs.declared.sources.FileFault.{FileFault}
use Rattle.hash_engines.specs.declared.sources.Reason.{Reason}
use Rattle.hash_engines.specs.Sums.{RootAnswer, AreRootAnswers, IsRootAnswer, IsStoppedAt, IsSumStopped, root_answer_text, root_answers_text, root_answers_verdict, root_text, has_root}
use Rattle.edge.specs.Output.{WroteSome}
use Rattle.hash_engines.specs.inner.Sums.{IsSumOf, both}

module _ {S : Type 0} (gives : S → List ℕ → Result ModelTop FileFault → S → Type 0) (reports : S → List ℕ → Reason → S → Type 0) where
  answered_push : (old mid new : S) (names : List (List ℕ)) (answers : List RootAnswer) (name : List ℕ) (answer : RootAnswer)
      → AreRootAnswers gives reports old names answers mid → IsRootAnswer gives reports mid name answer new → AreRootAnswers gives reports old (names ++ name ∷ []) (answers ++ answer ∷ []) new
  answered_push old mid new [] [] name answer h a = (new, subst (λ (s : S). IsRootAnswer gives reports s name answer new) h a, refl)
  answered_push old mid new (first ∷ names) (found ∷ answers) name answer h a = (h.0, h.1, answered_push h.0 mid new names answers name answer h.2 a)
  answered_push old mid new [] (found ∷ answers) name answer h a = absurd h
  answered_push old mid new (first ∷ names) [] name answer h a = absurd h

  text_push : (len : Option ℕ) (old mid : S) (names : List (List ℕ)) (answers : List RootAnswer) (name : List ℕ) (answer : RootAnswer) → AreRootAnswers gives reports old names answers mid
      → root_answers_text len (names ++ name ∷ []) (answers ++ answer ∷ []) ≡ root_answers_text len names answers ++ root_answer_text len name answer
  text_push len old mid [] [] name answer h = append-nil (root_answer_text len name answer)
  text_push len old mid (first ∷ names) (found ∷ answers) name answer h =
      ap (λ (text : List ℕ). root_answer_text len first found ++ text) (text_push len h.0 mid names answers name answer h.2)
      ∙ sym (append_assoc (root_answer_text len first found) (root_answers_text len names answers) (root_answer_text len name answer))
  text_push len old mid [] (found ∷ answers) name answer h = absurd h
  text_push len old mid (first ∷ names) [] name answer h = absurd h

verdict_push : (answers : List RootAnswer) (answer : RootAnswer) → both (root_answers_verdict answers) (if has_root answer then Good else Refused) ≡ root_answers_verdict (answers ++ answer ∷ [])
verdict_push [] answer = last (has_root answer)
  where
    last : (b : Bool) → (if b then Good else Refused) ≡ (if b && true then Good else Refused)
    last true = refl
    last false = refl
verdict_push (Ok root ∷ answers) answer = verdict_push answers answer
verdict_push (Err reason ∷ answers) answer = refl

-- what holds after i names
abbrev pub IsUpTo : {S : Type 0} → (S → List ℕ → Result ModelTop FileFault → S → Type 0) → (S → List ℕ → Reason → S → Type 0) → Option ℕ → S → List (List ℕ) → ℕ → S → Verdict → Option (List ℕ) → Option (List ℕ) → Type 0
IsUpTo gives reports len old names i new verdict before after =
    (answers : List RootAnswer) × AreRootAnswers gives reports old (take i names) answers new × Appends before after (root_answers_text len (take i names) answers)
    × (verdict ≡ root_answers_verdict answers)

taken : (names : List (List ℕ)) (i : ℕ) (name : List ℕ) → i < length names → name ≡ get_or names i name → take (i + 1) names ≡ take i names ++ name ∷ []
taken names i name lt is = take_more names i name lt ∙ ap (λ (n : List ℕ). take i names ++ n ∷ []) (sym is)

pub one_name_more : {S : Type 0} (gives : S → List ℕ → Result ModelTop FileFault → S → Type 0) (reports : S → List ℕ → Reason → S → Type 0) (len : Option ℕ) (old mid new : S) (names : List (List ℕ)) (i : ℕ) (name : List ℕ) (verdict found after : Verdict) (before grown last : Option (List ℕ))
    → i < length names → name ≡ get_or names i name → IsUpTo gives reports len old names i mid verdict before grown → IsSumOf gives reports len mid name new grown last found → after ≡ both verdict found
    → IsUpTo gives reports len old names (i + 1) new after before last
one_name_more gives reports len old mid new names i name verdict found after before grown last lt is h a worst =
    let more = sym (taken names i name lt is) in (
      h.0 ++ a.answer ∷ [],
      subst (λ (ns : List (List ℕ)). AreRootAnswers gives reports old ns (h.0 ++ a.answer ∷ []) new) more (answered_push gives reports old mid new (take i names) h.0 name a.answer h.1 a.answered),
      subst (λ (ns : List (List ℕ)). Appends before last (root_answers_text len ns (h.0 ++ a.answer ∷ []))) more
          (subst (Appends before last) (sym (text_push gives reports len old mid (take i names) h.0 name a.answer h.1))
          (Appends-trans before grown last (root_answers_text len (take i names) h.0) (root_answer_text len name a.answer) h.2 a.wrote)),
      worst ∙ ap (λ (v : Verdict). both v found) h.3 ∙ ap (both (root_answers_verdict h.0)) a.good ∙ verdict_push h.0 a.answer,
    )

-- there was a root, and what is written of it could not all be had or written
pub stopped_writing : {S : Type 0} (gives : S → List ℕ → Result ModelTop FileFault → S → Type 0) (len : Option ℕ) (old new : S) (name : List ℕ) (root : ModelTop) (before after : Option (List ℕ)) (cause : Cause)
    → gives old name (Ok root) new → cause ≢ CannotRead → (cause ≡ OutOfMemory → after ≡ before) → (cause ≡ CannotWrite → WroteSome before after (root_text len name root))
    → IsStoppedAt gives len cause old name new before after
stopped_writing gives len old new name root before after CannotRead given read none some = absurd (read refl)
stopped_writing gives len old new name root before after CannotWrite given read none some = (root, given, some refl)
stopped_writing gives len old new name root before after OutOfMemory given read none some = (inr (root, given), none refl)

pub stopped_at : {S : Type 0} (gives : S → List ℕ → Result ModelTop FileFault → S → Type 0) (reports : S → List ℕ → Reason → S → Type 0) (len : Option ℕ) (old mid new : S) (names : List (List ℕ)) (i : ℕ) (name : List ℕ) (verdict : Verdict) (before grown last : Option (List ℕ)) (cause : Cause)
    → i < length names → name ≡ get_or names i name → IsUpTo gives reports len old names i mid verdict before grown → IsStoppedAt gives len cause mid name new grown last
    → IsSumStopped gives reports len old names cause new before last
stopped_at gives reports len old mid new names i name verdict before grown last cause lt is h stop = record {
  front = take i names;
  name = name;
  back = drop (i + 1) names;
  answers = h.0;
  mid = mid;
  grown = grown;
  all = ap (λ (n : List ℕ). take i names ++ n ∷ drop (i + 1) names) is ∙ ap (λ (ns : List (List ℕ)). take i names ++ ns) (sym (drop_more names i name lt)) ∙ take-append-drop i names;
  answered = h.1;
  wrote = h.2;
  stopped = stop;
}
