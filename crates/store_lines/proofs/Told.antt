-- What is told of lines outside the grammar.
use Rattle.std.proofs.Common.{◌≡◌, ◌∙◌, ◌+◌, ◌-◌, ◌<◌, ◌++◌, ℕ, zero, suc, Bool, true, false, List, [], ◌∷◌, Some, None, Option, ap, append-nil, append_assoc, arith, cond, inl, inr, length, refl, subst, sym, take, take-take, take_all}
use Rattle.std.specs.Prelude.{◌==◌, nat_le, option_map}
use Rattle.std.specs.List.{AllByRecursion, list_any}
use Rattle.std.specs.Io.BufRead.{ends_with_byte, strip_last}
use Rattle.std.specs.Str.{bytes_eq}
use Rattle.std.proofs.lemmas.Bool.{cases_lt, false_from_ne_true, leb-true}
use Rattle.std.proofs.lemmas.Slice.Eq.{bytes_eq-Decides}
use Rattle.std.proofs.lemmas.List.{length-take-le}
use Rattle.edge.specs.Fields.{split_at, space}
use Rattle.store_lines.specs.Grammar.{command_at, fault_at, fault_unless, line_fault, word_fault, word_of, words}
use Rattle.store_lines.specs.Running.{AreTold, told_from, told_of}
use Rattle.store_lines.specs.declared.bad_lines.LineFault.{LineFault}
use Rattle.store_lines.specs.declared.bad_lines.LineFault.TheVariants.{UnknownCommand}
use Rattle.store_lines.specs.declared.request.Request.{Request}
use Rattle.edge.specs.declared.lines.LineRead.{LineRead}
use Rattle.store_lines.specs.declared.session_line.Line.{Line}
use Rattle.store_lines.specs.declared.session_line.Line.TheVariants as lines
use Rattle.store_lines.specs.inner.Answers.{TellsRead}
use Rattle.store_lines.specs.inner.Requests.{IsLineOf, IsScriptFound, IsSessionLine}

-- ---- a line that was read

pub good_line : (line : List ℕ) (request : Request) → Some request ≡ command_at line → fault_at line ≡ None
good_line [] request is = refl
good_line (b ∷ line) request is = subst (λ (o : Option Request). fault_unless o (line_fault (b ∷ line)) ≡ None) is refl

pub empty_line : (line : List ℕ) → length line ≡ 0 → fault_at line ≡ None
empty_line [] none = refl
empty_line (b ∷ line) none = absurd (omega (arith, none))

pub bad_line : (line : List ℕ) → 0 < length line → None ≡ command_at line → fault_at line ≡ Some (line_fault line)
bad_line [] some is = absurd (omega (arith, some))
bad_line (b ∷ line) some is = subst (λ (o : Option Request). fault_unless o (line_fault (b ∷ line)) ≡ Some (line_fault (b ∷ line))) is refl

-- ---- the first word of a long line

abbrev first_of : List ℕ → List ℕ
first_of line = word_of line (split_at space line)

first_on : (b : ℕ) (bytes : List ℕ) → first_of (b ∷ bytes) ≡ cond (b == space) [] (b ∷ first_of bytes)
first_on b bytes = go (b == space) (split_at space bytes)
  where
    go : (t : Bool) (o : Option (List ℕ × List ℕ)) → word_of (b ∷ bytes) (cond t (Some ([], bytes)) (option_map (λ x. (b ∷ x.0, x.1)) o)) ≡ cond t [] (b ∷ word_of bytes o)
    go true o = refl
    go false None = refl
    go false (Some cut) = refl

first_taken : (n : ℕ) (bytes : List ℕ) → first_of (take n bytes) ≡ take n (first_of bytes)
first_taken zero bytes = refl
first_taken (suc n) [] = refl
first_taken (suc n) (b ∷ bytes) = first_on b (take n bytes) ∙ go (b == space) (first_of (take n bytes)) (first_of bytes) (first_taken n bytes) ∙ ap (take (suc n)) (sym (first_on b bytes))
  where
    go : (t : Bool) (xs ys : List ℕ) → xs ≡ take n ys → cond t [] (b ∷ xs) ≡ take (suc n) (cond t [] (b ∷ ys))
    go true xs ys is = refl
    go false xs ys is = ap (λ zs. b ∷ zs) is

-- a longer word is none of these
none_of : (known : List (List ℕ)) (word : List ℕ) → AllByRecursion (λ w. nat_le (length w) 7 ≡ true) known → 7 < length word → list_any (λ w. bytes_eq w word) known ≡ false
none_of [] word short long = refl
none_of (w ∷ known) word short long =
    let other : bytes_eq w word ≡ false = false_from_ne_true (bytes_eq w word) (λ same. let is = (bytes_eq-Decides w word).0 same in omega (arith, long, leb-true (length w) 7 short.0, ap length is)) in
    rw other (none_of known word short.1 long)

long_word : (word : List ℕ) → 7 < length word → word_fault word ≡ UnknownCommand
unfolding word_fault
long_word word long = rw (none_of words word (refl, (refl, (refl, (refl, (refl, (refl, (refl, (refl, (refl, (refl, (refl, (refl, (refl, (refl, (refl, tt))))))))))))))) long) refl

word_taken : (n : ℕ) (word : List ℕ) → 7 < n → word_fault (take n word) ≡ word_fault word
word_taken n word some = elim (cases_lt n (length word)) [
  | inl long ↦ long_word (take n word) (omega (arith, some, long, length-take-le n word (omega (arith, long)))) ∙ sym (long_word word (omega (arith, some, long)))
  | inr short ↦ ap word_fault (take_all n word short)
]

pub fault_taken : (n : ℕ) (line : List ℕ) → 7 < n → line_fault (take n line) ≡ line_fault line
fault_taken n line some = ap word_fault (first_taken n line) ∙ word_taken n (first_of line) some

pub strip_taken : (n : ℕ) (whole : List ℕ) → n < length whole → take n (strip_last 10 whole) ≡ take n whole
strip_taken n whole longer = go (ends_with_byte 10 whole)
  where
    go : (t : Bool) → take n (cond t (take (length whole - 1) whole) whole) ≡ take n whole
    go true = take-take n (length whole - 1) whole (omega (arith, longer))
    go false = refl

-- ---- what is told

module _ {S : Type 0} (Tells : S → ℕ → LineFault → S → Type 0) where
  pub tells_none : (old : S) (number : ℕ) (fault : Option LineFault) → fault ≡ None → AreTold Tells old old (told_of number fault)
  tells_none old number fault none = subst (λ (o : Option LineFault). AreTold Tells old old (told_of number o)) (sym none) refl

  pub tells_one : (old new : S) (number : ℕ) (found : LineFault) (fault : Option LineFault) → fault ≡ Some found → Tells old number found new → AreTold Tells old new (told_of number fault)
  tells_one old new number found fault is told = subst (λ (o : Option LineFault). AreTold Tells old new (told_of number o)) (sym is) (new, told, refl)

  pub tells_on : (old mid new : S) (first others : List (ℕ × LineFault)) → AreTold Tells old mid first → AreTold Tells mid new others → AreTold Tells old new (first ++ others)
  tells_on old mid new [] others h k = subst (λ (s : S). AreTold Tells s new others) h k
  tells_on old mid new (bad ∷ first) others h k = (h.0, h.1, tells_on h.0 mid new first others h.2 k)

  pub read_told : (old new : S) (number : ℕ) (read : LineRead) (kept : List ℕ) (found : Line) (fault : LineFault) → found ≡ lines.Bad fault → IsScriptFound read kept found → Tells old number fault new → TellsRead Tells old new number read kept
  read_told old new number read kept found fault same h told = record {
    tells = λ whole r.
        let line = strip_last 10 whole in
        let is = subst (IsLineOf line) same (h.is whole r) in
        tells_one old new number fault (fault_at line) (bad_line line is.0 is.1 ∙ ap (λ f. Some f) (sym is.2)) told;
  }

  pub nothing_told : (old : S) (number : ℕ) (read : LineRead) (kept : List ℕ) (found : Line) → found ≡ lines.Empty → IsScriptFound read kept found → TellsRead Tells old old number read kept
  nothing_told old number read kept found same h = record { tells = λ whole r. let line = strip_last 10 whole in tells_none old number (fault_at line) (empty_line line (subst (IsLineOf line) same (h.is whole r))) }

  pub request_untold : (old : S) (number : ℕ) (read : LineRead) (kept : List ℕ) (found : Line) (request : Request) → found ≡ lines.Has request → IsScriptFound read kept found → TellsRead Tells old old number read kept
  request_untold old number read kept found request same h = record { tells = λ whole r. let line = strip_last 10 whole in tells_none old number (fault_at line) (good_line line request (subst (IsLineOf line) same (h.is whole r)).1) }

  -- of a line more
  pub tells_more : (start old new : S) (number : ℕ) (read : LineRead) (kept : List ℕ) → TellsRead Tells old new number read kept → (whole : List ℕ) → IsSessionLine whole read kept → (told : List (ℕ × LineFault)) → AreTold Tells start old told
      → AreTold Tells start new (told ++ told_of number (fault_at (strip_last 10 whole)))
  tells_more start old new number read kept h whole r told before = tells_on start old new told (told_of number (fault_at (strip_last 10 whole))) before (h.tells whole r)

pub told_more : (first : ℕ) (front : List (List ℕ)) (line : List ℕ) (number : ℕ) → first + length front ≡ number → told_from first (front ++ line ∷ []) ≡ told_from first front ++ told_of number (fault_at line)
told_more first [] line number is = append-nil (told_of first (fault_at line)) ∙ ap (λ (n : ℕ). told_of n (fault_at line)) (omega (arith, is))
told_more first (l ∷ front) line number is =
    ap (λ told. told_of first (fault_at l) ++ told) (told_more (first + 1) front line number (omega (arith, is))) ∙ sym (append_assoc (told_of first (fault_at l)) (told_from (first + 1) front) (told_of number (fault_at line)))
