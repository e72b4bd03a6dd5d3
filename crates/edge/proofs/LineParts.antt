-- What parts of a line add up to.
use Rattle.std.proofs.Common.{◌≡◌, ◌≢◌, ◌∙◌, ◌+◌, ◌-◌, ◌<◌, ◌≤◌, ◌++◌, ◌∷◌, [], All, min, ℕ, Bool, true, false, List, Some, None, ap, append-nil, arith, inl, inr, length, length-append, refl, subst, sym, take, take_all, true≢false}
use Rattle.std.proofs.lemmas.Bool.{cases_lt, le-ltb, lt-ltb}
use Rattle.std.proofs.lemmas.List.{length-take, take-append-le}
use Rattle.std.proofs.Math.Seq.{get_or-append-add, take-append-add}
use Rattle.std.specs.Io.{IsEmptyOrEndsWith}
use Rattle.std.specs.Io.Iter.{u64_saturate}
use Rattle.std.specs.Prelude.{IfSome, Option, nat_lt, slice_index}
use Rattle.edge.specs.Lines.{HasNewline, IsLineRead}
use Rattle.edge.specs.inner.Reads.{KeepsPart}

pub if_some_weaken : {X : Type 0} (o : Option X) (P Q : X → Type 0) → ((x : X) → P x → Q x) → IfSome o P → IfSome o Q
if_some_weaken None P Q f h = tt
if_some_weaken (Some x) P Q f h = f x h

pub nothing_added : (max_len : ℕ) (xs : List ℕ) → xs ≡ xs ++ take (max_len - length xs) []
nothing_added max_len xs = sym (ap (λ l. xs ++ l) (take_all (max_len - length xs) [] (omega arith)) ∙ append-nil xs)

take_of_two : (m : ℕ) (xs ys : List ℕ) → take m (xs ++ ys) ≡ take m xs ++ take (m - length xs) ys
take_of_two m xs ys =
    elim (cases_lt (length xs) m) [
      | inl longer ↦
          let e : m ≡ length xs + (m - length xs) = omega arith in
          ap (λ k. take k (xs ++ ys)) e ∙ take-append-add xs ys (m - length xs) ∙ ap (λ l. l ++ take (m - length xs) ys) (sym (take_all m xs (omega arith)))
      | inr within ↦
          let e : m - length xs ≡ 0 = omega arith in
          take-append-le m xs ys (omega arith) ∙ sym (append-nil (take m xs)) ∙ ap (λ k. take m xs ++ take k ys) (sym e)
    ]

-- a part more of a line
pub kept_more : (max_len : ℕ) (line new done part : List ℕ) → line ≡ take max_len done → new ≡ line ++ take (max_len - length line) part → new ≡ take max_len (done ++ part)
kept_more max_len line new done part is more =
    let left : max_len - length line ≡ max_len - length done = omega (arith, ap length is, length-take max_len done) in
    more ∙ ap (λ k. line ++ take k part) left ∙ ap (λ l. l ++ take (max_len - length done) part) is ∙ sym (take_of_two max_len done part)

-- ---- a line that is kept, or lost

-- of a line so far, all that may be kept is kept; or it doesn't fit the room there was
abbrev pub KeptSoFar : ℕ → ℕ → Bool → List ℕ → List ℕ → Type 0
KeptSoFar max_len room true line done = line ≡ take max_len done
KeptSoFar max_len room false line done = room < length done

pub kept_none : (max_len room : ℕ) (was : Bool) (line : List ℕ) → KeepsPart max_len room was was line line []
kept_none max_len room true line = (refl, nothing_added max_len line)
kept_none max_len room false line = inl refl

pub kept_on : (max_len room more : ℕ) (was is : Bool) (line new done part : List ℕ) → room ≤ more → KeptSoFar max_len room was line done → KeepsPart max_len more was is line new part → KeptSoFar max_len room is new (done ++ part)
kept_on max_len room more true true line new done part le h k = kept_more max_len line new done part h k.1
kept_on max_len room more false true line new done part le h k = absurd (true≢false (sym k.0))
kept_on max_len room more true false line new done part le h (inl e) = absurd (true≢false e)
kept_on max_len room more true false line new done part le h (inr long) = omega (arith, le, long, ap length h, length-take max_len done, length-append done part)
kept_on max_len room more false false line new done part le h k = omega (arith, h, length-append done part)

positive : (len : ℕ) → nat_lt 0 len ≡ true → 0 < len
positive len some = elim (cases_lt 0 len) [
  | inl less ↦ less
  | inr none ↦ absurd (true≢false (sym some ∙ le-ltb 0 len none))
]

-- how a line ends, from its last part
pub ended_by : (done part : List ℕ) (len : ℕ) → length part ≡ len → IsEmptyOrEndsWith part 10 → nat_lt 0 len ≡ true → HasNewline (done ++ part)
ended_by done part len is ends some =
    let more : 0 < length part = omega (arith, is, positive len some) in
    let at : length (done ++ part) - 1 ≡ length done + (length part - 1) = omega (arith, more, length-append done part) in
    (omega (arith, more, length-append done part), ap (λ n. slice_index (done ++ part) n) at ∙ get_or-append-add done part (length part - 1) 0 ∙ ends more)

pub unended_by : (done part : List ℕ) (len : ℕ) → length part ≡ len → All (λ x. x ≢ 10) done → nat_lt 0 len ≡ false → HasNewline (done ++ part) → ⊥
unended_by done [] len is free none h =
    let whole : HasNewline done = subst HasNewline (append-nil done) h in
    free (length done - 1) 0 (omega (arith, whole.0)) whole.1
unended_by done (b ∷ part) len is free none h = true≢false (sym (lt-ltb 0 len (omega (arith, is))) ∙ none)

pub is_read : (max_len room : ℕ) (got whole : List ℕ) (total : ℕ) (is_kept is_ended : Bool) (kept : List ℕ) → got ≡ whole → total ≡ u64_saturate (length got) → KeptSoFar max_len room is_kept kept got → (is_ended ≡ true → HasNewline got) → (is_ended ≡ false → HasNewline got → ⊥)
    → IsLineRead max_len room whole (record { count = total; is_kept = is_kept; is_ended = is_ended }) kept
is_read max_len room got whole total true is_ended kept same counted h ended unended = record {
  count_is = counted ∙ ap (λ l. u64_saturate (length l)) same;
  kept_is = λ _. h ∙ ap (take max_len) same;
  long = λ lost. absurd (true≢false lost);
  ended = λ e. subst HasNewline same (ended e);
  unended = λ e k. unended e (subst HasNewline (sym same) k);
}
is_read max_len room got whole total false is_ended kept same counted h ended unended = record {
  count_is = counted ∙ ap (λ l. u64_saturate (length l)) same;
  kept_is = λ held. absurd (true≢false (sym held));
  long = λ _. omega (arith, h, ap length same);
  ended = λ e. subst HasNewline same (ended e);
  unended = λ e k. unended e (subst HasNewline (sym same) k);
}

-- a part of a line for which there is room, or none
pub kept_front : (max_len : ℕ) (line new bytes : List ℕ) (count : ℕ) → count ≡ min (max_len - length line) (length bytes) → new ≡ line ++ take count bytes → new ≡ line ++ take (max_len - length line) bytes
kept_front max_len line new bytes count is added = added ∙ ap (λ l. line ++ l) (ap (λ k. take k bytes) is ∙ take_min (max_len - length line) bytes)
  where
    take_min : (n : ℕ) (xs : List ℕ) → take (min n (length xs)) xs ≡ take n xs
    take_min n xs = elim (cases_lt n (length xs)) [
      | inl less ↦ let e : min n (length xs) ≡ n = omega arith in ap (λ k. take k xs) e
      | inr more ↦ let e : min n (length xs) ≡ length xs = omega arith in ap (λ k. take k xs) e ∙ take_all (length xs) xs (omega arith) ∙ sym (take_all n xs (omega arith))
    ]
