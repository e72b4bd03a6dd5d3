-- A line without the carriage returns at its end, by the place of its last other byte.
use Rattle.std.proofs.Common.{◌≡◌, ◌≢◌, ℕ, suc, zero, ◌<◌, true, List, [], ◌∷◌, ◌++◌, refl, ap, subst, length, get_or, take, inl, inr, arith}
use Rattle.std.proofs.lemmas.Bool.{ne_eqb, eq-eqb, cases_eq, false≢true}
use Rattle.bstr.specs.Bytes.{is_in, not_in}
use Rattle.b3_check.specs.Lines.{before_returns, without_returns}

-- a byte is a carriage return, as the search for another one has it
pub is_return : (b : ℕ) → (not_in (13 ∷ []) b ≡ true → ⊥) → b ≡ 13
unfolding is_in
is_return b h = elim (cases_eq b 13) [ inl e ↦ e | inr ne ↦ absurd (h (rw (ne_eqb b 13 ne) refl)) ]

pub is_other : (b : ℕ) → not_in (13 ∷ []) b ≡ true → b ≢ 13
unfolding is_in
is_other b h e = false≢true (subst (λ (c : ℕ). not_in (13 ∷ []) c ≡ true) e h)

-- nothing but carriage returns
pub only_returns : (line : List ℕ) → ((k : ℕ) → k < length line → get_or line k 0 ≡ 13) → without_returns line ≡ []
unfolding without_returns
only_returns [] h = refl
only_returns (b ∷ line) h =
    let rest = only_returns line (λ k lt. h (suc k) (omega arith)) in
    let first : b ≡ 13 = h 0 (omega arith) in
    rw (rest, eq-eqb b 13 first) refl

-- the last byte that is no carriage return is at k
pub up_to_last : (line : List ℕ) (k : ℕ) → k < length line → get_or line k 0 ≢ 13 → ((j : ℕ) → k < j → j < length line → get_or line j 0 ≡ 13) → without_returns line ≡ take (suc k) line
unfolding without_returns
up_to_last [] k lt ne h = absurd (omega arith)
up_to_last (b ∷ line) zero lt ne h =
    let rest = only_returns line (λ k lt. h (suc k) (omega arith) (omega arith)) in
    rw (rest, ne_eqb b 13 ne) refl
up_to_last (b ∷ line) (suc k) lt ne h =
    let rest = up_to_last line k (omega arith) ne (λ j low high. h (suc j) (omega arith) (omega arith)) in
    rw rest (in_front b k line (omega arith))
  where
    in_front : (b k : ℕ) (line : List ℕ) → k < length line → before_returns b (take (suc k) line) ≡ b ∷ take (suc k) line
    in_front b k [] lt = absurd (omega arith)
    in_front b k (c ∷ line) lt = refl

-- a carriage return more at the end
pub without_returns-push : (line : List ℕ) → without_returns (line ++ 13 ∷ []) ≡ without_returns line
unfolding without_returns
without_returns-push [] = refl
without_returns-push (b ∷ line) = ap (before_returns b) (without_returns-push line)
