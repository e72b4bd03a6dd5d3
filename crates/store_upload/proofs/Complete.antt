-- What a complete upload holds.
use Rattle.std.proofs.Common.{◌≡◌, ◌∙◌, ◌+◌, ◌≤◌, ℕ, List, [], ◌∷◌, Some, None, refl, sym, ap, arith, inl, inr}
use Rattle.std.specs.Prelude.{IsSome, is_some, nat_lt, option_map}
use Rattle.std.proofs.lemmas.Bool.{cases_Bool, cases_eq, eq-eqb, ltb-false, ne_eqb}
use Rattle.store_upload.specs.declared.refusal.FinishFault.TheVariants.{Incomplete, NotFixed}
use Rattle.store_upload.specs.Uploads.{ArePlaced, IsUpload, ModelUpload, end_of, finish_fault, first_gap, first_missing, held_bytes, length_of}
use Rattle.store_upload.proofs.Places.{held-cons}

module _ {P : Type 0} (len : P → ℕ) where
  pub gap_here : (a : ℕ) (p : ℕ × P) (ps : List (ℕ × P)) → p.0 ≡ a → first_gap len a (p ∷ ps) ≡ first_gap len (end_of len p) ps
  unfolding first_gap
  gap_here a p ps same = rw (eq-eqb p.0 a same, first_gap) refl

  pub gap_stops : (a : ℕ) (p : ℕ × P) (ps : List (ℕ × P)) → (p.0 ≡ a → ⊥) → first_gap len a (p ∷ ps) ≡ a
  unfolding first_gap
  gap_stops a p ps other = rw (ne_eqb p.0 a other, first_gap) refl

  -- parts that leave no gap hold all
  no_gap : (n a : ℕ) (ps : List (ℕ × P)) → a ≤ n → ArePlaced len n a ps → n ≤ first_gap len a ps → a + held_bytes len ps ≡ n
  unfolding first_gap
  no_gap n a [] first placed gap = omega (arith, first, gap)
  no_gap n a (p ∷ ps) first placed gap = elim (cases_eq p.0 a) [
    | inl same ↦
        let rest = no_gap n (end_of len p) ps placed.1.within placed.2 (let on = gap_here a p ps same in omega (arith, on, gap)) in
        let cons = held-cons len p ps in
        omega (arith, rest, cons, same)
    | inr apart ↦
        let stops = gap_stops a p ps apart in
        let within = placed.1.within in
        let some = placed.1.some in
        absurd (omega (arith, stops, gap, placed.0, within, some, apart))
  ]

  -- a complete upload has its end, and holds as many bytes as it is long
  pub record IsWhole (u : ModelUpload P) : Type 0 where
    pub fixed : IsSome u.end
    pub held : held_bytes len u.parts ≡ length_of u

  pub whole_is : (u : ModelUpload P) → IsUpload len u → finish_fault len u ≡ None → IsWhole u
  whole_is u lawful none = elim (cases_Bool (is_some u.end)) [
    | inr open_yet ↦ let bad : finish_fault len u ≡ Some NotFixed = rw open_yet refl in let no = sym none ∙ bad in cc
    | inl fixed ↦
        let rest : option_map Incomplete (first_missing len u) ≡ None = sym (rw fixed refl) ∙ none in
        elim (cases_Bool (nat_lt (first_gap len 0 u.parts) (length_of u))) [
          | inl below ↦ let some : first_missing len u ≡ Some (first_gap len 0 u.parts) = rw below refl in let bad = sym rest ∙ ap (option_map Incomplete) some in cc
          | inr all ↦
              let most = ltb-false (first_gap len 0 u.parts) (length_of u) all in
              record { fixed = fixed; held = let all = no_gap (length_of u) 0 u.parts (omega arith) lawful.placed most in omega (arith, all) }
        ]
  ]
