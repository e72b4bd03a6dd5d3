-- Reading units one byte after another, and what they stand for.
use Rattle.std.proofs.Common.{◌≡◌, ◌≢◌, ◌∙◌, ℕ, ◌+◌, ◌<◌, ◌≤◌, Bool, true, false, List, [], ◌∷◌, ◌++◌, Some, None, Ok, Err, Option, Result, refl, sym, ap, subst, append_assoc, length, get_or, drop, inl, inr}
use Rattle.std.specs.Prelude.{◌==◌, ◌||◌}
use Rattle.std.proofs.lemmas.List.{append-nil, drop_more, drop_all}
use Rattle.std.proofs.lemmas.Bool.{eqb-true, eqb-false, ne_eqb, eq-eqb, or_parts, cases_eq}
use Rattle.b3_check.specs.declared.fault.Fault.{Fault}
use Rattle.b3_check.specs.declared.fault.Fault.TheVariants.{BadEscape}
use Rattle.b3_check.specs.Names.{after_escape, backslash, escape_value, escaped, in_front, is_special, needs_escapes, unescaped_from, unit_of, IsEscape, StandsFor, nothing, itself, escape}

-- what was read before, and what is still read
abbrev pub with_front : List ℕ → Result (List ℕ) Fault → Result (List ℕ) Fault
with_front front (Ok name) = Ok (front ++ name)
with_front front (Err fault) = Err fault

abbrev done : List ℕ → Result (List ℕ) Fault
done name = Ok name

-- a byte more was read
pub with_front-in_front : (front : List ℕ) (b : ℕ) (read : Result (List ℕ) Fault) → with_front front (in_front b read) ≡ with_front (front ++ b ∷ []) read
with_front-in_front front b (Ok name) = ap done (sym (append_assoc front (b ∷ []) name))
with_front-in_front front b (Err fault) = refl

-- ---- one byte after another

pub reads_backslash : (front units : List ℕ) (i : ℕ) (total : Result (List ℕ) Fault) → i < length units → get_or units i 0 ≡ backslash
    → with_front front (unescaped_from false (drop i units)) ≡ total → with_front front (unescaped_from true (drop (i + 1) units)) ≡ total
unfolding unescaped_from
reads_backslash front units i total lt is so_far =
    let here : with_front front (unescaped_from false (drop i units)) ≡ with_front front (unescaped_from true (drop (i + 1) units)) =
    ap (λ (w : List ℕ). with_front front (unescaped_from false w)) (drop_more units i 0 lt)
    ∙ ap (λ (t : Bool). with_front front (elim t [ true ↦ unescaped_from true (drop (i + 1) units) | false ↦ in_front (get_or units i 0) (unescaped_from false (drop (i + 1) units)) ])) (eq-eqb (get_or units i 0) backslash is) in
    sym here ∙ so_far

pub reads_byte : (front units : List ℕ) (i : ℕ) (total : Result (List ℕ) Fault) → i < length units → get_or units i 0 ≢ backslash
    → with_front front (unescaped_from false (drop i units)) ≡ total → with_front (front ++ get_or units i 0 ∷ []) (unescaped_from false (drop (i + 1) units)) ≡ total
unfolding unescaped_from
reads_byte front units i total lt is so_far =
    let here : with_front front (unescaped_from false (drop i units)) ≡ with_front front (in_front (get_or units i 0) (unescaped_from false (drop (i + 1) units))) =
    ap (λ (w : List ℕ). with_front front (unescaped_from false w)) (drop_more units i 0 lt)
    ∙ ap (λ (t : Bool). with_front front (elim t [ true ↦ unescaped_from true (drop (i + 1) units) | false ↦ in_front (get_or units i 0) (unescaped_from false (drop (i + 1) units)) ])) (ne_eqb (get_or units i 0) backslash is) in
    sym (here ∙ with_front-in_front front (get_or units i 0) (unescaped_from false (drop (i + 1) units))) ∙ so_far

pub reads_escape : (front units : List ℕ) (i b : ℕ) (total : Result (List ℕ) Fault) → i < length units → escape_value (get_or units i 0) ≡ Some b
    → with_front front (unescaped_from true (drop i units)) ≡ total → with_front (front ++ b ∷ []) (unescaped_from false (drop (i + 1) units)) ≡ total
unfolding unescaped_from
reads_escape front units i b total lt is so_far =
    let here : with_front front (unescaped_from true (drop i units)) ≡ with_front front (in_front b (unescaped_from false (drop (i + 1) units))) =
    ap (λ (w : List ℕ). with_front front (unescaped_from true w)) (drop_more units i 0 lt)
    ∙ ap (λ (o : Option ℕ). with_front front (after_escape o (unescaped_from false (drop (i + 1) units)))) is in
    sym (here ∙ with_front-in_front front b (unescaped_from false (drop (i + 1) units))) ∙ so_far

pub reads_no_escape : (front units : List ℕ) (i : ℕ) (total : Result (List ℕ) Fault) → i < length units → escape_value (get_or units i 0) ≡ None
    → with_front front (unescaped_from true (drop i units)) ≡ total → total ≡ Err BadEscape
unfolding unescaped_from
reads_no_escape front units i total lt is so_far =
    let here : with_front front (unescaped_from true (drop i units)) ≡ Err BadEscape =
    ap (λ (w : List ℕ). with_front front (unescaped_from true w)) (drop_more units i 0 lt)
    ∙ ap (λ (o : Option ℕ). with_front front (after_escape o (unescaped_from false (drop (i + 1) units)))) is in
    sym so_far ∙ here

pub reads_to_end : (front units : List ℕ) (i : ℕ) (total : Result (List ℕ) Fault) → length units ≤ i
    → with_front front (unescaped_from false (drop i units)) ≡ total → total ≡ Ok front
unfolding unescaped_from
reads_to_end front units i total le so_far =
    let here : with_front front (unescaped_from false (drop i units)) ≡ Ok front =
    ap (λ (w : List ℕ). with_front front (unescaped_from false w)) (drop_all i units le) ∙ ap done (append-nil front) in
    sym so_far ∙ here

pub reads_cut_escape : (front units : List ℕ) (i : ℕ) (total : Result (List ℕ) Fault) → length units ≤ i
    → with_front front (unescaped_from true (drop i units)) ≡ total → total ≡ Err BadEscape
unfolding unescaped_from
reads_cut_escape front units i total le so_far =
    let here : with_front front (unescaped_from true (drop i units)) ≡ Err BadEscape =
    ap (λ (w : List ℕ). with_front front (unescaped_from true w)) (drop_all i units le) in
    sym so_far ∙ here

-- ---- what units stand for

-- an escape has one value
escape_is : (c b : ℕ) → IsEscape c b → escape_value c ≡ Some b
escape_is c b (inl h) = rw (h.0, h.1) refl
escape_is c b (inr (inl h)) = rw (h.0, h.1) refl
escape_is c b (inr (inr h)) = rw (h.0, h.1) refl

some_is : (x y : ℕ) → Some x ≡ Some y → x ≡ y
some_is x y e = cc

is_escape : (c b : ℕ) → escape_value c ≡ Some b → IsEscape c b
is_escape c b e =
    elim (cases_eq c 92) [
      | inl h ↦ inl (h, sym (some_is 92 b (sym (rw (eq-eqb c 92 h) refl) ∙ e)))
      | inr h ↦
          elim (cases_eq c 110) [
            | inl k ↦ inr (inl (k, sym (some_is 10 b (sym (rw (ne_eqb c 92 h, eq-eqb c 110 k) refl) ∙ e))))
            | inr k ↦
                elim (cases_eq c 114) [
                  | inl m ↦ inr (inr (m, sym (some_is 13 b (sym (rw (ne_eqb c 92 h, ne_eqb c 110 k, eq-eqb c 114 m) refl) ∙ e))))
                  | inr m ↦ absurd (none_is b (sym (rw (ne_eqb c 92 h, ne_eqb c 110 k, ne_eqb c 114 m) refl) ∙ e))
                ]
          ]
    ]
  where
    none_is : (b : ℕ) → None ≡ Some b → ⊥
    none_is b e = cc

-- what units stand for is read
pub unescaped-from_StandsFor : {units name : List ℕ} → StandsFor units name → unescaped_from false units ≡ Ok name
unfolding unescaped_from
unescaped-from_StandsFor nothing = refl
unescaped-from_StandsFor (itself {b} {units} {name} ne rest) =
    ap (λ (t : Bool). elim t [ true ↦ unescaped_from true units | false ↦ in_front b (unescaped_from false units) ]) (ne_eqb b backslash ne)
    ∙ ap (in_front b) (unescaped-from_StandsFor rest)
unescaped-from_StandsFor (escape {c} {b} {units} {name} is rest) =
    ap (λ (o : Option ℕ). after_escape o (unescaped_from false units)) (escape_is c b is) ∙ ap (in_front b) (unescaped-from_StandsFor rest)

-- what is read after a backslash, or not, stands for the name
abbrev Stands : Bool → List ℕ → List ℕ → Type 0
Stands false units name = StandsFor units name
Stands true units name = StandsFor (backslash ∷ units) name

done_is : (x y : List ℕ) → done x ≡ done y → x ≡ y
done_is x y e = cc

front_ok : (b : ℕ) (read : Result (List ℕ) Fault) (name : List ℕ) → in_front b read ≡ Ok name → (rest : List ℕ) × (read ≡ Ok rest) × (b ∷ rest ≡ name)
front_ok b (Ok rest) name e = (rest, refl, done_is (b ∷ rest) name e)
front_ok b (Err fault) name e = absurd cc

escape_ok : (o : Option ℕ) (read : Result (List ℕ) Fault) (name : List ℕ) → after_escape o read ≡ Ok name → (b : ℕ) × (o ≡ Some b) × (in_front b read ≡ Ok name)
escape_ok (Some b) read name e = (b, refl, e)
escape_ok None read name e = absurd cc

abbrev chosen : Bool → Result (List ℕ) Fault → Result (List ℕ) Fault → Result (List ℕ) Fault
chosen t x y = elim t [ true ↦ x | false ↦ y ]

stands_here : (b : ℕ) (units name : List ℕ) (following plain : Result (List ℕ) Fault) → (following ≡ Ok name → StandsFor (backslash ∷ units) name) → ((n : List ℕ) → plain ≡ Ok n → StandsFor units n)
    → (t : Bool) → (b == backslash) ≡ t → chosen t following (in_front b plain) ≡ Ok name → StandsFor (b ∷ units) name
stands_here b units name following plain p q true is e = subst (λ (c : ℕ). StandsFor (c ∷ units) name) (sym (eqb-true b backslash is)) (p e)
stands_here b units name following plain p q false is e =
    let r = front_ok b plain name e in
    subst (λ (n : List ℕ). StandsFor (b ∷ units) n) r.2 (itself (eqb-false b backslash is) (q r.0 r.1))

pub StandsFor-from_unescaped : (after : Bool) (units name : List ℕ) → unescaped_from after units ≡ Ok name → Stands after units name
unfolding unescaped_from
StandsFor-from_unescaped false [] name e = subst (λ (n : List ℕ). StandsFor [] n) (done_is [] name e) nothing
StandsFor-from_unescaped true [] name e = absurd cc
StandsFor-from_unescaped false (b ∷ units) name e =
    stands_here b units name (unescaped_from true units) (unescaped_from false units) (StandsFor-from_unescaped true units name) (λ n. StandsFor-from_unescaped false units n) (b == backslash) refl e
StandsFor-from_unescaped true (c ∷ units) name e =
    let o = escape_ok (escape_value c) (unescaped_from false units) name e in
    let r = front_ok o.0 (unescaped_from false units) name o.2 in
    subst (λ (n : List ℕ). StandsFor (backslash ∷ c ∷ units) n) r.2 (escape (is_escape c o.0 o.1) (StandsFor-from_unescaped false units r.0 r.1))

-- ---- what is written

-- a name as it is written stands for the name
pub StandsFor-escaped : (name : List ℕ) → StandsFor (escaped name) name
StandsFor-escaped [] = nothing
StandsFor-escaped (b ∷ name) =
    elim (cases_eq b backslash) [
      | inl h ↦ subst (λ (c : ℕ). StandsFor (unit_of c ++ escaped name) (c ∷ name)) (sym h) (escape (inl (refl, refl)) (StandsFor-escaped name))
      | inr h ↦
          elim (cases_eq b 10) [
            | inl k ↦ subst (λ (c : ℕ). StandsFor (unit_of c ++ escaped name) (c ∷ name)) (sym k) (escape (inr (inl (refl, refl))) (StandsFor-escaped name))
            | inr k ↦
                elim (cases_eq b 13) [
                  | inl m ↦ subst (λ (c : ℕ). StandsFor (unit_of c ++ escaped name) (c ∷ name)) (sym m) (escape (inr (inr (refl, refl))) (StandsFor-escaped name))
                  | inr m ↦ rw (ne_eqb b 92 h, ne_eqb b 10 k, ne_eqb b 13 m) (itself h (StandsFor-escaped name))
                ]
          ]
    ]

-- a name without a special byte is written as it is
pub escaped-plain : (name : List ℕ) → needs_escapes name ≡ false → escaped name ≡ name
escaped-plain [] h = refl
escaped-plain (b ∷ name) h =
    let parts = or_parts (is_special b) (needs_escapes name) h in
    let both = or_parts (b == 92 || b == 10) (b == 13) parts.0 in
    let two = or_parts (b == 92) (b == 10) both.0 in
    rw (two.0, two.1, both.1, escaped-plain name parts.1) refl
