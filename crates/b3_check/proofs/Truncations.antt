-- What went out of a text, step by step.
use Rattle.std.proofs.Common.{◌≡◌, ◌∙◌, ℕ, ◌+◌, ◌<◌, List, [], ◌∷◌, ◌++◌, Option, length, get_or, take, drop, sym, ap, subst, arith, append_assoc, append-nil, length-append, take-append-drop}
use Rattle.std.specs.Prelude.{Result, Ok, Err, OnErr}
use Rattle.std.specs.Io.KnownBytes.{Appends}
use Rattle.std.specs.List.{flat_map}
use Rattle.std.proofs.KnownBytes.{Appends-trans}
use Rattle.std.proofs.lemmas.Grind.{flat_map-append}
use Rattle.std.proofs.lemmas.List.{drop_more}
use Rattle.edge.specs.Output.{AllBut, IsTruncated}

-- ---- one text

pub AllBut-all : (old new : Option (List ℕ)) (text rest : List ℕ) → AllBut old new text rest → length rest ≡ 0 → Appends old new text
AllBut-all old new text [] h none = subst (Appends old new) (sym (h.is ∙ append-nil h.front)) h.went
AllBut-all old new text (b ∷ rest) h none = absurd (cc)

-- ---- a text of two parts

pub truncated_first : (old new : Option (List ℕ)) (first then : List ℕ) → IsTruncated old new first → IsTruncated old new (first ++ then)
truncated_first old new first then h = record {
  rest = h.rest ++ then;
  some = omega (arith, length-append h.rest then, h.some);
  front = record { front = h.front.front; is = ap (λ z. z ++ then) h.front.is ∙ append_assoc h.front.front h.rest then; went = h.front.went };
}

pub truncated_second : (old mid new : Option (List ℕ)) (first then : List ℕ) → Appends old mid first → IsTruncated mid new then → IsTruncated old new (first ++ then)
truncated_second old mid new first then was h = record {
  rest = h.rest;
  some = h.some;
  front = record {
    front = first ++ h.front.front;
    is = ap (λ z. first ++ z) h.front.is ∙ sym (append_assoc first h.front.front h.rest);
    went = Appends-trans old mid new first h.front.front was h.front.went;
  };
}

-- a second text that is written last, and is truncated if that fails
pub truncated_last : {E : Type 0} (result : Result (Unit {0}) E) (old mid new : Option (List ℕ)) (first then : List ℕ) → Appends old mid first → OnErr result (IsTruncated mid new then) → OnErr result (IsTruncated old new (first ++ then))
truncated_last (Ok x) old mid new first then was h = tt
truncated_last (Err e) old mid new first then was h = truncated_second old mid new first then was h

-- ---- the texts of a list

pub truncated_at : {A : Type 0} (f : A → List ℕ) (old mid new : Option (List ℕ)) (xs : List A) (i : ℕ) (d : A) → i < length xs
    → Appends old mid (flat_map f (take i xs)) → IsTruncated mid new (f (get_or xs i d)) → IsTruncated old new (flat_map f xs)
truncated_at {A} f old mid new xs i d lt was h =
    let x : A = get_or xs i d in
    let parts : take i xs ++ (x ∷ drop (i + 1) xs) ≡ xs = ap (λ (ys : List A). take i xs ++ ys) (sym (drop_more xs i d lt)) ∙ take-append-drop i xs in
    let texts : flat_map f (take i xs) ++ (f x ++ flat_map f (drop (i + 1) xs)) ≡ flat_map f xs = sym (flat_map-append f (take i xs) (x ∷ drop (i + 1) xs)) ∙ ap (flat_map f) parts in
    subst (λ (text : List ℕ). IsTruncated old new text) texts
    (truncated_second old mid new (flat_map f (take i xs)) (f x ++ flat_map f (drop (i + 1) xs)) was (truncated_first mid new (f x) (flat_map f (drop (i + 1) xs)) h))

pub truncated_within : {A : Type 0} (f : A → List ℕ) (old mid new : Option (List ℕ)) (xs : List A) (i : ℕ) (x : A) → i < length xs → x ≡ get_or xs i x
    → Appends old mid (flat_map f (take i xs)) → IsTruncated mid new (f x) → IsTruncated old new (flat_map f xs)
truncated_within {A} f old mid new xs i x lt is was h = truncated_at f old mid new xs i x lt was (subst (λ (y : A). IsTruncated mid new (f y)) is h)

-- ---- the text of a name

pub named_parts : (mark what gap name end : List ℕ) → (mark ++ (what ++ (gap ++ []))) ++ (name ++ end) ≡ mark ++ ((what ++ gap) ++ (name ++ end))
named_parts mark what gap name end = simp (append-nil, append_assoc)

pub truncated_word : (old new : Option (List ℕ)) (m mark what gap name end : List ℕ) → m ≡ mark → IsTruncated old new (m ++ (what ++ (gap ++ []))) → IsTruncated old new (mark ++ ((what ++ gap) ++ (name ++ end)))
truncated_word old new m mark what gap name end is h =
    subst (λ (x : List ℕ). IsTruncated old new (x ++ ((what ++ gap) ++ (name ++ end)))) is
    (subst (λ (text : List ℕ). IsTruncated old new text) (named_parts m what gap name end) (truncated_first old new (m ++ (what ++ (gap ++ []))) (name ++ end) h))

pub truncated_name : (old mid new : Option (List ℕ)) (m mark what gap name end : List ℕ) → m ≡ mark → Appends old mid (m ++ (what ++ (gap ++ []))) → IsTruncated mid new name → IsTruncated old new (mark ++ ((what ++ gap) ++ (name ++ end)))
truncated_name old mid new m mark what gap name end is was h =
    subst (λ (x : List ℕ). IsTruncated old new (x ++ ((what ++ gap) ++ (name ++ end)))) is
    (subst (λ (text : List ℕ). IsTruncated old new text) (named_parts m what gap name end)
    (truncated_second old mid new (m ++ (what ++ (gap ++ []))) (name ++ end) was (truncated_first mid new name end h)))

pub truncated_end : {E : Type 0} (result : Result (Unit {0}) E) (old mid then new : Option (List ℕ)) (m mark what gap name end : List ℕ) → m ≡ mark → Appends old mid (m ++ (what ++ (gap ++ []))) → Appends mid then name
    → OnErr result (IsTruncated then new end) → OnErr result (IsTruncated old new (mark ++ ((what ++ gap) ++ (name ++ end))))
truncated_end (Ok x) old mid then new m mark what gap name end is was named h = tt
truncated_end (Err e) old mid then new m mark what gap name end is was named h =
    subst (λ (x : List ℕ). IsTruncated old new (x ++ ((what ++ gap) ++ (name ++ end)))) is
    (subst (λ (text : List ℕ). IsTruncated old new text) (named_parts m what gap name end)
    (truncated_second old mid new (m ++ (what ++ (gap ++ []))) (name ++ end) was (truncated_second mid then new name end named h)))
