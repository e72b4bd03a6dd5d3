-- Texts one after another: those of the elements of a list, and those that a writer gets.
use Rattle.std.proofs.Common.{◌≡◌, ◌∙◌, ◌+◌, ◌<◌, ◌≤◌, ℕ, List, [], ◌∷◌, ◌++◌, Some, None, ap, sym, subst, length, get_or, drop, append_assoc}
use Rattle.std.specs.Prelude.{Option}
use Rattle.std.specs.Io.KnownBytes.{Appends}
use Rattle.std.proofs.lemmas.List.{append-nil, at_drop_all, at_drop_more}
use Rattle.edge.specs.Output.{WroteSome}
use Rattle.edge.proofs.Output.{some_between}

-- what was joined and the text of the rest are the whole: so it is with one element more
pub joined : {A : Type 0} (g : List A → List ℕ) (line : A → List ℕ) → ((x : A) (xs : List A) → g (x ∷ xs) ≡ line x ++ g xs) → (done all : List ℕ) (xs : List A) (i : ℕ) (x : A)
    → i < length xs → x ≡ get_or xs i x → done ++ g (drop i xs) ≡ all → (done ++ line x) ++ g (drop (i + 1) xs) ≡ all
joined g line step done all xs i x there is h =
    append_assoc done (line x) _ ∙ ap (λ ys. done ++ ys) (sym (step x (drop (i + 1) xs)) ∙ ap (λ y. g (y ∷ drop (i + 1) xs)) is ∙ sym (at_drop_more g xs i x there)) ∙ h

-- at the end nothing is left
pub all_joined : {A : Type 0} (g : List A → List ℕ) → g [] ≡ [] → (done all : List ℕ) (xs : List A) (i : ℕ) → length xs ≤ i → done ++ g (drop i xs) ≡ all → done ≡ all
all_joined g none done all xs i past h = sym (append-nil done) ∙ ap (λ ys. done ++ ys) (sym (at_drop_all g xs i past ∙ none)) ∙ h

-- ---- what a writer holds

pub appends_none : (was : Option (List ℕ)) → Appends was was []
appends_none None = tt
appends_none (Some xs) = sym (append-nil xs)

pub appends_more : (a b c : Option (List ℕ)) (xs ys : List ℕ) → Appends a b xs → Appends b c ys → Appends a c (xs ++ ys)
appends_more None b c xs ys h k = tt
appends_more (Some p) None c xs ys h k = absurd h
appends_more (Some p) (Some q) None xs ys h k = absurd k
appends_more (Some p) (Some q) (Some r) xs ys h k = k ∙ ap (λ w. w ++ ys) h ∙ append_assoc p xs ys

-- the text of one element was cut off
pub some_joined : {A : Type 0} (g : List A → List ℕ) (line : A → List ℕ) → ((x : A) (xs : List A) → g (x ∷ xs) ≡ line x ++ g xs) → (old mid new : Option (List ℕ)) (done all : List ℕ) (xs : List A) (i : ℕ) (x : A)
    → i < length xs → x ≡ get_or xs i x → done ++ g (drop i xs) ≡ all → Appends old mid done → WroteSome mid new (line x) → WroteSome old new all
some_joined g line step old mid new done all xs i x there is h was cut =
    subst (WroteSome old new) (sym (append_assoc done (line x) (g (drop (i + 1) xs))) ∙ joined g line step done all xs i x there is h) (some_between old mid new done (line x) (g (drop (i + 1) xs)) was cut)
