-- What a loop makes of the elements of a list, one after another.
use Rattle.std.proofs.Common.{◌≡◌, ◌∙◌, ◌+◌, ◌<◌, ◌≤◌, ℕ, List, [], ◌∷◌, ap, sym, length, get_or, drop}
use Rattle.std.proofs.lemmas.List.{at_drop_all, at_drop_more}

-- if the elements from number i on make all of what there is, then those after the next one make it of what there is then
pub folded_on : {A B : Type 0} (g : B → List A → B) (f : B → A → B) → ((b : B) (x : A) (xs : List A) → g b (x ∷ xs) ≡ g (f b x) xs) → (b next all : B) (xs : List A) (i : ℕ) (d : A)
    → i < length xs → next ≡ f b (get_or xs i d) → g b (drop i xs) ≡ all → g next (drop (i + 1) xs) ≡ all
folded_on g f step b next all xs i d there now h =
    ap (λ c. g c (drop (i + 1) xs)) now ∙ (sym (step b (get_or xs i d) (drop (i + 1) xs)) ∙ (sym (at_drop_more (g b) xs i d there) ∙ h))

-- at the end all is made
pub folded_all : {A B : Type 0} (g : B → List A → B) → ((b : B) → g b [] ≡ b) → (b all : B) (xs : List A) (i : ℕ) → length xs ≤ i → g b (drop i xs) ≡ all → b ≡ all
folded_all g none b all xs i past h = sym (none b) ∙ (sym (at_drop_all (g b) xs i past) ∙ h)
