-- Lists of entries whose values are seen another way, and what holds of each.
use Rattle.std.proofs.Common.{◌≡◌, ◌∙◌, ◌+◌, ℕ, Bool, true, false, List, [], ◌∷◌, ◌++◌, Some, refl, ap, ap₂, sym, map, cond, subst}
use Rattle.std.specs.Prelude.{Option, sum_by, unwrap_or}
use Rattle.std.specs.List.{AllByRecursion}
use Rattle.std.specs.Map.{lookup, remove_entry, set_value, values_of}
use Rattle.std.proofs.lemmas.List.Sums.{sum_by-cons}

-- one or the other, by a test that waits
abbrev pub either : {A : Type 0} → Bool → A → A → A
either {A = A} test x y = elim test as (λ _. A) [ true ↦ x | false ↦ y ]

-- entries whose values are seen so
abbrev pub seen : {K V W : Type 0} → (V → W) → List (K × V) → List (K × W)
seen f es = map (λ e. (e.0, f e.1)) es

remove_step : {K V W : Type 0} (f : V → W) (b : Bool) (e : K × V) (es left : List (K × V)) (seen_left : List (K × W)) → seen_left ≡ seen f left → cond b (seen f es) ((e.0, f e.1) ∷ seen_left) ≡ seen f (cond b es (e ∷ left))
remove_step f true e es left seen_left h = refl
remove_step f false e es left seen_left h = ap (λ xs. (e.0, f e.1) ∷ xs) h

pub removed_seen : {K V W : Type 0} (f : V → W) (test : K → Bool) (es : List (K × V)) → remove_entry test (seen f es) ≡ seen f (remove_entry test es)
removed_seen f test [] = refl
removed_seen f test (e ∷ es) = remove_step f (test e.0) e es (remove_entry test es) (remove_entry test (seen f es)) (removed_seen f test es)

set_step : {K V W : Type 0} (f : V → W) (b : Bool) (e : K × V) (w : V) (es left : List (K × V)) (seen_left : List (K × W)) → seen_left ≡ seen f left → cond b ((e.0, f w) ∷ seen f es) ((e.0, f e.1) ∷ seen_left) ≡ seen f (cond b ((e.0, w) ∷ es) (e ∷ left))
set_step f true e w es left seen_left h = refl
set_step f false e w es left seen_left h = ap (λ xs. (e.0, f e.1) ∷ xs) h

pub set_seen : {K V W : Type 0} (f : V → W) (test : K → Bool) (es : List (K × V)) (w : V) → set_value test (seen f es) (f w) ≡ seen f (set_value test es w)
set_seen f test [] w = refl
set_seen f test (e ∷ es) w = set_step f (test e.0) e w es (set_value test es w) (set_value test (seen f es) (f w)) (set_seen f test es w)

-- ---- sums

pub sum_seen : {X Y : Type 0} (g : Y → ℕ) (f : X → Y) (xs : List X) → sum_by g (map f xs) ≡ sum_by (λ x. g (f x)) xs
sum_seen g f [] = refl
sum_seen g f (x ∷ xs) = sum_by-cons g (f x) (map f xs) ∙ ap (λ n. g (f x) + n) (sum_seen g f xs) ∙ sym (sum_by-cons (λ y. g (f y)) x xs)

pub sum_values_seen : {K X Y : Type 0} (f : X → Y) (g : Y → ℕ) (h : X → ℕ) → ((x : X) → g (f x) ≡ h x) → (es : List (K × X)) → sum_by g (values_of (seen f es)) ≡ sum_by h (values_of es)
sum_values_seen f g h same [] = refl
sum_values_seen f g h same (e ∷ es) = sum_by-cons g (f e.1) (values_of (seen f es)) ∙ ap₂ (λ (m n : ℕ). m + n) (same e.1) (sum_values_seen f g h same es) ∙ sym (sum_by-cons h e.1 (values_of es))

-- ---- what holds of each

pub all_push : {X : Type 0} (P : X → Type 0) (xs : List X) (y : X) → AllByRecursion P xs → P y → AllByRecursion P (xs ++ y ∷ [])
all_push P [] y h p = (p, tt)
all_push P (x ∷ xs) y h p = (h.0, all_push P xs y h.1 p)

pub all_weaker : {X : Type 0} (P Q : X → Type 0) (xs : List X) → ((x : X) → P x → Q x) → AllByRecursion P xs → AllByRecursion Q xs
all_weaker P Q [] f h = tt
all_weaker P Q (x ∷ xs) f h = (f x h.0, all_weaker P Q xs f h.1)

all_cond : {X : Type 0} (P : X → Type 0) (b : Bool) (xs ys : List X) → AllByRecursion P xs → AllByRecursion P ys → AllByRecursion P (cond b xs ys)
all_cond P true xs ys h k = h
all_cond P false xs ys h k = k

pub all_removed : {K V : Type 0} (P : K × V → Type 0) (test : K → Bool) (es : List (K × V)) → AllByRecursion P es → AllByRecursion P (remove_entry test es)
all_removed P test [] h = tt
all_removed P test (e ∷ es) h = all_cond P (test e.0) es (e ∷ remove_entry test es) h.1 (h.0, all_removed P test es h.1)

some_is : {A : Type 0} (x y : A) → Some x ≡ Some y → x ≡ y
some_is x y h = ap (λ o. unwrap_or o x) h

-- a value that is set in the place of the one that is found
set_all_step : {K V : Type 0} (P : K × V → Type 0) (b : Bool) (e : K × V) (v w : V) (found : Option V) (es left : List (K × V)) → ((k : K) → P (k, v) → P (k, w)) → cond b (Some e.1) found ≡ Some v
    → P e → AllByRecursion P es → (found ≡ Some v → AllByRecursion P left) → AllByRecursion P (cond b ((e.0, w) ∷ es) (e ∷ left))
set_all_step P true e v w found es left goes is h hs rest = (goes e.0 (subst (λ x. P (e.0, x)) (some_is e.1 v is) h), hs)
set_all_step P false e v w found es left goes is h hs rest = (h, rest is)

pub all_set : {K V : Type 0} (P : K × V → Type 0) (test : K → Bool) (es : List (K × V)) (v w : V) → ((k : K) → P (k, v) → P (k, w)) → lookup test es ≡ Some v → AllByRecursion P es → AllByRecursion P (set_value test es w)
all_set P test [] v w goes is h = tt
all_set P test (e ∷ es) v w goes is h = set_all_step P (test e.0) e v w (lookup test es) es (set_value test es w) goes is h.0 h.1 (λ found. all_set P test es v w goes found h.1)

-- the value that is found
found_step : {K V : Type 0} (P : K × V → Type 0) (Q : V → Type 0) (b : Bool) (e : K × V) (v : V) (found : Option V) → ((k : K) (x : V) → P (k, x) → Q x) → cond b (Some e.1) found ≡ Some v → P e → (found ≡ Some v → Q v) → Q v
found_step P Q true e v found goes is h rest = subst Q (some_is e.1 v is) (goes e.0 e.1 h)
found_step P Q false e v found goes is h rest = rest is

pub all_found : {K V : Type 0} (P : K × V → Type 0) (Q : V → Type 0) (test : K → Bool) (es : List (K × V)) (v : V) → ((k : K) (x : V) → P (k, x) → Q x) → lookup test es ≡ Some v → AllByRecursion P es → Q v
all_found P Q test [] v goes is h = absurd (cc)
all_found P Q test (e ∷ es) v goes is h = found_step P Q (test e.0) e v (lookup test es) goes is h.0 (λ found. all_found P Q test es v goes found h.1)

-- values of entries all of which are so
pub all_values : {K V : Type 0} (P : K × V → Type 0) (Q : V → Type 0) (es : List (K × V)) → ((k : K) (x : V) → P (k, x) → Q x) → AllByRecursion P es → AllByRecursion Q (values_of es)
all_values P Q [] goes h = tt
all_values P Q (e ∷ es) goes h = (goes e.0 e.1 h.0, all_values P Q es goes h.1)

pub values_push : {K X : Type 0} (es : List (K × X)) (k : K) (x : X) → values_of (es ++ (k, x) ∷ []) ≡ values_of es ++ x ∷ []
values_push [] k x = refl
values_push (e ∷ es) k x = ap (λ xs. e.1 ∷ xs) (values_push es k x)
