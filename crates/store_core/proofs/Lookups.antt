-- Look-ups in lists of entries of which one is removed, or has another value.
use Rattle.std.proofs.Common.{◌≡◌, ◌∙◌, ℕ, Bool, true, false, true≢false, List, [], ◌∷◌, ◌++◌, Option, Some, None, cond, refl, ap, sym}
use Rattle.std.specs.Map.{lookup, remove_entry, set_value}
use Rattle.std.specs.Str.{bytes_eq}
use Rattle.std.proofs.lemmas.Slice.Eq.{bytes_eq-Decides}
use Rattle.store_books.specs.Books.{Filed, object_among}

module _ {K X : Type 0} where
  removed_by : (b : Bool) (p : K → Bool) (e : K × X) (es less : List (K × X)) → (b ≡ true → p e.0 ≡ false) → lookup p less ≡ lookup p es → lookup p (cond b es (e ∷ less)) ≡ lookup p (e ∷ es)
  removed_by true p e es less apart same = sym (ap (λ (c : Bool). cond c (Some e.1) (lookup p es)) (apart refl))
  removed_by false p e es less apart same = ap (λ (f : Option X). cond (p e.0) (Some e.1) f) same

  -- another key is removed
  pub removed_apart : (p q : K → Bool) → ((k : K) → q k ≡ true → p k ≡ false) → (es : List (K × X)) → lookup p (remove_entry q es) ≡ lookup p es
  removed_apart p q apart [] = refl
  removed_apart p q apart (e ∷ es) = removed_by (q e.0) p e es (remove_entry q es) (apart e.0) (removed_apart p q apart es)

  set_by : (b : Bool) (p : K → Bool) (e : K × X) (w : X) (es less : List (K × X)) → (b ≡ true → p e.0 ≡ false) → lookup p less ≡ lookup p es → lookup p (cond b ((e.0, w) ∷ es) (e ∷ less)) ≡ lookup p (e ∷ es)
  set_by true p e w es less apart same = ap (λ (c : Bool). cond c (Some w) (lookup p es)) (apart refl) ∙ sym (ap (λ (c : Bool). cond c (Some e.1) (lookup p es)) (apart refl))
  set_by false p e w es less apart same = ap (λ (f : Option X). cond (p e.0) (Some e.1) f) same

  -- another key's value is set
  pub set_apart : (p q : K → Bool) (w : X) → ((k : K) → q k ≡ true → p k ≡ false) → (es : List (K × X)) → lookup p (set_value q es w) ≡ lookup p es
  set_apart p q w apart [] = refl
  set_apart p q w apart (e ∷ es) = set_by (q e.0) p e w es (set_value q es w) (apart e.0) (set_apart p q w apart es)

  here_by : (b : Bool) (q : K → Bool) (e : K × X) (v w : X) (es less : List (K × X)) → q e.0 ≡ b → cond b (Some e.1) (lookup q es) ≡ Some v → (lookup q es ≡ Some v → lookup q less ≡ Some w)
      → lookup q (cond b ((e.0, w) ∷ es) (e ∷ less)) ≡ Some w
  here_by true q e v w es less is found rest = ap (λ (c : Bool). cond c (Some w) (lookup q es)) is
  here_by false q e v w es less is found rest = ap (λ (c : Bool). cond c (Some e.1) (lookup q less)) is ∙ rest found

  -- the value that is set is found
  pub set_here : (q : K → Bool) (es : List (K × X)) (v w : X) → lookup q es ≡ Some v → lookup q (set_value q es w) ≡ Some w
  set_here q [] v w found = absurd (cc)
  set_here q (e ∷ es) v w found = here_by (q e.0) q e v w es (set_value q es w) refl found (λ there. set_here q es v w there)

pub front_by : {X : Type 0} (b : Bool) (x v : X) (found later : Option X) → cond b (Some x) found ≡ Some v → (found ≡ Some v → later ≡ Some v) → cond b (Some x) later ≡ Some v
front_by true x v found later is rest = is
front_by false x v found later is rest = rest is

pub last_by : {X : Type 0} (b : Bool) (x v : X) (found later : Option X) → cond b (Some x) found ≡ None → (found ≡ None → later ≡ Some v) → cond b (Some x) later ≡ Some v
last_by true x v found later is rest = absurd (cc)
last_by false x v found later is rest = rest is

-- what is found is found when more entries follow
pub lookup_front : {K X : Type 0} (p : K → Bool) (es more : List (K × X)) (v : X) → lookup p es ≡ Some v → lookup p (es ++ more) ≡ Some v
lookup_front p [] more v found = absurd (cc)
lookup_front p (e ∷ es) more v found = front_by (p e.0) e.1 v (lookup p es) (lookup p (es ++ more)) found (λ there. lookup_front p es more v there)

-- and an entry that follows all others, where none of these is found
pub lookup_last : {K X : Type 0} (p : K → Bool) (es : List (K × X)) (k : K) (v : X) → p k ≡ true → lookup p es ≡ None → lookup p (es ++ (k, v) ∷ []) ≡ Some v
lookup_last p [] k v is none = ap (λ (c : Bool). cond c (Some v) None) is
lookup_last p (e ∷ es) k v is none = last_by (p e.0) e.1 v (lookup p es) (lookup p (es ++ (k, v) ∷ [])) none (λ there. lookup_last p es k v is there)

-- ---- objects by address

-- another address, and not that of what is looked for
pub apart_keys : (at other : List ℕ) → bytes_eq other at ≡ false → (k : List ℕ) → bytes_eq other k ≡ true → bytes_eq at k ≡ false
apart_keys at other apart k is = by (bytes_eq at k) refl
  where
    by : (b : Bool) → bytes_eq at k ≡ b → b ≡ false
    by true same = absurd (true≢false (sym ((bytes_eq-Decides other at).1 ((bytes_eq-Decides other k).0 is ∙ sym ((bytes_eq-Decides at k).0 same))) ∙ apart))
    by false same = refl

module _ {O : Type 0} (address : O → List ℕ) where
  -- what is found is found when more objects follow
  pub found_front : (os more : List (Filed O)) (at : List ℕ) (o : Filed O) → object_among address os at ≡ Some o → object_among address (os ++ more) at ≡ Some o
  found_front [] more at o found = absurd (cc)
  found_front (x ∷ os) more at o found = front_by (bytes_eq at (address x.content)) x o (object_among address os at) (object_among address (os ++ more) at) found (λ there. found_front os more at o there)

  -- and what is filed last, where nothing stood under its address
  pub found_last : (os : List (Filed O)) (o : Filed O) (at : List ℕ) → at ≡ address o.content → object_among address os at ≡ None → object_among address (os ++ o ∷ []) at ≡ Some o
  found_last [] o at is none = ap (λ (c : Bool). cond c (Some o) None) ((bytes_eq-Decides at (address o.content)).1 is)
  found_last (x ∷ os) o at is none = last_by (bytes_eq at (address x.content)) x o (object_among address os at) (object_among address (os ++ o ∷ []) at) none (λ there. found_last os o at is there)
