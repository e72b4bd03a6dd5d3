-- Steps that may give nothing.
use Rattle.std.proofs.Common.{◌≡◌, ℕ, Bool, true, false, List, Some, None, refl, ap, cond, subst, sym, ◌⊎◌, inl, inr}
use Rattle.std.specs.Prelude.{Option, unwrap_or}
use Rattle.std.specs.Str.{bytes_eq}
use Rattle.std.proofs.lemmas.Slice.Eq.{bytes_eq-Decides}
use Rattle.edge.specs.Fields.{◌>>=◌}

pub bind_some : {A B : Type 0} (o : Option A) (f : A → Option B) (y : B) → (o >>= f) ≡ Some y → (x : A) × (o ≡ Some x) × (f x ≡ Some y)
bind_some None f y h = cc
bind_some (Some x) f y h = (x, refl, h)

pub bind_is : {A B : Type 0} (o : Option A) (f : A → Option B) (x : A) → o ≡ Some x → (o >>= f) ≡ f x
bind_is o f x e = ap (λ p. p >>= f) e

pub some_is : {A : Type 0} (x y : A) → Some x ≡ Some y → x ≡ y
some_is x y h = ap (λ o. unwrap_or o x) h

pub none_some : {A : Type 0} (x : A) → None ≡ Some x → ⊥
none_some x h = cc

pub chosen : {A : Type 0} (b : Bool) (x y z : A) → cond b x y ≡ z → ((b ≡ true) × (x ≡ z)) ⊎ ((b ≡ false) × (y ≡ z))
chosen true x y z h = inl (refl, h)
chosen false x y z h = inr (refl, h)

-- what holds of the value by this word, or else of that by the other words
pub by_kind : {A : Type 0} (P : List ℕ → Type 0) (kind word : List ℕ) (this other : Option A) (x : A) → (this ≡ Some x → P word) → (other ≡ Some x → P kind)
    → cond (bytes_eq kind word) this other ≡ Some x → P kind
by_kind P kind word this other x f g h = elim (chosen (bytes_eq kind word) this other (Some x) h) [
  | inl p ↦ subst P (sym ((bytes_eq-Decides kind word).0 p.0)) (f p.1)
  | inr p ↦ g p.1
]
