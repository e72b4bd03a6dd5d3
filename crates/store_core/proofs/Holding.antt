-- Who holds what among objects without bytes, when one is filed, or has other holders.
use Rattle.std.proofs.Common.{◌≡◌, ◌∙◌, ℕ, Bool, true, false, true≢false, List, [], ◌∷◌, ◌++◌, Option, Some, None, cond, refl, ap, sym}
use Rattle.std.specs.Prelude.{◌==◌, ◌&&◌, ◌||◌, not}
use Rattle.std.specs.List.{AllByRecursion}
use Rattle.std.specs.Map.{keys_of, lookup, remove_entry, set_value, values_of}
use Rattle.std.specs.Option.{option_map_or}
use Rattle.std.specs.Str.{bytes_eq}
use Rattle.std.proofs.lemmas.Slice.Eq.{bytes_eq-Decides}
use Rattle.store_books.specs.declared.content.ObjectLabel.{ObjectLabel}
use Rattle.store_books.specs.Bare.{label_address}
use Rattle.store_books.specs.Books.{AreDistinct, Filed, IsRisingFrom, addressed, addresses, is_held_by, object_among}
use Rattle.store_books.specs.Commands.{with_holder, with_holders, without_holder}
use Rattle.store_books.specs.inner.Catalog.{IsAddressed}
use Rattle.store_books.proofs.AddressedObjects.{all_addressed, readdressed}
use Rattle.store_books.proofs.Lists.{all_removed, all_set}
use Rattle.store_books.proofs.RisingHolders.{has, has_with, has_without}
use Rattle.store_core.proofs.Lookups.{apart_keys, found_last, removed_apart, set_apart, set_here}

abbrev pub Objects : Type 0
Objects = List (Filed ObjectLabel)

abbrev pub found : Objects → List ℕ → Option (Filed ObjectLabel)
found os at = object_among label_address os at

abbrev pub held : Objects → ℕ → List ℕ → Bool
held os tenant at = option_map_or (is_held_by tenant) (found os at) false

-- ---- addresses

pub flip : (a b : List ℕ) → bytes_eq a b ≡ bytes_eq b a
flip a b = by (bytes_eq a b) (bytes_eq b a) refl refl
  where
    by : (x y : Bool) → bytes_eq a b ≡ x → bytes_eq b a ≡ y → x ≡ y
    by true true is back = refl
    by false false is back = refl
    by true false is back = absurd (true≢false (sym ((bytes_eq-Decides b a).1 (sym ((bytes_eq-Decides a b).0 is))) ∙ back))
    by false true is back = absurd (true≢false (sym ((bytes_eq-Decides a b).1 (sym ((bytes_eq-Decides b a).0 back))) ∙ is))

-- ---- one more object

pub or_false : (b : Bool) → (b || false) ≡ b
or_false true = refl
or_false false = refl

last_apart : (os : Objects) (o : Filed ObjectLabel) (at : List ℕ) → bytes_eq at (label_address o.content) ≡ false → found (os ++ o ∷ []) at ≡ found os at
last_apart [] o at apart = ap (λ (c : Bool). cond c (Some o) None) apart
last_apart (x ∷ os) o at apart = ap (λ (f : Option (Filed ObjectLabel)). cond (bytes_eq at (label_address x.content)) (Some x) f) (last_apart os o at apart)

-- an object is filed last, where nothing is filed at its address
pub held_last : (os : Objects) (o : Filed ObjectLabel) (tenant : ℕ) (at : List ℕ) → found os (label_address o.content) ≡ None → held (os ++ o ∷ []) tenant at ≡ (held os tenant at || (bytes_eq at (label_address o.content) && is_held_by tenant o))
held_last os o tenant at none = by (bytes_eq at (label_address o.content)) refl
  where
    by : (b : Bool) → bytes_eq at (label_address o.content) ≡ b → held (os ++ o ∷ []) tenant at ≡ (held os tenant at || (b && is_held_by tenant o))
    by true is =
        let here : at ≡ label_address o.content = (bytes_eq-Decides at (label_address o.content)).0 is in
        let before : found os at ≡ None = ap (found os) here ∙ none in
        ap (λ (f : Option (Filed ObjectLabel)). option_map_or (is_held_by tenant) f false) (found_last label_address os o at here before)
        ∙ ap (λ (f : Option (Filed ObjectLabel)). option_map_or (is_held_by tenant) f false || is_held_by tenant o) (sym before)
    by false apart = ap (λ (f : Option (Filed ObjectLabel)). option_map_or (is_held_by tenant) f false) (last_apart os o at apart) ∙ sym (or_false (held os tenant at))

-- ---- other holders of an object

gone_by : (b : Bool) (at : List ℕ) (e : List ℕ × Filed ObjectLabel) (es less : List (List ℕ × Filed ObjectLabel)) → bytes_eq at e.0 ≡ b → lookup (bytes_eq at) less ≡ None → (b ≡ true → lookup (bytes_eq at) es ≡ None) → lookup (bytes_eq at) (cond b es (e ∷ less)) ≡ None
gone_by true at e es less is gone apart = apart refl
gone_by false at e es less is gone apart = ap (λ (c : Bool). cond c (Some e.1) (lookup (bytes_eq at) less)) is ∙ gone

none_at : (at : List ℕ) (es : List (List ℕ × Filed ObjectLabel)) → AllByRecursion (λ b. bytes_eq b at ≡ false) (keys_of es) → lookup (bytes_eq at) es ≡ None
none_at at [] h = refl
none_at at (e ∷ es) h = ap (λ (c : Bool). cond c (Some e.1) (lookup (bytes_eq at) es)) (flip at e.0 ∙ h.0) ∙ none_at at es h.1

-- what is filed first isn't found among the others
pub gone_at : (os : Objects) (o : Filed ObjectLabel) (tenant : ℕ) (at : List ℕ) → AreDistinct (addresses label_address (o ∷ os)) → bytes_eq at (label_address o.content) ≡ true → held os tenant at ≡ false
gone_at os o tenant at distinct same =
    ap (λ (f : Option (Filed ObjectLabel)). option_map_or (is_held_by tenant) f false)
    (ap (λ (k : List ℕ). lookup (bytes_eq k) (addressed label_address os)) ((bytes_eq-Decides at (label_address o.content)).0 same) ∙ none_at (label_address o.content) (addressed label_address os) distinct.0)

-- what is removed isn't found any more
removed_here : (at : List ℕ) (es : List (List ℕ × Filed ObjectLabel)) → AreDistinct (keys_of es) → lookup (bytes_eq at) (remove_entry (bytes_eq at) es) ≡ None
removed_here at [] h = refl
removed_here at (e ∷ es) h = gone_by (bytes_eq at e.0) at e es (remove_entry (bytes_eq at) es) refl (removed_here at es h.1)
    (λ is. ap (λ (k : List ℕ). lookup (bytes_eq k) es) ((bytes_eq-Decides at e.0).0 is) ∙ none_at e.0 es h.0)

or_turned : (a b : Bool) → (a || b) ≡ (b || a)
or_turned true true = refl
or_turned true false = refl
or_turned false b = sym (or_false b)

pub and_not_false : (a b : Bool) → a ≡ (a && not (b && false))
and_not_false true true = refl
and_not_false true false = refl
and_not_false false b = refl

and_not_true : (a b : Bool) → (a && not b) ≡ (a && not (b && true))
and_not_true a true = refl
and_not_true a false = refl

module _ (os : Objects) (a : List ℕ) (o : Filed ObjectLabel) (known : found os a ≡ Some o) where
  abbrev entries : List (List ℕ × Filed ObjectLabel)
  entries = addressed label_address os

  removed_back : addressed label_address (values_of (remove_entry (bytes_eq a) entries)) ≡ remove_entry (bytes_eq a) entries
  removed_back = readdressed label_address (remove_entry (bytes_eq a) entries) (all_removed (IsAddressed label_address) (bytes_eq a) entries (all_addressed label_address os))

  set_back : (now : Filed ObjectLabel) → now.content ≡ o.content → addressed label_address (values_of (set_value (bytes_eq a) entries now)) ≡ set_value (bytes_eq a) entries now
  set_back now same = readdressed label_address (set_value (bytes_eq a) entries now) (all_set (IsAddressed label_address) (bytes_eq a) entries o now (λ k is. is ∙ ap label_address (sym same)) known (all_addressed label_address os))

  module _ (tenant : ℕ) (at : List ℕ) where
    abbrev has_of : Option (Filed ObjectLabel) → Bool
    has_of f = option_map_or (is_held_by tenant) f false

    same_at : bytes_eq a at ≡ true → at ≡ a
    same_at is = sym ((bytes_eq-Decides a at).0 is)

    by_address : (others : Objects) (now : Option (Filed ObjectLabel)) → (bytes_eq a at ≡ true → found others at ≡ now) → (bytes_eq a at ≡ false → found others at ≡ found os at) → held others tenant at ≡ cond (bytes_eq a at) (has_of now) (held os tenant at)
    by_address others now here apart = by (bytes_eq a at) refl
      where
        by : (b : Bool) → bytes_eq a at ≡ b → held others tenant at ≡ cond b (has_of now) (held os tenant at)
        by true is = ap has_of (here is)
        by false is = ap has_of (apart is)

    held_with : (holders : List ℕ) → AreDistinct (addresses label_address os) → held (with_holders label_address os a o holders) tenant at ≡ cond (bytes_eq a at) (has tenant holders) (held os tenant at)
    held_with [] distinct =
        by_address (values_of (remove_entry (bytes_eq a) entries)) None
        (λ is. ap (lookup (bytes_eq at)) removed_back ∙ ap (λ (k : List ℕ). lookup (bytes_eq k) (remove_entry (bytes_eq a) entries)) (same_at is) ∙ removed_here a entries distinct)
        (λ apart. ap (lookup (bytes_eq at)) removed_back ∙ removed_apart (bytes_eq at) (bytes_eq a) (apart_keys at a apart) entries)
    held_with (h ∷ holders) distinct =
        let now : Filed ObjectLabel = record o { holders = h ∷ holders } in
        by_address (values_of (set_value (bytes_eq a) entries now)) (Some now)
        (λ is. ap (lookup (bytes_eq at)) (set_back now refl) ∙ ap (λ (k : List ℕ). lookup (bytes_eq k) (set_value (bytes_eq a) entries now)) (same_at is) ∙ set_here (bytes_eq a) entries o now known)
        (λ apart. ap (lookup (bytes_eq at)) (set_back now refl) ∙ set_apart (bytes_eq at) (bytes_eq a) now (apart_keys at a apart) entries)

    held_before : bytes_eq a at ≡ true → held os tenant at ≡ has tenant o.holders
    held_before is = ap (λ (k : List ℕ). has_of (found os k)) (same_at is) ∙ ap has_of known

    -- one tenant more holds the object
    pub held_joined : (joins : ℕ) → AreDistinct (addresses label_address os) → held (with_holders label_address os a o (with_holder joins o.holders)) tenant at ≡ (held os tenant at || (bytes_eq at a && (joins == tenant)))
    held_joined joins distinct = held_with (with_holder joins o.holders) distinct ∙ by (bytes_eq a at) refl
      where
        by : (b : Bool) → bytes_eq a at ≡ b → cond b (has tenant (with_holder joins o.holders)) (held os tenant at) ≡ (held os tenant at || (bytes_eq at a && (joins == tenant)))
        by true is = has_with joins tenant o.holders ∙ or_turned (joins == tenant) (has tenant o.holders) ∙ ap (λ (x : Bool). x || (joins == tenant)) (sym (held_before is)) ∙ ap (λ (x : Bool). held os tenant at || (x && (joins == tenant))) (sym is ∙ flip a at)
        by false is = sym (or_false (held os tenant at)) ∙ ap (λ (x : Bool). held os tenant at || (x && (joins == tenant))) (sym is ∙ flip a at)

    -- a tenant doesn't hold it any more
    pub held_left : (leaves : ℕ) → AreDistinct (addresses label_address os) → IsRisingFrom 0 o.holders → held (with_holders label_address os a o (without_holder leaves o.holders)) tenant at ≡ (held os tenant at && not ((leaves == tenant) && bytes_eq a at))
    held_left leaves distinct rising = held_with (without_holder leaves o.holders) distinct ∙ by (bytes_eq a at) refl
      where
        by : (b : Bool) → bytes_eq a at ≡ b → cond b (has tenant (without_holder leaves o.holders)) (held os tenant at) ≡ (held os tenant at && not ((leaves == tenant) && b))
        by true is = has_without leaves tenant 0 o.holders rising ∙ ap (λ (x : Bool). x && not (leaves == tenant)) (sym (held_before is)) ∙ and_not_true (held os tenant at) (leaves == tenant)
        by false is = and_not_false (held os tenant at) (leaves == tenant)
