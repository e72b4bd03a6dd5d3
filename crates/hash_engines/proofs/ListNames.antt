-- Names in lists, one byte further.
use Rattle.std.proofs.Common.{◌≡◌, ◌∙◌, ◌<◌, ◌≤◌, ◌+◌, append-nil, ℕ, Bool, true, false, List, [], ◌∷◌, ◌++◌, Option, Some, None, length, drop, get_or, option_map, ap, sym, refl, append_assoc}
use Rattle.std.specs.Prelude.{◌==◌, ◌≢◌, if◌then◌else◌}
use Rattle.std.proofs.lemmas.Bool.{eq-eqb, ne_eqb}
use Rattle.std.proofs.lemmas.List.{drop_all, drop_more}
use Rattle.b3_check.specs.declared.fault.Fault.{Fault}
use Rattle.b3_check.specs.declared.fault.Fault.TheVariants.{EmptyName, NulInName}
use Rattle.b3_check.specs.Names.{has_nul, name_fault}
use Rattle.hash_engines.specs.Lists.{name_in_front, names_from}

-- ---- a name in front

pub in_front_named : (names : List (List ℕ)) (bytes : List ℕ) (others : Option (List (List ℕ))) → name_fault bytes ≡ None
    → option_map (λ r. names ++ r) (name_in_front bytes others) ≡ option_map (λ r. (names ++ bytes ∷ []) ++ r) others
in_front_named names bytes others is = go (length bytes == 0) (has_nul bytes) others is
  where
    go : (a b : Bool) (rest : Option (List (List ℕ))) → (if a then Some EmptyName else if b then Some NulInName else None) ≡ None
        → option_map (λ r. names ++ r) (if a then rest else if b then None else option_map (λ ns. bytes ∷ ns) rest) ≡ option_map (λ r. (names ++ bytes ∷ []) ++ r) rest
    go true b rest e = absurd (cc)
    go false true rest e = absurd (cc)
    go false false None e = refl
    go false false (Some r) e = ap Some (sym (append_assoc names (bytes ∷ []) r))

pub in_front_empty : (bytes : List ℕ) (others : Option (List (List ℕ))) → name_fault bytes ≡ Some EmptyName → name_in_front bytes others ≡ others
in_front_empty bytes others is = go (length bytes == 0) (has_nul bytes) is
  where
    go : (a b : Bool) → (if a then Some EmptyName else if b then Some NulInName else None) ≡ Some EmptyName → (if a then others else if b then None else option_map (λ ns. bytes ∷ ns) others) ≡ others
    go true b e = refl
    go false true e = absurd (cc)
    go false false e = absurd (cc)

pub in_front_nul : (bytes : List ℕ) (others : Option (List (List ℕ))) (fault : Fault) → name_fault bytes ≡ Some fault → fault ≢ EmptyName → name_in_front bytes others ≡ None
in_front_nul bytes others fault is other = go (length bytes == 0) (has_nul bytes) is
  where
    go : (a b : Bool) → (if a then Some EmptyName else if b then Some NulInName else None) ≡ Some fault → (if a then others else if b then None else option_map (λ ns. bytes ∷ ns) others) ≡ None
    go true b e = absurd (other (cc))
    go false true e = refl
    go false false e = absurd (cc)

-- ---- one byte further

at_end : (end : ℕ) (front text : List ℕ) (i : ℕ) → i < length text → get_or text i 0 ≡ end → names_from end front (drop i text) ≡ name_in_front front (names_from end [] (drop (i + 1) text))
unfolding names_from
at_end end front text i lt same = ap (names_from end front) (drop_more text i 0 lt) ∙ rw (eq-eqb (get_or text i 0) end same) refl

within : (end : ℕ) (front text : List ℕ) (i : ℕ) → i < length text → get_or text i 0 ≢ end → names_from end front (drop i text) ≡ names_from end (front ++ get_or text i 0 ∷ []) (drop (i + 1) text)
unfolding names_from
within end front text i lt other = ap (names_from end front) (drop_more text i 0 lt) ∙ rw (ne_eqb (get_or text i 0) end other) refl

pub named_at_end : (end : ℕ) (names more : List (List ℕ)) (front text : List ℕ) (i : ℕ) (all : Option (List (List ℕ))) → i < length text → get_or text i 0 ≡ end
    → ((rest : Option (List (List ℕ))) → option_map (λ r. names ++ r) (name_in_front front rest) ≡ option_map (λ r. more ++ r) rest)
    → option_map (λ r. names ++ r) (names_from end front (drop i text)) ≡ all → option_map (λ r. more ++ r) (names_from end [] (drop (i + 1) text)) ≡ all
named_at_end end names more front text i all lt same good is =
    sym (good (names_from end [] (drop (i + 1) text))) ∙ ap (option_map (λ r. names ++ r)) (sym (at_end end front text i lt same)) ∙ is

pub none_at_end : (end : ℕ) (names : List (List ℕ)) (front text : List ℕ) (i : ℕ) (all : Option (List (List ℕ))) → i < length text → get_or text i 0 ≡ end
    → ((rest : Option (List (List ℕ))) → name_in_front front rest ≡ None)
    → option_map (λ r. names ++ r) (names_from end front (drop i text)) ≡ all → None ≡ all
none_at_end end names front text i all lt same bad is =
    ap (option_map (λ r. names ++ r)) (sym (at_end end front text i lt same ∙ bad (names_from end [] (drop (i + 1) text)))) ∙ is

pub longer_within : (end : ℕ) (names : List (List ℕ)) (front text : List ℕ) (i : ℕ) (all : Option (List (List ℕ))) → i < length text → get_or text i 0 ≢ end
    → option_map (λ r. names ++ r) (names_from end front (drop i text)) ≡ all → option_map (λ r. names ++ r) (names_from end (front ++ get_or text i 0 ∷ []) (drop (i + 1) text)) ≡ all
longer_within end names front text i all lt other is = ap (option_map (λ r. names ++ r)) (sym (within end front text i lt other)) ∙ is

-- ---- after the last byte

last : (end : ℕ) (front text : List ℕ) (i : ℕ) → length text ≤ i → names_from end front (drop i text) ≡ name_in_front front (Some [])
unfolding names_from
last end front text i le = ap (names_from end front) (drop_all i text le)

pub named_last : (end : ℕ) (names more : List (List ℕ)) (front text : List ℕ) (i : ℕ) (all : Option (List (List ℕ))) → length text ≤ i
    → ((rest : Option (List (List ℕ))) → option_map (λ r. names ++ r) (name_in_front front rest) ≡ option_map (λ r. more ++ r) rest)
    → option_map (λ r. names ++ r) (names_from end front (drop i text)) ≡ all → Some more ≡ all
named_last end names more front text i all le good is =
    ap Some (sym (append-nil more)) ∙ sym (good (Some [])) ∙ ap (option_map (λ r. names ++ r)) (sym (last end front text i le)) ∙ is

pub none_last : (end : ℕ) (names : List (List ℕ)) (front text : List ℕ) (i : ℕ) (all : Option (List (List ℕ))) → length text ≤ i
    → ((rest : Option (List (List ℕ))) → name_in_front front rest ≡ None)
    → option_map (λ r. names ++ r) (names_from end front (drop i text)) ≡ all → None ≡ all
none_last end names front text i all le bad is =
    ap (option_map (λ r. names ++ r)) (sym (last end front text i le ∙ bad (Some []))) ∙ is
