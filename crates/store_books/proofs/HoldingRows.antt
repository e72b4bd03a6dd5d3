-- The filings of what one tenant holds, in order, are those of the objects that list it among their holders.
use Rattle.std.proofs.Common.{◌≡◌, ◌≢◌, ◌∙◌, ◌+◌, ◌<◌, ◌≤◌, ℕ, Bool, true, false, cond, List, [], ◌∷◌, Option, None, Some, refl, ap, sym, subst, arith, inl, inr, map}
use Rattle.std.specs.Prelude.{◌==◌, ◌||◌, ◌&&◌, IsSome, filter, is_some, nat_lt, not}
use Rattle.std.specs.BTreeMap.{is_at}
use Rattle.std.specs.BTreeMap.Range.{range_contains}
use Rattle.std.specs.List.{AllByRecursion}
use Rattle.std.specs.List.Sorted.{IsStrictlySortedBy}
use Rattle.std.specs.Map.{keys_of, values_of}
use Rattle.std.specs.Option.{option_map_or}
use Rattle.std.specs.Ordering.{is_le, nat_cmp}
use Rattle.std.specs.declared.cmp.Ordering.TheVariants.{Less}
use Rattle.std.specs.declared.ops.Bound.TheVariants.{Excluded, Included}
use Rattle.std.proofs.lemmas.Bool.{cases_Bool, cases_eq, cases_lt, eq-eqb, eqb-true, le-ltb, lt-ltb, ne_eqb}
use Rattle.std.proofs.lemmas.List.Kept.{IsStrictlySortedBy-filter}
use Rattle.std.proofs.lemmas.Map.Keys.{sorted_head, sorted_tail}
use Rattle.store_books.specs.declared.catalog.FiledObject.{FiledObject}
use Rattle.store_books.specs.Books.{Filed, IsRisingFrom, is_held_by}
use Rattle.store_books.specs.inner.Catalog.{ArePaired, at_number, holders_in, is_paired, pair_cmp, with_addresses}
use Rattle.store_books.specs.Forgetting.{label_of}
use Rattle.store_books.specs.Questions.{listed}
use Rattle.store_books.proofs.Catalogs.{shown}
use Rattle.store_books.proofs.Numbers.{all_found, at_is, below_is}
use Rattle.store_books.proofs.Pairs.{Pairs, and_false, at_pair, has_pair}
use Rattle.store_books.proofs.RisingHolders.{eqb_turned, first_has, has, rest_has, same_rows}

-- ---- sorted numbers are a rising row

all_later : (n : ℕ) (xs : List ℕ) → AllByRecursion (λ x. nat_cmp n x ≡ Less) xs → AllByRecursion (λ x. n + 1 ≤ x) xs
all_later n [] h = tt
all_later n (x ∷ xs) h = (omega (arith, below_is n x h.0), all_later n xs h.1)

rising_sorted : (m : ℕ) (xs : List ℕ) → IsStrictlySortedBy nat_cmp xs → AllByRecursion (λ x. m ≤ x) xs → IsRisingFrom m xs
rising_sorted m [] sorted h = tt
rising_sorted m (x ∷ xs) sorted h = (h.0, rising_sorted (x + 1) xs (sorted_tail nat_cmp x xs sorted) (all_later x xs (sorted_head nat_cmp x xs sorted)))

pub rising : (xs : List ℕ) → IsStrictlySortedBy nat_cmp xs → IsRisingFrom 0 xs
rising [] sorted = tt
rising (x ∷ xs) sorted = (omega arith, rising_sorted (x + 1) xs (sorted_tail nat_cmp x xs sorted) (all_later x xs (sorted_head nat_cmp x xs sorted)))

-- ---- a tenant's row of the pairs

in_row : (t k : ℕ) (p : ℕ × ℕ) → range_contains pair_cmp (Included (t, 0)) (Excluded (t, k)) p ≡ ((t == p.0) && nat_lt p.1 k)
in_row t k p = elim (cases_lt t p.0) [
  | inl less ↦ rw (lt-ltb t p.0 less, ne_eqb t p.0 (λ same. absurd (omega (arith, same, less)))) refl
  | inr more ↦ elim (cases_eq t p.0) [
    | inl same ↦ rw (le-ltb t p.0 more, eq-eqb t p.0 same) within
    | inr apart ↦ rw (le-ltb t p.0 more, ne_eqb t p.0 apart) refl
  ]
]
  where
    from_first : is_le (nat_cmp 0 p.1) ≡ true
    from_first = elim (cases_lt 0 p.1) [
      | inl less ↦ rw (lt-ltb 0 p.1 less) refl
      | inr more ↦ let none : 0 ≡ p.1 = omega (arith, more) in rw (le-ltb 0 p.1 more, eq-eqb 0 p.1 none) refl
    ]

    before_end : not (is_le (nat_cmp k p.1)) ≡ nat_lt p.1 k
    before_end = elim (cases_lt p.1 k) [
      | inl less ↦ rw (lt-ltb p.1 k less, le-ltb k p.1 (omega (arith, less)), ne_eqb k p.1 (λ same. absurd (omega (arith, same, less)))) refl
      | inr more ↦ elim (cases_eq k p.1) [
        | inl same ↦ rw (le-ltb p.1 k more, le-ltb k p.1 (omega (arith, same)), eq-eqb k p.1 same) refl
        | inr apart ↦ rw (le-ltb p.1 k more, lt-ltb k p.1 (omega (arith, more, apart))) refl
      ]
    ]

    within : (is_le (nat_cmp 0 p.1) && not (is_le (nat_cmp k p.1))) ≡ nat_lt p.1 k
    within = rw (from_first) before_end

-- the filings of the pairs in the row
abbrev pub row : ℕ → ℕ → List (ℕ × ℕ) → List ℕ
row t k ps = map (λ p. p.1) (filter (range_contains pair_cmp (Included (t, 0)) (Excluded (t, k))) ps)

member_step : (q n k : ℕ) (t u : ℕ) (rest : List ℕ) (others : Bool) → has q rest ≡ (others && nat_lt q k)
    → has q (cond ((t == u) && nat_lt n k) (n ∷ rest) rest) ≡ ((((t == u) && (q == n)) || others) && nat_lt q k)
member_step q n k t u rest others so = elim (cases_eq t u) [
  | inl same ↦ rw (eq-eqb t u same) (elim (cases_eq q n) [
    | inl here ↦ rw (eq-eqb q n here) (subst (λ (j : ℕ). has q (cond (nat_lt j k) (j ∷ rest) rest) ≡ nat_lt q k) here (at_itself (nat_lt q k) refl))
    | inr apart ↦ rw (ne_eqb q n apart) (at_another apart (nat_lt n k))
  ])
  | inr apart ↦ rw (ne_eqb t u apart) so
]
  where
    at_itself : (b : Bool) → nat_lt q k ≡ b → has q (cond b (q ∷ rest) rest) ≡ b
    at_itself true is = first_has q rest
    at_itself false is = so ∙ ap (λ (b : Bool). others && b) is ∙ and_false others

    at_another : q ≢ n → (b : Bool) → has q (cond b (n ∷ rest) rest) ≡ (others && nat_lt q k)
    at_another apart true = rest_has n q rest (λ e. apart (sym e)) ∙ so
    at_another apart false = so

row_step : (t k : ℕ) (p : ℕ × ℕ) (ps : List (ℕ × ℕ)) → row t k (p ∷ ps) ≡ cond ((t == p.0) && nat_lt p.1 k) (p.1 ∷ row t k ps) (row t k ps)
row_step t k p ps = ap (λ (b : Bool). map (λ (q : ℕ × ℕ). q.1) (cond b (p ∷ kept) kept)) (in_row t k p) ∙ mapped ((t == p.0) && nat_lt p.1 k)
  where
    kept : List (ℕ × ℕ)
    kept = filter (range_contains pair_cmp (Included (t, 0)) (Excluded (t, k))) ps

    mapped : (b : Bool) → map (λ (q : ℕ × ℕ). q.1) (cond b (p ∷ kept) kept) ≡ cond b (p.1 ∷ map (λ (q : ℕ × ℕ). q.1) kept) (map (λ (q : ℕ × ℕ). q.1) kept)
    mapped true = refl
    mapped false = refl

row_has : (t k q : ℕ) (ps : List (ℕ × ℕ)) → has q (row t k ps) ≡ (is_paired ps t q && nat_lt q k)
row_has t k q [] = refl
row_has t k q (p ∷ ps) =
    ap (has q) (row_step t k p ps) ∙ member_step q p.1 k t p.0 (row t k ps) (is_paired ps t q) (row_has t k q ps)
    ∙ ap (λ (b : Bool). (b || is_paired ps t q) && nat_lt q k) (sym (at_pair t q p))

later_pair : (t : ℕ) (p q : ℕ × ℕ) → t ≡ p.0 → pair_cmp p q ≡ Less → t ≡ q.0 → p.1 + 1 ≤ q.1
later_pair t p q one less two =
    let same : p.0 ≡ q.0 = sym one ∙ two in
    let below = rw (le-ltb p.0 q.0 (omega (arith, same)), eq-eqb p.0 q.0 same) at less in
    (all_later p.1 (q.1 ∷ []) (below, tt)).0

all_later_pairs : (t : ℕ) (p : ℕ × ℕ) (ps : List (ℕ × ℕ)) → t ≡ p.0 → AllByRecursion (λ q. pair_cmp p q ≡ Less) ps → AllByRecursion (λ q. t ≡ q.0 → p.1 + 1 ≤ q.1) ps
all_later_pairs t p [] one h = tt
all_later_pairs t p (q ∷ ps) one h = (later_pair t p q one h.0, all_later_pairs t p ps one h.1)

row_rising_step : (t k m n : ℕ) (b : Bool) (rest : List ℕ) → (b ≡ true → (m ≤ n) × IsRisingFrom (n + 1) rest) → (b ≡ false → IsRisingFrom m rest) → IsRisingFrom m (cond b (n ∷ rest) rest)
row_rising_step t k m n true rest here later = here refl
row_rising_step t k m n false rest here later = later refl

and_first : (a b : Bool) → (a && b) ≡ true → a ≡ true
and_first true b h = refl
and_first false b h = absurd (cc)

row_rising : (t k m : ℕ) (ps : List (ℕ × ℕ)) → IsStrictlySortedBy pair_cmp ps → AllByRecursion (λ p. t ≡ p.0 → m ≤ p.1) ps → IsRisingFrom m (row t k ps)
row_rising t k m [] sorted h = tt
row_rising t k m (p ∷ ps) sorted h = subst (IsRisingFrom m) (sym (row_step t k p ps)) (row_rising_step t k m p.1 ((t == p.0) && nat_lt p.1 k) (row t k ps)
    (λ both.
    let same : t ≡ p.0 = eqb-true t p.0 (and_first (t == p.0) (nat_lt p.1 k) both) in
    (h.0 same, row_rising t k (p.1 + 1) ps (sorted_tail pair_cmp p ps sorted) (all_later_pairs t p ps same (sorted_head pair_cmp p ps sorted))))
    (λ none. row_rising t k m ps (sorted_tail pair_cmp p ps sorted) h.1))

from_none : (t : ℕ) (ps : List (ℕ × ℕ)) → AllByRecursion (λ p. t ≡ p.0 → 0 ≤ p.1) ps
from_none t [] = tt
from_none t (p ∷ ps) = ((λ same. omega arith), from_none t ps)

filter_step : (test : ℕ → Bool) (q x : ℕ) (xs rest : List ℕ) → has q rest ≡ (has q xs && test q) → has q (cond (test x) (x ∷ rest) rest) ≡ (((x == q) || has q xs) && test q)
filter_step test q x xs rest so = elim (cases_eq x q) [
  | inl same ↦ rw (eq-eqb x q same) (subst (λ (y : ℕ). has q (cond (test y) (y ∷ rest) rest) ≡ test q) (sym same) (at_itself (test q) refl))
  | inr apart ↦ rw (ne_eqb x q apart) (at_another apart (test x))
]
  where
    at_itself : (b : Bool) → test q ≡ b → has q (cond b (q ∷ rest) rest) ≡ b
    at_itself true is = first_has q rest
    at_itself false is = so ∙ ap (λ (b : Bool). has q xs && b) is ∙ and_false (has q xs)

    at_another : x ≢ q → (b : Bool) → has q (cond b (x ∷ rest) rest) ≡ (has q xs && test q)
    at_another apart true = rest_has x q rest apart ∙ so
    at_another apart false = so

filter_has : (test : ℕ → Bool) (q : ℕ) (xs : List ℕ) → has q (filter test xs) ≡ (has q xs && test q)
filter_has test q [] = refl
filter_has test q (x ∷ xs) = filter_step test q x xs (filter test xs) (filter_has test q xs)

module _ {O : Type 0} where
  -- ---- the objects that the tenant holds

  abbrev pub kept : ℕ → Pairs → List (ℕ × FiledObject O) → List ℕ
  kept t ps es = filter (λ n. has t (holders_in ps n)) (keys_of es)

  keyed_step : (b : Bool) (x : FiledObject O) (found : Option (FiledObject O)) → (b || is_some found) ≡ is_some (cond b (Some x) found)
  keyed_step true x found = refl
  keyed_step false x found = refl

  keyed : (q : ℕ) (es : List (ℕ × FiledObject O)) → has q (keys_of es) ≡ is_some (at_number q es)
  keyed q [] = refl
  keyed q (e ∷ es) =
      ap (λ (b : Bool). b || has q (keys_of es)) (eqb_turned e.0 q ∙ sym (at_is q e.0)) ∙ ap (λ (b : Bool). is_at (nat_cmp q) e.0 || b) (keyed q es)
      ∙ keyed_step (is_at (nat_cmp q) e.0) e.1 (at_number q es)

  module _ (k t : ℕ) (es : List (ℕ × FiledObject O)) (ps : Pairs) (ordered : IsStrictlySortedBy nat_cmp (keys_of es)) (before : (n : ℕ) (f : FiledObject O) → at_number n es ≡ Some f → n < k) (are : ArePaired es ps) where
    paired_step : (q : ℕ) (f : Option (FiledObject O)) → at_number q es ≡ f → IsSome f → (nat_lt q k ≡ true) × (is_some f ≡ true)
    paired_step q None is there = absurd (cc)
    paired_step q (Some f) is there = (lt-ltb q k (before q f is), refl)

    paired_before : (q : ℕ) → (is_paired ps t q && nat_lt q k) ≡ (is_some (at_number q es) && is_paired ps t q)
    paired_before q = elim (cases_Bool (is_paired ps t q)) [
      | inl is ↦ let both = paired_step q (at_number q es) refl (are.filed_is t q is) in rw (is, both.0, both.1) refl
      | inr is ↦ rw is (sym (and_false (is_some (at_number q es))))
    ]

    kept_has : (q : ℕ) → has q (kept t ps es) ≡ (is_some (at_number q es) && is_paired ps t q)
    kept_has q = filter_has (λ n. has t (holders_in ps n)) q (keys_of es) ∙ ap (λ (b : Bool). b && has t (holders_in ps q)) (keyed q es) ∙ ap (λ (b : Bool). is_some (at_number q es) && b) (has_pair t q ps)

    pub row_is : row t k ps ≡ kept t ps es
    row_is = same_rows 0 (row t k ps) (kept t ps es) (row_rising t k 0 ps are.ordered (from_none t ps)) (rising (kept t ps es) (IsStrictlySortedBy-filter nat_cmp (λ n. has t (holders_in ps n)) (keys_of es) ordered))
        (λ q. row_has t k q ps ∙ paired_before q ∙ sym (kept_has q))

    pub all_some : (ns : List ℕ) → AllByRecursion (λ n. IsSome (at_number n es)) (filter (λ n. has t (holders_in ps n)) ns)
    all_some [] = tt
    all_some (n ∷ ns) = elim (cases_Bool (has t (holders_in ps n))) [
      | inl held ↦ rw held (are.filed_is t n (sym (has_pair t n ps) ∙ held), all_some ns)
      | inr apart ↦ rw apart (all_some ns)
    ]

  listed_step : (b : Bool) (x : List ℕ × ℕ) (o : Filed O) (os : List (Filed O)) (n : ℕ) (ns : List ℕ) (f : ℕ → List ℕ × ℕ) (g : Filed O → List ℕ × ℕ) → f n ≡ g o → map f ns ≡ map g os → map f (cond b (n ∷ ns) ns) ≡ map g (cond b (o ∷ os) os)
  listed_step true x o os n ns f g one rest = ap (λ (y : List ℕ × ℕ). y ∷ map f ns) one ∙ ap (λ xs. g o ∷ xs) rest
  listed_step false x o os n ns f g one rest = rest

  -- each of these filings is there
  abbrev pub AreThere : List (ℕ × FiledObject O) → Pairs → Type 0
  AreThere es ps = AllByRecursion (λ n. IsSome (at_number n es)) (map (λ p. p.1) ps)

module _ {O : Type 0} (size : O → ℕ) (address : O → List ℕ) where
  -- ---- what is reported of them

  -- the address and the length of what is filed there
  abbrev pub reported : Option (FiledObject O) → List ℕ × ℕ
  reported f = option_map_or (λ f. (address f.content, size f.content)) f ([], 0)

  -- what is reported of the filings of a row
  abbrev pub reported_of : List (ℕ × FiledObject O) → Pairs → List (List ℕ × ℕ)
  reported_of es ps = map (λ p. reported (at_number p.1 es)) ps

  pub reported_row : (es : List (ℕ × FiledObject O)) (ps : Pairs) → reported_of es ps ≡ map (λ n. reported (at_number n es)) (map (λ p. p.1) ps)
  reported_row es [] = refl
  reported_row es (p ∷ ps) = ap (λ xs. reported (at_number p.1 es) ∷ xs) (reported_row es ps)

  copied_entries : (t : ℕ) (ps : Pairs) (m es : List (ℕ × FiledObject O)) → AllByRecursion (λ e. at_number e.0 m ≡ Some e.1) es
      → map (λ n. reported (at_number n m)) (filter (λ n. has t (holders_in ps n)) (keys_of es)) ≡ listed size address t (shown (with_addresses address ps es))
  copied_entries t ps m [] h = refl
  copied_entries t ps m (e ∷ es) h =
      let o : Filed O = record { content = e.1.content; holders = holders_in ps e.0; number = e.0 } in
      listed_step (has t (holders_in ps e.0)) (reported (Some e.1)) o (filter (is_held_by t) (shown (with_addresses address ps es))) e.0 (filter (λ n. has t (holders_in ps n)) (keys_of es)) (λ n. reported (at_number n m))
      (λ o. (address o.content, size o.content)) (ap reported h.0) (copied_entries t ps m es h.1)

  -- the row of a tenant says what it holds
  pub row_reported : (k t : ℕ) (es : List (ℕ × FiledObject O)) (ps qs : Pairs) → IsStrictlySortedBy nat_cmp (keys_of es) → ((n : ℕ) (f : FiledObject O) → at_number n es ≡ Some f → n < k) → ArePaired es ps
      → qs ≡ filter (range_contains pair_cmp (Included (t, 0)) (Excluded (t, k))) ps → (reported_of es qs ≡ listed size address t (shown (with_addresses address ps es))) × AreThere es qs
  row_reported k t es ps qs ordered before are is =
      let numbers : map (λ p. p.1) qs ≡ kept t ps es = ap (map (λ (p : ℕ × ℕ). p.1)) is ∙ row_is k t es ps ordered before are in (
        reported_row es qs ∙ ap (map (λ (n : ℕ). reported (at_number n es))) numbers ∙ copied_entries t ps es es (all_found es ordered),
        subst (AllByRecursion (λ n. IsSome (at_number n es))) (sym numbers) (all_some k t es ps ordered before are (keys_of es)),
      )

  -- the labels of what is filed are those of the objects that the catalog shows
  pub labels_shown : (ps : Pairs) (es : List (ℕ × FiledObject O)) → map (λ f. label_of size address f.content) (values_of es) ≡ map (λ o. label_of size address o.content) (shown (with_addresses address ps es))
  labels_shown ps [] = refl
  labels_shown ps (e ∷ es) = ap (λ ls. label_of size address e.1.content ∷ ls) (labels_shown ps es)
