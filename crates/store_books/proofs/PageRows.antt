-- A page of what one tenant holds: the first pairs of a later part of its row.
use Rattle.std.proofs.Common.{◌≡◌, ◌∙◌, ◌+◌, ◌<◌, ◌≤◌, ℕ, Bool, true, false, cond, List, [], ◌∷◌, Some, refl, ap, sym, subst, suc, zero, arith, inl, inr, map, min}
use Rattle.std.specs.Prelude.{◌&&◌, IsSome, filter, nat_le, not, take}
use Rattle.std.specs.BTreeMap.Range.{range_contains}
use Rattle.std.specs.List.{AllByRecursion}
use Rattle.std.specs.List.Sorted.{IsStrictlySortedBy}
use Rattle.std.specs.Map.{keys_of}
use Rattle.std.specs.Ordering.{is_le, nat_cmp}
use Rattle.std.specs.declared.ops.Bound.TheVariants.{Excluded, Included}
use Rattle.std.proofs.lemmas.Bool.{cases_eq, cases_lt, eq-eqb, le-leb, le-ltb, lt-leb, lt-ltb, ne_eqb}
use Rattle.std.proofs.lemmas.List.{take-map}
use Rattle.store_books.specs.declared.catalog.FiledObject.{FiledObject}
use Rattle.store_books.specs.Books.{Filed, IsRisingFrom, is_held_by}
use Rattle.store_books.specs.inner.Catalog.{ArePaired, at_number, holders_in, pair_cmp, with_addresses}
use Rattle.store_books.specs.Kept.{ModelCatalog}
use Rattle.store_books.specs.Pages.{next_from, page_of}
use Rattle.store_books.proofs.Catalogs.{catalog_of, shown}
use Rattle.store_books.proofs.HoldingRows.{AreThere, all_some, kept, reported, reported_of, reported_row, rising, row_is}
use Rattle.store_books.proofs.Numbers.{all_found}
use Rattle.store_books.proofs.Pairs.{Pairs}
use Rattle.store_books.proofs.RisingHolders.{has}

-- ---- filtered lists

both_step : {X : Type 0} (a b : Bool) (x : X) (xs : List X) (test : X → Bool) → test x ≡ b → cond (a && b) (x ∷ filter test xs) (filter test xs) ≡ filter test (cond a (x ∷ xs) xs)
both_step true true x xs test is = rw is refl
both_step true false x xs test is = rw is refl
both_step false b x xs test is = refl

-- what passes two tests
filter_both : {X : Type 0} (both one two : X → Bool) → ((x : X) → both x ≡ (one x && two x)) → (xs : List X) → filter both xs ≡ filter two (filter one xs)
filter_both both one two is [] = refl
filter_both both one two is (x ∷ xs) =
    ap (λ (ys : List _). cond (both x) (x ∷ ys) ys) (filter_both both one two is xs) ∙ ap (λ (b : Bool). cond b (x ∷ filter two (filter one xs)) (filter two (filter one xs))) (is x)
    ∙ both_step (one x) (two x) x (filter one xs) two refl

mapped_step : {X Y : Type 0} (f : X → Y) (b : Bool) (x : X) (xs : List X) → map f (cond b (x ∷ xs) xs) ≡ cond b (f x ∷ map f xs) (map f xs)
mapped_step f true x xs = refl
mapped_step f false x xs = refl

filter_mapped : {X Y : Type 0} (f : X → Y) (test : Y → Bool) (xs : List X) → map f (filter (λ x. test (f x)) xs) ≡ filter test (map f xs)
filter_mapped f test [] = refl
filter_mapped f test (x ∷ xs) = mapped_step f (test (f x)) x (filter (λ x. test (f x)) xs) ∙ ap (λ (ys : List _). cond (test (f x)) (f x ∷ ys) ys) (filter_mapped f test xs)

kept_step : {X : Type 0} (P : X → Type 0) (b : Bool) (x : X) (xs : List X) → P x → AllByRecursion P xs → AllByRecursion P (cond b (x ∷ xs) xs)
kept_step P true x xs one all = (one, all)
kept_step P false x xs one all = all

all_filtered : {X : Type 0} (P : X → Type 0) (test : X → Bool) (xs : List X) → AllByRecursion P xs → AllByRecursion P (filter test xs)
all_filtered P test [] all = tt
all_filtered P test (x ∷ xs) all = kept_step P (test x) x (filter test xs) all.0 (all_filtered P test xs all.1)

all_taken : {X : Type 0} (P : X → Type 0) (n : ℕ) (xs : List X) → AllByRecursion P xs → AllByRecursion P (take n xs)
all_taken P zero xs all = tt
all_taken P (suc n) [] all = tt
all_taken P (suc n) (x ∷ xs) all = (all.0, all_taken P n xs all.1)

pub taken_more : {X : Type 0} (n m : ℕ) (x : X) (xs ys : List X) → ys ≡ x ∷ xs → m + 1 ≡ n → take n ys ≡ x ∷ take m xs
taken_more zero m x xs ys is one = absurd (omega (arith, one))
taken_more (suc n) m x xs ys is one = ap (take (suc n)) is ∙ ap (λ (k : ℕ). x ∷ take k xs) (omega (arith, one))

pub taken_none : {X : Type 0} (n : ℕ) (ys : List X) → (0 < n → ys ≡ []) → take n ys ≡ []
taken_none zero ys none = refl
taken_none (suc n) ys none = ap (take (suc n)) (none (omega arith))

-- ---- the objects' numbers

module _ {O : Type 0} (address : O → List ℕ) (ps : Pairs) where
  keys_shown : (es : List (ℕ × FiledObject O)) → keys_of (with_addresses address ps es) ≡ map (λ o. o.number) (shown (with_addresses address ps es))
  keys_shown [] = refl
  keys_shown (e ∷ es) = ap (λ ns. e.0 ∷ ns) (keys_shown es)

  pub numbers_rise : (k : ℕ) (es : List (ℕ × FiledObject O)) (x : ModelCatalog O) → IsStrictlySortedBy nat_cmp (keys_of (with_addresses address ps es)) → catalog_of k (with_addresses address ps es) ≡ x → IsRisingFrom 0 (map (λ o. o.number) x.objects)
  numbers_rise k es x ordered is =
      subst (λ (y : ModelCatalog O). IsRisingFrom 0 (map (λ o. o.number) y.objects)) is (subst (IsRisingFrom 0) (keys_shown es) (rising (keys_of (with_addresses address ps es)) ordered))

-- ---- the range of pairs that is read

le_true : (m n : ℕ) → m ≤ n → is_le (nat_cmp m n) ≡ true
le_true m n le = elim (cases_lt m n) [
  | inl less ↦ rw (lt-ltb m n less) refl
  | inr more ↦ let same : m ≡ n = omega (arith, le, more) in rw (le-ltb m n more, eq-eqb m n same) refl
]

gt_false : (m n : ℕ) → n < m → is_le (nat_cmp m n) ≡ false
gt_false m n less = rw (le-ltb m n (omega (arith, less)), ne_eqb m n (λ same. absurd (omega (arith, same, less)))) refl

within : (f k n : ℕ) → (is_le (nat_cmp (min f k) n) && not (is_le (nat_cmp k n))) ≡ ((is_le (nat_cmp 0 n) && not (is_le (nat_cmp k n))) && nat_le f n)
within f k n = elim (cases_lt n k) [
  | inl below ↦ elim (cases_lt n f) [
    | inl before ↦ rw (gt_false k n below, gt_false (min f k) n (omega (arith, below, before)), le_true 0 n (omega arith), lt-leb f n before) refl
    | inr from ↦ rw (gt_false k n below, le_true (min f k) n (omega (arith, from)), le_true 0 n (omega arith), le-leb f n from) refl
  ]
  | inr above ↦ rw (le_true k n above, le_true (min f k) n (omega (arith, above)), le_true 0 n (omega arith)) refl
]

in_page : (t f k : ℕ) (p : ℕ × ℕ) → range_contains pair_cmp (Included (t, min f k)) (Excluded (t, k)) p ≡ (range_contains pair_cmp (Included (t, 0)) (Excluded (t, k)) p && nat_le f p.1)
in_page t f k p = elim (cases_lt t p.0) [
  | inl less ↦ rw (lt-ltb t p.0 less) refl
  | inr more ↦ elim (cases_eq t p.0) [
    | inl same ↦ rw (le-ltb t p.0 more, eq-eqb t p.0 same) (within f k p.1)
    | inr apart ↦ rw (le-ltb t p.0 more, ne_eqb t p.0 apart) refl
  ]
]

module _ {O : Type 0} where
  -- the numbers of what the tenant holds, from one on
  abbrev kept_from : ℕ → ℕ → Pairs → List (ℕ × FiledObject O) → List ℕ
  kept_from t f ps es = filter (λ n. has t (holders_in ps n) && nat_le f n) (keys_of es)

  from_row : (t f : ℕ) (ps : Pairs) (es : List (ℕ × FiledObject O)) → filter (nat_le f) (kept t ps es) ≡ kept_from t f ps es
  from_row t f ps es = sym (filter_both (λ n. has t (holders_in ps n) && nat_le f n) (λ n. has t (holders_in ps n)) (nat_le f) (λ n. refl) (keys_of es))

  numbers_step : (b : Bool) (o : Filed O) (os : List (Filed O)) (n : ℕ) (ns : List ℕ) → n ≡ o.number → ns ≡ map (λ o. o.number) os → cond b (n ∷ ns) ns ≡ map (λ o. o.number) (cond b (o ∷ os) os)
  numbers_step true o os n ns one rest = ap (λ (m : ℕ). m ∷ ns) one ∙ ap (λ ms. o.number ∷ ms) rest
  numbers_step false o os n ns one rest = rest

  -- the objects that the tenant holds, from a number on
  abbrev held : ℕ → ℕ → List (Filed O) → List (Filed O)
  held t f objects = filter (λ o. is_held_by t o && nat_le f o.number) objects

  module _ (address : O → List ℕ) (t f : ℕ) (ps : Pairs) where
    numbers_kept : (es : List (ℕ × FiledObject O)) → kept_from t f ps es ≡ map (λ o. o.number) (held t f (shown (with_addresses address ps es)))
    numbers_kept [] = refl
    numbers_kept (e ∷ es) =
        let o : Filed O = record { content = e.1.content; holders = holders_in ps e.0; number = e.0 } in
        numbers_step (has t (holders_in ps e.0) && nat_le f e.0) o (held t f (shown (with_addresses address ps es))) e.0 (kept_from t f ps es) refl (numbers_kept es)

    reported_step : (size : O → ℕ) (b : Bool) (x : List ℕ × ℕ) (o : Filed O) (os : List (Filed O)) (n : ℕ) (ns : List ℕ) (g : ℕ → List ℕ × ℕ) → g n ≡ (address o.content, size o.content) → map g ns ≡ map (λ o. (address o.content, size o.content)) os
        → map g (cond b (n ∷ ns) ns) ≡ map (λ o. (address o.content, size o.content)) (cond b (o ∷ os) os)
    reported_step size true x o os n ns g one rest = ap (λ (y : List ℕ × ℕ). y ∷ map g ns) one ∙ ap (λ xs. (address o.content, size o.content) ∷ xs) rest
    reported_step size false x o os n ns g one rest = rest

    reported_kept : (size : O → ℕ) (m es : List (ℕ × FiledObject O)) → AllByRecursion (λ e. at_number e.0 m ≡ Some e.1) es
        → map (λ n. reported size address (at_number n m)) (kept_from t f ps es) ≡ map (λ o. (address o.content, size o.content)) (held t f (shown (with_addresses address ps es)))
    reported_kept size m [] h = refl
    reported_kept size m (e ∷ es) h =
        let o : Filed O = record { content = e.1.content; holders = holders_in ps e.0; number = e.0 } in
        reported_step size (has t (holders_in ps e.0) && nat_le f e.0) (reported size address (Some e.1)) o (held t f (shown (with_addresses address ps es))) e.0 (kept_from t f ps es) (λ n. reported size address (at_number n m))
        (ap (reported size address) h.0) (reported_kept size m es h.1)

  module _ (k t f : ℕ) (es : List (ℕ × FiledObject O)) (ps qs : Pairs) (ordered : IsStrictlySortedBy nat_cmp (keys_of es)) (before : (n : ℕ) (f : FiledObject O) → at_number n es ≡ Some f → n < k) (are : ArePaired es ps) (is : qs ≡ filter (range_contains pair_cmp (Included (t, min f k)) (Excluded (t, k))) ps) where
    numbers_read : map (λ p. p.1) qs ≡ kept_from t f ps es
    numbers_read =
        ap (map (λ (p : ℕ × ℕ). p.1)) (is ∙ filter_both (range_contains pair_cmp (Included (t, min f k)) (Excluded (t, k))) (range_contains pair_cmp (Included (t, 0)) (Excluded (t, k))) (λ p. nat_le f p.1) (in_page t f k) ps)
        ∙ filter_mapped (λ (p : ℕ × ℕ). p.1) (nat_le f) (filter (range_contains pair_cmp (Included (t, 0)) (Excluded (t, k))) ps)
        ∙ ap (filter (nat_le f)) (row_is k t es ps ordered before are) ∙ from_row t f ps es

    pub page_there : (n : ℕ) → AreThere es (take n qs)
    page_there n =
        let all : AllByRecursion (λ n. IsSome (at_number n es)) (kept_from t f ps es) = subst (AllByRecursion (λ n. IsSome (at_number n es))) (from_row t f ps es) (all_filtered (λ n. IsSome (at_number n es)) (nat_le f) (kept t ps es) (all_some k t es ps ordered before are (keys_of es))) in
        let taken : take n (kept_from t f ps es) ≡ map (λ p. p.1) (take n qs) = ap (take n) (sym numbers_read) ∙ take-map (λ (p : ℕ × ℕ). p.1) n qs in
        subst (AllByRecursion (λ n. IsSome (at_number n es))) taken (all_taken (λ n. IsSome (at_number n es)) n (kept_from t f ps es) all)

    module _ (size : O → ℕ) (address : O → List ℕ) where
      abbrev objects : List (Filed O)
      objects = shown (with_addresses address ps es)

      pub page_next : (n : ℕ) → next_from f (map (λ p. p.1) (take n qs)) ≡ (page_of size address t f n objects).next
      page_next n = ap (next_from f) (sym (take-map (λ (p : ℕ × ℕ). p.1) n qs) ∙ ap (take n) (numbers_read ∙ numbers_kept address t f ps es) ∙ take-map (λ (o : Filed O). o.number) n (held t f objects))

      pub page_reported : (n : ℕ) → reported_of size address es (take n qs) ≡ (page_of size address t f n objects).objects
      page_reported n =
          reported_row size address es (take n qs)
          ∙ ap (map (λ (m : ℕ). reported size address (at_number m es))) (sym (take-map (λ (p : ℕ × ℕ). p.1) n qs) ∙ ap (take n) numbers_read)
          ∙ sym (take-map (λ (m : ℕ). reported size address (at_number m es)) n (kept_from t f ps es))
          ∙ ap (take n) (reported_kept address t f ps size es es (all_found es ordered))
          ∙ take-map (λ (o : Filed O). (address o.content, size o.content)) n (held t f objects)
