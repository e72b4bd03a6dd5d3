-- Filed objects by the numbers of their filings, as the list of objects that a catalog shows.
use Rattle.std.proofs.Common.{◌≡◌, ◌∙◌, ◌+◌, ◌<◌, ◌≤◌, ℕ, Bool, true, false, List, [], ◌∷◌, ◌++◌, Option, Some, None, cond, refl, ap, sym, subst, arith, length}
use Rattle.std.specs.Prelude.{IsSome}
use Rattle.std.specs.BTreeMap.{is_at}
use Rattle.std.specs.List.{AllByRecursion}
use Rattle.std.specs.List.Sorted.{IsStrictlySortedBy}
use Rattle.std.specs.Map.{keys_of, lookup, remove_entry, set_value, values_of}
use Rattle.std.specs.Option.{option_map}
use Rattle.std.specs.Ordering.{nat_cmp}
use Rattle.std.specs.Str.{bytes_eq}
use Rattle.std.proofs.lemmas.Slice.Eq.{bytes_eq-Decides}
use Rattle.store_books.specs.declared.catalog.FiledObject.{FiledObject}
use Rattle.store_books.specs.Books.{Filed, addressed, object_among}
use Rattle.store_books.specs.Kept.{ModelCatalog}
use Rattle.store_books.specs.inner.Catalog.{AreNumbered, at_number, with_address, with_addresses}
use Rattle.store_books.specs.Commands.{with_holders}
use Rattle.store_books.proofs.AddressedObjects.{readdressed}
use Rattle.store_books.proofs.HeldObjects.{all_with_addresses, at_with, ordered_of}
use Rattle.store_books.proofs.Lists.{values_push as values-push}
use Rattle.store_books.proofs.Numbers.{all_below, at_pushed, at_removed, at_set, is_fresh, is_there}
use Rattle.store_books.proofs.ObjectsByNumber.{agrees, filed_after, filed_less, filed_more, object_missing, object_there, removed, replaced, unplaced}
use Rattle.store_books.proofs.Pairs.{Pairs}
use Rattle.store_upload.proofs.Places.{some_is}

abbrev pub Numbers : Type 0
Numbers = List ℕ → Option ℕ

-- an address that was led from to a number, and then no more
pub undone_number : (k : ℕ) (a : List ℕ) (p q r : Numbers) → p a ≡ None → ((b : List ℕ) → q b ≡ cond (bytes_eq a b) (Some k) (p b)) → ((b : List ℕ) → r b ≡ cond (bytes_eq a b) None (q b)) → (b : List ℕ) → r b ≡ p b
undone_number k a p q r none came went b = by (bytes_eq a b) refl
  where
    by : (same : Bool) → bytes_eq a b ≡ same → r b ≡ p b
    by true is = went b ∙ rw is (sym (ap p (sym ((bytes_eq-Decides a b).0 is)) ∙ none))
    by false is = went b ∙ rw is (came b ∙ rw is refl)

module _ {O : Type 0} where
  -- the objects in filing order
  abbrev pub shown : List (ℕ × (List ℕ × Filed O)) → List (Filed O)
  shown es = values_of (values_of es)

  -- the catalog of these
  abbrev pub catalog_of : ℕ → List (ℕ × (List ℕ × Filed O)) → ModelCatalog O
  catalog_of k m = record { objects = shown m; filings = k }

module _ {O : Type 0} (address : O → List ℕ) (k : ℕ) (es : List (ℕ × FiledObject O)) (ps : Pairs) (p : Numbers) (are : AreNumbered k (with_addresses address ps es) p) where
  -- the objects with their addresses and their holders
  abbrev all : List (ℕ × (List ℕ × Filed O))
  all = with_addresses address ps es

  -- ---- look-ups

  among : (a : List ℕ) → object_among address (shown all) a ≡ lookup (bytes_eq a) (values_of all)
  among a = ap (lookup (bytes_eq a)) (readdressed address (values_of all) (all_with_addresses address ps es))

  pub numbered : (a : List ℕ) (n : ℕ) → p a ≡ Some n → object_among address (shown all) a ≡ option_map (λ o. o.1) (at_number n all)
  numbered a n at = among a ∙ object_there k all p are a n at

  pub unnumbered : (a : List ℕ) → p a ≡ None → object_among address (shown all) a ≡ None
  unnumbered a none = among a ∙ object_missing k all p are a none

  -- what is filed under a number is shown under its address
  shown_at : (n : ℕ) (f : Option (FiledObject O)) → at_number n es ≡ f → at_number n all ≡ option_map (with_address address ps n) f
  shown_at n f is = at_with address ps n es ∙ ap (option_map (with_address address ps n)) is

  there_step : (a : List ℕ) (n : ℕ) (f : Option (FiledObject O)) → at_number n es ≡ f → (o : Filed O) → at_number n all ≡ Some (a, o) → (f : FiledObject O) × (at_number n es ≡ Some f) × (address f.content ≡ a)
  there_step a n None is o at = absurd (let no = rw (shown_at n None is) at at in cc)
  there_step a n (Some f) is o at = (f, is, ap (λ (x : List ℕ × Filed O). x.0) (some_is (with_address address ps n f) (a, o) (sym (shown_at n (Some f) is) ∙ at)))

  -- an address that leads to a number has an object there
  pub filed_there : (a : List ℕ) (n : ℕ) → p a ≡ Some n → (f : FiledObject O) × (at_number n es ≡ Some f) × (address f.content ≡ a)
  filed_there a n at = let there = are.there a n at in there_step a n (at_number n es) refl there.0 there.1

  pub addressed_at : (a : List ℕ) (n : ℕ) (f : FiledObject O) → at_number n es ≡ Some f → address f.content ≡ a → at_number n all ≡ Some (a, (with_address address ps n f).1)
  addressed_at a n f at same = shown_at n (Some f) at ∙ ap (λ (b : List ℕ). Some (b, (with_address address ps n f).1)) same

  pub is_filed : (a : List ℕ) (n : ℕ) → p a ≡ Some n → at_number n es ≡ None → ⊥
  is_filed a n at none = let there = filed_there a n at in let no = rw none at there.1 in absurd (cc)

  -- filings are below the next number
  pub before : (n : ℕ) (f : FiledObject O) → at_number n es ≡ Some f → n < k
  before n f is = are.before n (with_address address ps n f) (shown_at n (Some f) is)

  pub entries_below : AllByRecursion (λ e. e.0 < k) es
  entries_below = all_below es k (ordered_of address ps es are.ordered) before

  pub next_is_fresh : at_number k es ≡ None
  next_is_fresh = is_fresh es k before

  -- and below each later one
  pub numbered_below : (n : ℕ) → k ≤ n → AreNumbered n all p
  numbered_below n later = record { ordered = are.ordered; before = λ m o at. let below = are.before m o at in omega (arith, below, later); there = are.there; found = are.found }

  module _ (x : ModelCatalog O) (is : catalog_of k all ≡ x) where
    shown_is : (a : List ℕ) → object_among address (shown all) a ≡ object_among address x.objects a
    shown_is a = ap (λ (y : ModelCatalog O). object_among address y.objects a) is

    -- an object that is shown has a number
    pub is_numbered : (a : List ℕ) → IsSome (object_among address x.objects a) → p a ≡ None → ⊥
    is_numbered a found none =
        let absent = sym (shown_is a) ∙ unnumbered a none in
        let never = rw absent at found in
        absurd (cc)

    -- an address without a number has no object
    pub nothing_at : (a : List ℕ) → p a ≡ None → object_among address x.objects a ≡ None
    nothing_at a none = sym (shown_is a) ∙ unnumbered a none

    -- and one with a number has the object that is filed there
    pub object_at_number : (a : List ℕ) (n : ℕ) (f : FiledObject O) → p a ≡ Some n → at_number n es ≡ Some f → object_among address x.objects a ≡ Some (with_address address ps n f).1
    object_at_number a n f number at = sym (shown_is a) ∙ numbered a n number ∙ ap (option_map (λ o. o.1)) (shown_at n (Some f) at)

    -- an object that is not shown has no number
    pub is_unnumbered : (a : List ℕ) → object_among address x.objects a ≡ None → p a ≡ None
    is_unnumbered a none = unplaced k all p are a (sym (among a) ∙ shown_is a ∙ none)

    -- ---- what the catalog shows after a change

    pub catalog_more : (n : List (ℕ × (List ℕ × Filed O))) (a : List ℕ) (o : Filed O) → n ≡ all ++ (k, (a, o)) ∷ [] → catalog_of (k + 1) n ≡ record { objects = x.objects ++ o ∷ []; filings = x.filings + 1 }
    catalog_more n a o entries =
        ap (λ (os : List (Filed O)). record { objects = os; filings = k + 1 }) (ap shown entries ∙ ap values_of (values-push all k (a, o)) ∙ values-push (values_of all) a o)
        ∙ ap (λ (y : ModelCatalog O). record { objects = y.objects ++ o ∷ []; filings = y.filings + 1 }) is

    nonempty_with : (os : List (Filed O)) (a : List ℕ) (o : Filed O) (hs : List ℕ) → 0 < length hs → with_holders address os a o hs ≡ values_of (set_value (bytes_eq a) (addressed address os) (record o { holders = hs }))
    nonempty_with os a o [] some = absurd (omega arith)
    nonempty_with os a o (h ∷ hs) some = refl

    shown_changed : (a : List ℕ) (q : ℕ) → p a ≡ Some q → (o : Filed O) (hs : List ℕ) → 0 < length hs → shown (set_value (is_at (nat_cmp q)) all (a, record o { holders = hs })) ≡ with_holders address (shown all) a o hs
    shown_changed a q number o hs some =
        ap values_of (replaced (is_at (nat_cmp q)) a (record o { holders = hs }) all (agrees k all p are a q number))
        ∙ ap (λ (xs : List (List ℕ × Filed O)). values_of (set_value (bytes_eq a) xs (record o { holders = hs }))) (sym (readdressed address (values_of all) (all_with_addresses address ps es))) ∙ sym (nonempty_with (shown all) a o hs some)

    pub catalog_after : (n : List (ℕ × (List ℕ × Filed O))) (a : List ℕ) (q : ℕ) → p a ≡ Some q → (o : Filed O) (hs : List ℕ) → 0 < length hs → n ≡ set_value (is_at (nat_cmp q)) all (a, record o { holders = hs })
        → catalog_of k n ≡ record x { objects = with_holders address x.objects a o hs }
    catalog_after n a q number o hs some entries =
        ap (λ (os : List (Filed O)). record { objects = os; filings = k }) (ap shown entries ∙ shown_changed a q number o hs some)
        ∙ ap (λ (y : ModelCatalog O). record y { objects = with_holders address y.objects a o hs }) is

    shown_less : (a : List ℕ) (q : ℕ) → p a ≡ Some q → (o : Filed O) → shown (remove_entry (is_at (nat_cmp q)) all) ≡ with_holders address (shown all) a o []
    shown_less a q number o =
        ap values_of (removed (is_at (nat_cmp q)) a all (agrees k all p are a q number))
        ∙ ap (λ (xs : List (List ℕ × Filed O)). values_of (remove_entry (bytes_eq a) xs)) (sym (readdressed address (values_of all) (all_with_addresses address ps es)))

    pub catalog_less : (n : List (ℕ × (List ℕ × Filed O))) (a : List ℕ) (q : ℕ) → p a ≡ Some q → n ≡ remove_entry (is_at (nat_cmp q)) all → (o : Filed O) → catalog_of k n ≡ record x { objects = with_holders address x.objects a o [] }
    catalog_less n a q number entries o =
        ap (λ (os : List (Filed O)). record { objects = os; filings = k }) (ap shown entries ∙ shown_less a q number o) ∙ ap (λ (y : ModelCatalog O). record y { objects = with_holders address y.objects a o [] }) is

  -- ---- the numbers after a change

  pub numbered_more : (n : List (ℕ × (List ℕ × Filed O))) (r : Numbers) (a : List ℕ) (o : Filed O) → p a ≡ None → n ≡ all ++ (k, (a, o)) ∷ [] → IsStrictlySortedBy nat_cmp (keys_of n) → ((b : List ℕ) → r b ≡ cond (bytes_eq a b) (Some k) (p b)) → AreNumbered (k + 1) n r
  numbered_more n r a o absent entries ordered numbers =
      filed_more k all n p r (a, o) absent ordered (λ q. ap (at_number q) entries ∙ at_pushed k q (a, o) all (all_below all k are.ordered are.before)) numbers are

  pub numbered_after : (n : List (ℕ × (List ℕ × Filed O))) (a : List ℕ) (q : ℕ) (o w : Filed O) → at_number q all ≡ Some (a, o) → n ≡ set_value (is_at (nat_cmp q)) all (a, w) → IsStrictlySortedBy nat_cmp (keys_of n) → AreNumbered k n p
  numbered_after n a q o w at entries ordered = filed_after k q all n p (a, o) (a, w) at refl ordered (λ j. ap (at_number j) entries ∙ at_set q j (a, w) all (is_there at)) are

  pub numbered_less : (n : List (ℕ × (List ℕ × Filed O))) (r : Numbers) (a : List ℕ) (q : ℕ) → p a ≡ Some q → n ≡ remove_entry (is_at (nat_cmp q)) all → IsStrictlySortedBy nat_cmp (keys_of n) → ((b : List ℕ) → r b ≡ cond (bytes_eq a b) None (p b)) → AreNumbered k n r
  numbered_less n r a q number entries ordered numbers =
      let there = are.there a q number in
      filed_less k q all n p r (a, there.0) there.1 ordered (λ j. ap (at_number j) entries ∙ at_removed q j all are.ordered) numbers are

  pub numbered_still : (n : List (ℕ × (List ℕ × Filed O))) (r : Numbers) → n ≡ all → ((b : List ℕ) → r b ≡ p b) → AreNumbered k n r
  numbered_still n r same numbers = subst (λ (xs : List (ℕ × (List ℕ × Filed O))). AreNumbered k xs r) (sym same) (record {
    ordered = are.ordered;
    before = are.before;
    there = λ a q is. are.there a q (sym (numbers a) ∙ is);
    found = λ q x is. numbers x.0 ∙ are.found q x is;
  })
