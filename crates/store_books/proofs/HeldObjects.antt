-- Objects by number, each with its address and the holders that pairs give it.
use Rattle.std.proofs.Common.{◌≡◌, ◌≢◌, ◌∙◌, ◌+◌, ◌<◌, ℕ, Bool, true, false, cond, List, [], ◌∷◌, ◌++◌, Option, Some, None, refl, ap, ap₂, sym, subst, arith, inl, inr, length}
use Rattle.std.specs.Prelude.{IsSome}
use Rattle.std.specs.BTreeMap.{is_at}
use Rattle.std.specs.List.{AllByRecursion}
use Rattle.std.specs.List.Sorted.{IsStrictlySortedBy}
use Rattle.std.specs.Map.{keys_of, remove_entry, set_value, values_of}
use Rattle.std.specs.Option.{option_map}
use Rattle.std.specs.Ordering.{nat_cmp}
use Rattle.std.specs.declared.cmp.Ordering.TheVariants.{Less}
use Rattle.std.proofs.lemmas.Bool.{cases_Bool, cases_eq}
use Rattle.std.proofs.lemmas.List.{map-append}
use Rattle.std.proofs.lemmas.Map.Keys.{sorted_head, sorted_tail}
use Rattle.store_books.specs.declared.catalog.FiledObject.{FiledObject}
use Rattle.store_books.specs.Books.{Filed}
use Rattle.store_books.specs.inner.Catalog.{ArePaired, IsAddressed, at_number, holders_in, is_paired, pair_cmp, with_address, with_addresses}
use Rattle.store_books.proofs.Numbers.{below_is}
use Rattle.store_books.proofs.Pairs.{Changes, Pairs, elsewhere, holders_elsewhere, holders_none, holders_same}
use Rattle.store_books.proofs.RisingHolders.{has}
use Rattle.store_upload.proofs.Places.{at_other, at_same, first_is, later_is}

module _ {O : Type 0} (address : O → List ℕ) where
  abbrev pub Entries : Type 0
  Entries = List (ℕ × FiledObject O)

  pub all_with_addresses : (ps : Pairs) (es : Entries) → AllByRecursion (IsAddressed address) (values_of (with_addresses address ps es))
  all_with_addresses ps [] = tt
  all_with_addresses ps (e ∷ es) = (refl, all_with_addresses ps es)

  keys_with : (ps : Pairs) (es : Entries) → keys_of (with_addresses address ps es) ≡ keys_of es
  keys_with ps [] = refl
  keys_with ps (e ∷ es) = ap (λ ks. e.0 ∷ ks) (keys_with ps es)

  pub ordered_with : (ps : Pairs) (es : Entries) → IsStrictlySortedBy nat_cmp (keys_of es) → IsStrictlySortedBy nat_cmp (keys_of (with_addresses address ps es))
  ordered_with ps es ordered = subst (IsStrictlySortedBy nat_cmp) (sym (keys_with ps es)) ordered

  pub ordered_of : (ps : Pairs) (es : Entries) → IsStrictlySortedBy nat_cmp (keys_of (with_addresses address ps es)) → IsStrictlySortedBy nat_cmp (keys_of es)
  ordered_of ps es ordered = subst (IsStrictlySortedBy nat_cmp) (keys_with ps es) ordered

  pub at_with : (ps : Pairs) (n : ℕ) (es : Entries) → at_number n (with_addresses address ps es) ≡ option_map (with_address address ps n) (at_number n es)
  at_with ps n [] = refl
  at_with ps n (e ∷ es) = elim (cases_eq n e.0) [
    | inl here ↦
        first_is n (e.0, with_address address ps e.0 e.1) (with_addresses address ps es) here ∙ ap (λ (k : ℕ). Some (with_address address ps k e.1)) (sym here)
        ∙ ap (option_map (with_address address ps n)) (sym (first_is n e es here))
    | inr apart ↦ later_is n (e.0, with_address address ps e.0 e.1) (with_addresses address ps es) apart ∙ at_with ps n es ∙ ap (option_map (with_address address ps n)) (sym (later_is n e es apart))
  ]

  -- ---- what changes with the pairs and one object

  same_with : (ps qs : Pairs) (es : Entries) → AllByRecursion (λ e. holders_in qs e.0 ≡ holders_in ps e.0) es → with_addresses address qs es ≡ with_addresses address ps es
  same_with ps qs [] h = refl
  same_with ps qs (e ∷ es) h = ap₂ (λ (hs : List ℕ) (xs : List (ℕ × (List ℕ × Filed O))). (e.0, (address e.1.content, record { content = e.1.content; holders = hs; number = e.0 })) ∷ xs) h.0 (same_with ps qs es h.1)

  module _ (ps qs : Pairs) (k : ℕ) (others : (n : ℕ) → k ≢ n → holders_in qs n ≡ holders_in ps n) where
    others_after : (e : ℕ × FiledObject O) (es : Entries) → k ≡ e.0 → AllByRecursion (λ n. nat_cmp e.0 n ≡ Less) (keys_of es) → AllByRecursion (λ f. holders_in qs f.0 ≡ holders_in ps f.0) es
    others_after e [] is h = tt
    others_after e (f ∷ es) is h = let less = below_is e.0 f.0 h.0 in (others f.0 (λ same. absurd (omega (arith, less, is, same))), others_after e es is h.1)

    others_before : (es : Entries) → AllByRecursion (λ e. e.0 < k) es → AllByRecursion (λ e. holders_in qs e.0 ≡ holders_in ps e.0) es
    others_before [] h = tt
    others_before (e ∷ es) h = (others e.0 (λ same. absurd (omega (arith, h.0, same))), others_before es h.1)

    pub pushed_with : (f : FiledObject O) (es : Entries) → AllByRecursion (λ e. e.0 < k) es → with_addresses address qs (es ++ (k, f) ∷ []) ≡ with_addresses address ps es ++ (k, with_address address qs k f) ∷ []
    pushed_with f es below =
        map-append (λ (e : ℕ × FiledObject O). (e.0, with_address address qs e.0 e.1)) es ((k, f) ∷ [])
        ∙ ap (λ (xs : List (ℕ × (List ℕ × Filed O))). xs ++ (k, with_address address qs k f) ∷ []) (same_with ps qs es (others_before es below))

    pub set_with : (f : FiledObject O) (es : Entries) → IsStrictlySortedBy nat_cmp (keys_of es) → with_addresses address qs (set_value (is_at (nat_cmp k)) es f) ≡ set_value (is_at (nat_cmp k)) (with_addresses address ps es) (with_address address qs k f)
    set_with f [] ordered = refl
    set_with f (e ∷ es) ordered = elim (cases_eq k e.0) [
      | inl here ↦ rw (at_same k e.0 here) (ap₂ (λ (n : ℕ) (xs : List (ℕ × (List ℕ × Filed O))). (e.0, with_address address qs n f) ∷ xs) (sym here) (same_with ps qs es (others_after e es here (sorted_head nat_cmp e.0 (keys_of es) ordered))))
      | inr apart ↦ rw (at_other k e.0 apart) (ap₂ (λ (hs : List ℕ) (xs : List (ℕ × (List ℕ × Filed O))). (e.0, (address e.1.content, record { content = e.1.content; holders = hs; number = e.0 })) ∷ xs) (others e.0 apart) (set_with f es (sorted_tail nat_cmp e.0 (keys_of es) ordered)))
    ]

    pub removed_with : (es : Entries) → IsStrictlySortedBy nat_cmp (keys_of es) → with_addresses address qs (remove_entry (is_at (nat_cmp k)) es) ≡ remove_entry (is_at (nat_cmp k)) (with_addresses address ps es)
    removed_with [] ordered = refl
    removed_with (e ∷ es) ordered = elim (cases_eq k e.0) [
      | inl here ↦ rw (at_same k e.0 here) (same_with ps qs es (others_after e es here (sorted_head nat_cmp e.0 (keys_of es) ordered)))
      | inr apart ↦ rw (at_other k e.0 apart) (ap₂ (λ (hs : List ℕ) (xs : List (ℕ × (List ℕ × Filed O))). (e.0, (address e.1.content, record { content = e.1.content; holders = hs; number = e.0 })) ∷ xs) (others e.0 apart) (removed_with es (sorted_tail nat_cmp e.0 (keys_of es) ordered)))
    ]

  -- nothing changes
  pub still_with : (ps qs : Pairs) (es : Entries) → ((n : ℕ) → holders_in qs n ≡ holders_in ps n) → with_addresses address qs es ≡ with_addresses address ps es
  still_with ps qs es same = same_with ps qs es (each es)
    where
      each : (fs : Entries) → AllByRecursion (λ e. holders_in qs e.0 ≡ holders_in ps e.0) fs
      each [] = tt
      each (f ∷ fs) = (same f.0, each fs)

-- ---- each pair is of a filing that is there, and counted

module _ {O : Type 0} (ps qs : Pairs) (es fs : List (ℕ × FiledObject O)) (t k : ℕ) (b : Bool) (now : Option (FiledObject O)) (changes : Changes t k b ps qs) (objects : (q : ℕ) → at_number q fs ≡ cond (is_at (nat_cmp k) q) now (at_number q es)) (ordered : IsStrictlySortedBy pair_cmp qs) (are : ArePaired es ps) where
  objects_here : at_number k fs ≡ now
  objects_here = objects k ∙ rw (at_same k k refl) refl

  objects_elsewhere : (n : ℕ) → k ≢ n → at_number n fs ≡ at_number n es
  objects_elsewhere n apart = objects n ∙ rw (at_other k n apart) refl

  pub paired_after : ((u : ℕ) → is_paired qs u k ≡ true → IsSome now) → ((f : FiledObject O) → now ≡ Some f → f.holders ≡ length (holders_in qs k)) → ArePaired fs qs
  paired_after there count = record {
    ordered = ordered;
    filed_is = λ u n is. elim (cases_eq k n) [
      | inl same ↦ subst (λ (j : ℕ). IsSome (at_number j fs)) same (subst IsSome (sym objects_here) (there u (subst (λ (j : ℕ). is_paired qs u j ≡ true) (sym same) is)))
      | inr apart ↦ subst IsSome (sym (objects_elsewhere n apart)) (are.filed_is u n (sym (elsewhere t k b ps qs changes u n apart) ∙ is))
    ];
    counted = λ n f is. elim (cases_eq k n) [
      | inl same ↦ count f (sym objects_here ∙ subst (λ (j : ℕ). at_number j fs ≡ Some f) (sym same) is) ∙ ap (λ (j : ℕ). length (holders_in qs j)) same
      | inr apart ↦ are.counted n f (sym (objects_elsewhere n apart) ∙ is) ∙ sym (ap (λ (hs : List ℕ). length hs) (holders_elsewhere t k b ps qs changes are.ordered ordered n apart))
    ];
  }

module _ {O : Type 0} (ps : Pairs) (es : List (ℕ × FiledObject O)) (are : ArePaired es ps) where
  -- nothing changes
  pub paired_still : (qs : Pairs) (fs : List (ℕ × FiledObject O)) → fs ≡ es → IsStrictlySortedBy pair_cmp qs → ((t n : ℕ) → is_paired qs t n ≡ is_paired ps t n) → ArePaired fs qs
  paired_still qs fs same ordered pairs = record {
    ordered = ordered;
    filed_is = λ t n is. subst (λ (xs : List (ℕ × FiledObject O)). IsSome (at_number n xs)) (sym same) (are.filed_is t n (sym (pairs t n) ∙ is));
    counted = λ n f is. are.counted n f (subst (λ (xs : List (ℕ × FiledObject O)). at_number n xs ≡ Some f) same is) ∙ sym (ap (λ (hs : List ℕ). length hs) (holders_same ps qs are.ordered ordered n (λ t. pairs t n)));
  }

  -- what is not filed is in no pair
  pub unpaired : (n : ℕ) → at_number n es ≡ None → (t : ℕ) → is_paired ps t n ≡ false
  unpaired n none t = elim (cases_Bool (is_paired ps t n)) [
    | inl is ↦ absurd (let no = rw none at (are.filed_is t n is) in cc)
    | inr is ↦ is
  ]

  -- and has no holders
  pub unheld : (n : ℕ) → at_number n es ≡ None → holders_in ps n ≡ []
  unheld n none = holders_none n ps (unpaired n none) are.ordered
