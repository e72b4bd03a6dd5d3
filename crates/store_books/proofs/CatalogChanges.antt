-- What a catalog shows, and what its fields are, after one object or one holder more or less.
use Rattle.std.proofs.Common.{◌≡◌, ◌∙◌, ◌+◌, ◌-◌, ◌^◌, ◌<◌, ℕ, Bool, true, false, cond, List, [], ◌∷◌, ◌++◌, Option, None, Some, refl, ap, ap₂, sym, subst, arith, length}
use Rattle.std.specs.Prelude.{IfSome, IsSome, nat_le}
use Rattle.std.specs.BTreeMap.{BTreeMap, WritesThrough, get, insert_entry, is_at}
use Rattle.std.specs.BTreeSet.{BTreeSet}
use Rattle.std.specs.List.Sorted.{IsStrictlySortedBy}
use Rattle.std.specs.Map.{keys_of, remove_entry, set_value}
use Rattle.std.specs.Ordering.{nat_cmp}
use Rattle.std.specs.Str.{bytes_eq}
use Rattle.std.proofs.lemmas.Map.Steps.{set_value_same}
use Rattle.store_books.specs.declared.catalog.FiledObject.{FiledObject}
use Rattle.store_books.specs.Books.{Filed, is_held_by, object_among}
use Rattle.store_books.specs.Commands.{with_holder, with_holders, without_holder}
use Rattle.store_books.specs.Kept.{ModelCatalog}
use Rattle.store_books.specs.inner.Catalog.{AreNumbered, ArePaired, at_number, holders_in, is_paired, pair_cmp, with_address, with_addresses}
use Rattle.store_books.proofs.Catalogs.{Numbers, addressed_at, catalog_after, catalog_less, catalog_of, entries_below, filed_there, next_is_fresh, numbered_after, numbered_less, object_at_number}
use Rattle.store_books.proofs.HeldObjects.{ordered_of, ordered_with, paired_after, pushed_with, removed_with, set_with, unheld}
use Rattle.store_books.proofs.Numbers.{at_pushed, at_removed, at_set, inserted_last, is_there}
use Rattle.store_books.proofs.Pairs.{Changes, Pairs, few_holders, has_pair, holders_elsewhere, holders_with, holders_without}
use Rattle.store_books.proofs.RisingHolders.{alone_without, has, length_with, length_without, several_without, some_with, with_none}
use Rattle.store_upload.proofs.Places.{some_is}

module _ {O : Type 0} (address : O → List ℕ) (k : ℕ) (es : List (ℕ × FiledObject O)) (ps : Pairs) (p : Numbers) (are : AreNumbered k (with_addresses address ps es) p) (paired : ArePaired es ps) where
  abbrev all : List (ℕ × (List ℕ × Filed O))
  all = with_addresses address ps es

  in_order : IsStrictlySortedBy nat_cmp (keys_of es)
  in_order = ordered_of address ps es are.ordered

  -- ---- an object more

  module _ (t : ℕ) (f : FiledObject O) (fs : List (ℕ × FiledObject O)) (qs : Pairs) (entries : fs ≡ insert_entry nat_cmp es k f) (changes : Changes t k true ps qs) (ordered : IsStrictlySortedBy pair_cmp qs) where
    only_holder : holders_in qs k ≡ t ∷ []
    only_holder = holders_with t k ps qs paired.ordered ordered changes ∙ ap (with_holder t) (unheld ps es paired k (next_is_fresh address k es ps p are)) ∙ with_none t

    pushed : fs ≡ es ++ (k, f) ∷ []
    pushed = entries ∙ inserted_last k f es (entries_below address k es ps p are)

    pub shown_more : with_addresses address qs fs ≡ all ++ (k, (address f.content, record { content = f.content; holders = t ∷ []; number = k })) ∷ []
    shown_more =
        ap (with_addresses address qs) pushed ∙ pushed_with address ps qs k (holders_elsewhere t k true ps qs changes paired.ordered ordered) f es (entries_below address k es ps p are)
        ∙ ap (λ (hs : List ℕ). all ++ (k, (address f.content, record { content = f.content; holders = hs; number = k })) ∷ []) only_holder

    pub paired_more : f.holders ≡ 1 → ArePaired fs qs
    paired_more one = paired_after ps qs es fs t k true (Some f) changes (λ q. ap (at_number q) pushed ∙ at_pushed k q f es (entries_below address k es ps p are)) ordered paired (λ u is. refl)
        (λ g is.
        let same = ap (λ (x : FiledObject O). x.holders) (some_is f g is) in
        let alone = ap (λ (hs : List ℕ). length hs) only_holder in
        omega (arith, same, one, alone))

  module _ (t n : ℕ) (a : List ℕ) (number : p a ≡ Some n) (f : FiledObject O) (at : at_number n es ≡ Some f) (hash : address f.content ≡ a) (fs : List (ℕ × FiledObject O)) (qs : Pairs) (b : Bool) (changes : Changes t n b ps qs) (ordered : IsStrictlySortedBy pair_cmp qs) where
    -- ---- a holder more or less

    module _ (count : ℕ) (entries : fs ≡ set_value (is_at (nat_cmp n)) es (record { content = f.content; holders = count })) where
      pub shown_set : (hs : List ℕ) → holders_in qs n ≡ hs → with_addresses address qs fs ≡ set_value (is_at (nat_cmp n)) all (a, record { content = f.content; holders = hs; number = n })
      shown_set hs is =
          ap (with_addresses address qs) entries ∙ set_with address ps qs n (holders_elsewhere t n b ps qs changes paired.ordered ordered) (record { content = f.content; holders = count }) es in_order
          ∙ ap₂ (λ (c : List ℕ) (hs : List ℕ). set_value (is_at (nat_cmp n)) all (c, record { content = f.content; holders = hs; number = n })) hash is

      pub numbered_set : IsStrictlySortedBy nat_cmp (keys_of fs) → AreNumbered k (with_addresses address qs fs) p
      numbered_set sorted = numbered_after address k es ps p are (with_addresses address qs fs) a n (with_address address ps n f).1 (record { content = f.content; holders = holders_in qs n; number = n }) (addressed_at address k es ps p are a n f at hash)
          (shown_set (holders_in qs n) refl) (ordered_with address qs fs sorted)

      pub catalog_set : (x : ModelCatalog O) → catalog_of k all ≡ x → (hs : List ℕ) → holders_in qs n ≡ hs → 0 < length hs → catalog_of k (with_addresses address qs fs) ≡ record x { objects = with_holders address x.objects a (with_address address ps n f).1 hs }
      catalog_set x is hs holders some = catalog_after address k es ps p are x is (with_addresses address qs fs) a n number (with_address address ps n f).1 hs some (shown_set hs holders)

      pub paired_set : count ≡ length (holders_in qs n) → ArePaired fs qs
      paired_set is = paired_after ps qs es fs t n b (Some (record { content = f.content; holders = count })) changes (λ q. ap (at_number q) entries ∙ at_set n q (record { content = f.content; holders = count }) es (is_there at)) ordered paired (λ u is. refl)
          (λ g same. sym (ap (λ (x : FiledObject O). x.holders) (some_is (record { content = f.content; holders = count }) g same)) ∙ is)

    -- ---- an object less

    module _ (entries : fs ≡ remove_entry (is_at (nat_cmp n)) es) where
      pub shown_less : with_addresses address qs fs ≡ remove_entry (is_at (nat_cmp n)) all
      shown_less = ap (with_addresses address qs) entries ∙ removed_with address ps qs n (holders_elsewhere t n b ps qs changes paired.ordered ordered) es in_order

      pub paired_less : holders_in qs n ≡ [] → ArePaired fs qs
      paired_less none = paired_after ps qs es fs t n b None changes (λ q. ap (at_number q) entries ∙ at_removed n q es in_order) ordered paired
          (λ u is. absurd (let no : false ≡ true = ap (has u) (sym none) ∙ has_pair u n qs ∙ is in cc))
          (λ g is. absurd (cc))

-- ---- the object at an address

module _ {O : Type 0} (address : O → List ℕ) (k : ℕ) (m : BTreeMap ℕ (FiledObject O)) (h : BTreeSet (ℕ × ℕ)) (p : Numbers) (x : ModelCatalog O) (are : AreNumbered k (with_addresses address h.keys m.entries) p) (paired : ArePaired m.entries h.keys)
    (is : catalog_of k (with_addresses address h.keys m.entries) ≡ x) (t n : ℕ) (a : List ℕ) (number : p a ≡ Some n) where
  here : (f : FiledObject O) × (at_number n m.entries ≡ Some f) × (address f.content ≡ a)
  here = filed_there address k m.entries h.keys p are a n number

  abbrev object : Filed O
  object = (with_address address h.keys n here.0).1

  found : object_among address x.objects a ≡ Some object
  found = object_at_number address k m.entries h.keys p are x is a n here.0 number here.1

  pub is_there_at : IsSome (at_number n m.entries)
  is_there_at = is_there here.1

  -- what the fields of a catalog have to be
  abbrev pub AreRight : BTreeMap ℕ (FiledObject O) → BTreeSet (ℕ × ℕ) → Numbers → Type 0
  AreRight r g q = AreNumbered k (with_addresses address g.keys r.entries) q × ArePaired r.entries g.keys

  -- what they show: the object has these holders
  abbrev pub Shows : BTreeMap ℕ (FiledObject O) → BTreeSet (ℕ × ℕ) → (Filed O → List ℕ) → Type 0
  Shows r g holders = (o : Filed O) → object_among address x.objects a ≡ Some o → catalog_of k (with_addresses address g.keys r.entries) ≡ record x { objects = with_holders address x.objects a o (holders o) }

  shows : (r : BTreeMap ℕ (FiledObject O)) (g : BTreeSet (ℕ × ℕ)) (holders : Filed O → List ℕ) → catalog_of k (with_addresses address g.keys r.entries) ≡ record x { objects = with_holders address x.objects a object (holders object) } → Shows r g holders
  shows r g holders shown o at = subst (λ (o : Filed O). catalog_of k (with_addresses address g.keys r.entries) ≡ record x { objects = with_holders address x.objects a o (holders o) }) (some_is object o (sym found ∙ at)) shown

  -- ---- a holder comes

  module _ (g : BTreeSet (ℕ × ℕ)) (changes : Changes t n true h.keys g.keys) (ordered : IsStrictlySortedBy pair_cmp g.keys) where
    holders_now : holders_in g.keys n ≡ with_holder t (holders_in h.keys n)
    holders_now = holders_with t n h.keys g.keys paired.ordered ordered changes

    -- the object had the holder already
    pub shows_again : Shows m g (λ o. with_holder t o.holders)
    shows_again =
        shows m g (λ o. with_holder t o.holders) (catalog_set address k m.entries h.keys p are paired t n a number here.0 here.1 here.2 m.entries g.keys true changes ordered here.0.holders (sym (set_value_same (is_at (nat_cmp n)) m.entries here.0 here.1)) x is
        (with_holder t (holders_in h.keys n)) holders_now (some_with t (holders_in h.keys n)))

    module _ (fresh : is_paired h.keys t n ≡ false) where
      counted_more : here.0.holders + 1 ≡ length (holders_in g.keys n)
      counted_more =
          let count = paired.counted n here.0 here.1 in
          let now = ap (λ (hs : List ℕ). length hs) holders_now in
          let longer = length_with t (holders_in h.keys n) (has_pair t n h.keys ∙ fresh) in
          omega (arith, count, now, longer)

      pub count_fits : length g.keys < 2 ^ 63 → IfSome (at_number n m.entries) (λ f. f.holders + 1 < 2 ^ 64)
      count_fits small = subst (λ (f : Option (FiledObject O)). IfSome f (λ f. f.holders + 1 < 2 ^ 64)) (sym here.1) (let few = few_holders n g.keys in omega (arith, small, few, counted_more))

      module _ (r : BTreeMap ℕ (FiledObject O)) (writes : (f : FiledObject O) → get nat_cmp m n ≡ Some f → WritesThrough nat_cmp (nat_cmp n) m (record { content = f.content; holders = f.holders + 1 }) r) where
        written : WritesThrough nat_cmp (nat_cmp n) m (record { content = here.0.content; holders = here.0.holders + 1 }) r
        written = writes here.0 here.1

        pub right_more : AreRight r g p
        right_more = (
          numbered_set address k m.entries h.keys p are paired t n a number here.0 here.1 here.2 r.entries g.keys true changes ordered (here.0.holders + 1) written.0 written.4,
          paired_set address k m.entries h.keys p are paired t n a number here.0 here.1 here.2 r.entries g.keys true changes ordered (here.0.holders + 1) written.0 counted_more,
        )

        pub shows_more : Shows r g (λ o. with_holder t o.holders)
        shows_more =
            shows r g (λ o. with_holder t o.holders) (catalog_set address k m.entries h.keys p are paired t n a number here.0 here.1 here.2 r.entries g.keys true changes ordered (here.0.holders + 1) written.0 x is
            (with_holder t (holders_in h.keys n)) holders_now (some_with t (holders_in h.keys n)))

  -- ---- a holder leaves

  module _ (is_alone : Bool) (held : (o : Filed O) → object_among address x.objects a ≡ Some o → (is_held_by t o ≡ true) × (is_alone ≡ nat_le (length o.holders) 1)) where
    pub count_some : IfSome (at_number n m.entries) (λ f. 0 < f.holders)
    count_some =
        let count = paired.counted n here.0 here.1 in
        let shorter = length_without t (holders_in h.keys n) (held object found).0 in
        subst (λ (f : Option (FiledObject O)). IfSome f (λ f. 0 < f.holders)) (sym here.1) (omega (arith, count, shorter))

    module _ (g : BTreeSet (ℕ × ℕ)) (changes : Changes t n false h.keys g.keys) (ordered : IsStrictlySortedBy pair_cmp g.keys) where
      holders_left : holders_in g.keys n ≡ without_holder t (holders_in h.keys n)
      holders_left = holders_without t n h.keys g.keys paired.ordered ordered changes

      module _ (several : is_alone ≡ false) (r : BTreeMap ℕ (FiledObject O)) (writes : (f : FiledObject O) → get nat_cmp m n ≡ Some f → WritesThrough nat_cmp (nat_cmp n) m (record { content = f.content; holders = f.holders - 1 }) r) where
        written_less : WritesThrough nat_cmp (nat_cmp n) m (record { content = here.0.content; holders = here.0.holders - 1 }) r
        written_less = writes here.0 here.1

        counted_less : here.0.holders - 1 ≡ length (holders_in g.keys n)
        counted_less =
            let count = paired.counted n here.0 here.1 in
            let now = ap (λ (hs : List ℕ). length hs) holders_left in
            let shorter = length_without t (holders_in h.keys n) (held object found).0 in
            omega (arith, count, now, shorter)

        pub right_less : AreRight r g p
        right_less = (
          numbered_set address k m.entries h.keys p are paired t n a number here.0 here.1 here.2 r.entries g.keys false changes ordered (here.0.holders - 1) written_less.0 written_less.4,
          paired_set address k m.entries h.keys p are paired t n a number here.0 here.1 here.2 r.entries g.keys false changes ordered (here.0.holders - 1) written_less.0 counted_less,
        )

        pub shows_less : Shows r g (λ o. without_holder t o.holders)
        shows_less =
            shows r g (λ o. without_holder t o.holders) (catalog_set address k m.entries h.keys p are paired t n a number here.0 here.1 here.2 r.entries g.keys false changes ordered (here.0.holders - 1) written_less.0 x is
            (without_holder t (holders_in h.keys n)) holders_left (several_without t (holders_in h.keys n) (sym (held object found).1 ∙ several)))

      -- ---- the object goes with its last holder

      module _ (alone : is_alone ≡ true) (r : BTreeMap ℕ (FiledObject O)) (entries : r.entries ≡ remove_entry (is_at (nat_cmp n)) m.entries) where
        none_left : without_holder t (holders_in h.keys n) ≡ []
        none_left = alone_without t (holders_in h.keys n) (sym (held object found).1 ∙ alone) (held object found).0

        objects_left : with_addresses address g.keys r.entries ≡ remove_entry (is_at (nat_cmp n)) (with_addresses address h.keys m.entries)
        objects_left = shown_less address k m.entries h.keys p are paired t n a number here.0 here.1 here.2 r.entries g.keys false changes ordered entries

        pub right_removed : IsStrictlySortedBy nat_cmp (keys_of r.entries) → (q : Numbers) → ((b : List ℕ) → q b ≡ cond (bytes_eq a b) None (p b)) → AreRight r g q
        right_removed sorted q numbers = (
          numbered_less address k m.entries h.keys p are (with_addresses address g.keys r.entries) q a n number objects_left (ordered_with address g.keys r.entries sorted) numbers,
          paired_less address k m.entries h.keys p are paired t n a number here.0 here.1 here.2 r.entries g.keys false changes ordered entries (holders_left ∙ none_left),
        )

        pub shows_removed : Shows r g (λ o. without_holder t o.holders)
        shows_removed =
            shows r g (λ o. without_holder t o.holders) (catalog_less address k m.entries h.keys p are x is (with_addresses address g.keys r.entries) a n number objects_left object
            ∙ ap (λ (hs : List ℕ). record x { objects = with_holders address x.objects a object hs }) (sym none_left))
