use Rattle.std.proofs.Common.{◌≡◌, ◌∙◌, ◌∷◌, ◌++◌, [], ℕ, List, ap, arith, cond, refl, subst, Some}
use Rattle.std.specs.Str.{bytes_eq}
use Rattle.store_books.specs.declared.catalog.FiledObject.{FiledObject}
use Rattle.store_books.specs.Books.{Filed}
use Rattle.store_books.specs.Kept.{ModelCatalog}
use Rattle.store_books.specs.inner.Catalog.{AreNumbered, is_paired, with_addresses}
use Rattle.store_books.proofs.Catalogs.{catalog_more, catalog_of, is_unnumbered, next_is_fresh, numbered_below, numbered_more, numbered_still, undone_number}
use Rattle.store_books.proofs.CatalogChanges.{paired_more, shown_more}
use Rattle.store_books.proofs.HeldObjects.{ordered_with, paired_still, still_with, unpaired}
use Rattle.store_books.proofs.Pairs.{holders_same, undone}
use Rattle.store_books.proofs.catalog.Catalog.file_last.Given.{Over}
use Rattle.store_books.proofs.catalog.Catalog.file_last.Goals as goal

pub insert-requires : goal.insert-requires
insert-requires g c =
    let all = c.self.inside in
    let p = g.I.AddressIndex.number_of all.numbers in
    ap p c.address-address.ensures ∙ is_unnumbered g.O.Content.address all.filings all.filed.entries all.held.keys p c.self.invariant.0 c.args.self.now c.self.view_is (g.O.Content.address c.args.content) c.requires.absent

pub invariant_of-self : goal.invariant_of-self
invariant_of-self g c =
    let all = c.self.inside in
    let address = g.O.Content.address in
    (numbered_still address all.filings all.filed.entries all.held.keys (g.I.AddressIndex.number_of all.numbers) c.self.invariant.0 (with_addresses address all.held.keys all.filed.entries) (g.I.AddressIndex.number_of c.insert.new.self) refl c.in_err-insert.ensures.unchanged, c.self.invariant.1)

pub invariant_of-self-in_default : goal.invariant_of-self-in_default
invariant_of-self-in_default g c =
    let all = c.self.inside in
    let address = g.O.Content.address in
    let es = all.filed.entries in
    let ps = all.held.keys in
    let qs = c.insert-2.new.self.keys in
    let p = g.I.AddressIndex.number_of all.numbers in
    let is_catalog = c.self.invariant.0 in
    let none = ap p c.address-address.ensures ∙ is_unnumbered address all.filings es ps p is_catalog c.args.self.now c.self.view_is (address c.args.content) c.requires.absent in (
      numbered_still address all.filings es ps p is_catalog (with_addresses address qs es) (g.I.AddressIndex.number_of c.remove.new.self) (ap (λ (qs : List (ℕ × ℕ)). with_addresses address qs es) c.in_default.ensures.err)
          (undone_number c.args.number c.address-address.result p (g.I.AddressIndex.number_of c.insert.new.self) (g.I.AddressIndex.number_of c.remove.new.self) none c.in_ok-insert.ensures.inserted c.remove.ensures),
      paired_still ps es c.self.invariant.1 qs es refl c.insert-2.ensures.ordered (λ t n. ap (λ (qs : List (ℕ × ℕ)). is_paired qs t n) c.in_default.ensures.err),
    )

-- the pair that came went again
same_pairs : (g : Over) (c : goal.After-remove-in_default-insert g) (t n : ℕ) → is_paired c.remove-undone.new.self.keys t n ≡ is_paired c.self.inside.held.keys t n
same_pairs g c =
    let all = c.self.inside in
    let ps = all.held.keys in
    let paired = c.self.invariant.1 in
    let p = g.I.AddressIndex.number_of all.numbers in
    let below = numbered_below g.O.Content.address all.filings all.filed.entries ps p c.self.invariant.0 c.args.number (let same : all.filings ≡ c.args.self.now.filings = ap (λ (y : ModelCatalog g.row.O.Denot). y.filings) c.self.view_is in omega (arith, same, c.requires.later)) in
    let fresh = next_is_fresh g.O.Content.address c.args.number all.filed.entries ps p below in
    undone c.args.tenant c.args.number ps c.insert-2.new.self.keys c.remove-undone.new.self.keys (unpaired ps all.filed.entries paired c.args.number fresh c.args.tenant) c.in-Ok.ensures.updates.0 c.remove-undone.ensures.updates.0

same_objects : (g : Over) (c : goal.After-remove-in_default-insert g) → with_addresses g.O.Content.address c.remove-undone.new.self.keys c.insert-3.new.self.entries ≡ with_addresses g.O.Content.address c.self.inside.held.keys c.self.inside.filed.entries
same_objects g c =
    let all = c.self.inside in
    let address = g.O.Content.address in
    let ps = all.held.keys in
    let qs = c.remove-undone.new.self.keys in
    ap (with_addresses address qs) c.in_default-insert.ensures.err
    ∙ still_with address ps qs all.filed.entries (λ n. holders_same ps qs c.self.invariant.1.ordered c.remove-undone.ensures.ordered n (λ t. same_pairs g c t n))

pub invariant_of-self-in_default-insert : goal.invariant_of-self-in_default-insert
invariant_of-self-in_default-insert g c =
    let all = c.self.inside in
    let address = g.O.Content.address in
    let es = all.filed.entries in
    let ps = all.held.keys in
    let fs = c.insert-3.new.self.entries in
    let qs = c.remove-undone.new.self.keys in
    let p = g.I.AddressIndex.number_of all.numbers in
    let r = g.I.AddressIndex.number_of c.remove-in_default-insert.new.self in
    let is_catalog = c.self.invariant.0 in
    let none = ap p c.address-address.ensures ∙ is_unnumbered address all.filings es ps p is_catalog c.args.self.now c.self.view_is (address c.args.content) c.requires.absent in (
      numbered_still address all.filings es ps p is_catalog (with_addresses address qs fs) r (same_objects g c)
          (undone_number c.args.number c.address-address.result p (g.I.AddressIndex.number_of c.insert.new.self) r none c.in_ok-insert.ensures.inserted c.remove-in_default-insert.ensures),
      paired_still ps es c.self.invariant.1 qs fs c.in_default-insert.ensures.err c.remove-undone.ensures.ordered (same_pairs g c),
    )

pub returns-in_default-insert-clause-unchanged : goal.returns-in_default-insert-clause-unchanged
returns-in_default-insert-clause-unchanged g c = ap (catalog_of c.self.inside.filings) (same_objects g c) ∙ c.self.view_is

abbrev filed_now : (g : Over) → goal.Joined-none g → FiledObject g.row.O.Denot
filed_now g c = record { content = c.args.content; holders = 1 }

abbrev filed_object : (g : Over) → goal.Joined-none g → Filed g.row.O.Denot
filed_object g c = record { content = c.args.content; holders = c.args.tenant ∷ []; number = c.args.number }

-- the numbers so far are below this one
below_now : (g : Over) (c : goal.Joined-none g) → AreNumbered c.args.number (with_addresses g.O.Content.address c.self.inside.held.keys c.self.inside.filed.entries) (g.I.AddressIndex.number_of c.self.inside.numbers)
below_now g c = let all = c.self.inside in numbered_below g.O.Content.address all.filings all.filed.entries all.held.keys (g.I.AddressIndex.number_of all.numbers) c.self.invariant.0 c.args.number (let same : all.filings ≡ c.args.self.now.filings = ap (λ (y : ModelCatalog g.row.O.Denot). y.filings) c.self.view_is in omega (arith, same, c.requires.later))

shown_now : (g : Over) (c : goal.Joined-none g) → with_addresses g.O.Content.address c.insert-2.new.self.keys c.insert-3.new.self.entries
    ≡ with_addresses g.O.Content.address c.self.inside.held.keys c.self.inside.filed.entries ++ (c.args.number, (g.O.Content.address c.args.content, filed_object g c)) ∷ []
shown_now g c =
    let all = c.self.inside in
    shown_more g.O.Content.address c.args.number all.filed.entries all.held.keys (g.I.AddressIndex.number_of all.numbers) (below_now g c) c.self.invariant.1 c.args.tenant (filed_now g c) c.insert-3.new.self.entries c.insert-2.new.self.keys
    c.in-Ok-insert.ensures.entries c.in-Ok.ensures.updates.0 c.insert-2.ensures.ordered

pub invariant_of-self-2 : goal.invariant_of-self-2
invariant_of-self-2 g c =
    let all = c.self.inside in
    let address = g.O.Content.address in
    let a = address c.args.content in
    let es = all.filed.entries in
    let ps = all.held.keys in
    let fs = c.insert-3.new.self.entries in
    let qs = c.insert-2.new.self.keys in
    let p = g.I.AddressIndex.number_of all.numbers in
    let r = g.I.AddressIndex.number_of c.insert.new.self in
    let is_catalog = c.self.invariant.0 in
    let none = is_unnumbered address all.filings es ps p is_catalog c.args.self.now c.self.view_is a c.requires.absent in
    let numbers = subst (λ (x : List ℕ). (b : List ℕ) → r b ≡ cond (bytes_eq x b) (Some c.args.number) (p b)) c.address-address.ensures c.in_ok-insert.ensures.inserted in (
      numbered_more address c.args.number es ps p (below_now g c) (with_addresses address qs fs) r a (filed_object g c) none (shown_now g c) (ordered_with address qs fs c.insert-3.ensures.ordered) numbers,
      paired_more address c.args.number es ps p (below_now g c) c.self.invariant.1 c.args.tenant (filed_now g c) fs qs c.in-Ok-insert.ensures.entries c.in-Ok.ensures.updates.0 c.insert-2.ensures.ordered refl,
    )

pub returns-clause-filed : goal.returns-clause-filed
returns-clause-filed g c =
    let all = c.self.inside in
    let address = g.O.Content.address in
    let above : catalog_of c.args.number (with_addresses address all.held.keys all.filed.entries) ≡ record c.args.self.now { filings = c.args.number } = ap (λ (y : ModelCatalog g.row.O.Denot). record y { filings = c.args.number }) c.self.view_is in
    catalog_more address c.args.number all.filed.entries all.held.keys (g.I.AddressIndex.number_of all.numbers) (below_now g c) (record c.args.self.now { filings = c.args.number }) above (with_addresses address c.insert-2.new.self.keys c.insert-3.new.self.entries)
    (address c.args.content) (filed_object g c) (shown_now g c)
