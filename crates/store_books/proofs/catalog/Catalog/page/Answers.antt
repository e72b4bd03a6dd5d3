use Rattle.std.proofs.Common.{◌≡◌, ◌∙◌, ◌++◌, ◌∷◌, ℕ, List, [], ap, ap₂, map, min, subst, sym, take, append-nil, append_assoc}
use Rattle.std.specs.Prelude.{filter}
use Rattle.std.specs.BTreeMap.Range.{range_contains}
use Rattle.std.specs.Iterator.Adapters.{take_count, take_source}
use Rattle.std.specs.declared.ops.Bound.TheVariants.{Excluded, Included}
use Rattle.store_books.specs.inner.Catalog.{at_number, pair_cmp}
use Rattle.store_books.specs.Kept.{ModelCatalog}
use Rattle.store_books.specs.Pages.{next_from, page_of}
use Rattle.store_books.proofs.Catalogs.{before}
use Rattle.store_books.proofs.HeldObjects.{ordered_of}
use Rattle.store_books.proofs.HoldingRows.{AreThere, reported, reported_of}
use Rattle.store_books.proofs.PageRows.{numbers_rise, page_next, page_reported, page_there, taken_more, taken_none}
use Rattle.store_books.proofs.catalog.Catalog.page.Goals as goal

pub loop-pair-init : goal.loop-pair-init
loop-pair-init g c =
    let all = c.self.inside in
    let es = all.filed.entries in
    let ps = all.held.keys in
    let size = g.O.Content.size in
    let address = g.O.Content.address in
    let is_numbered = c.self.invariant.0 in
    let iterator = c.into_iter-pair-iterator.result in
    let qs = c.range.result in
    let taken : take (take_count iterator) (take_source iterator) ≡ take c.args.count qs = ap₂ take (ap take_count c.into_iter-pair-iterator.ensures.into_iter_gives ∙ c.take-pair-items.ensures.count) (ap take_source c.into_iter-pair-iterator.ensures.into_iter_gives ∙ c.take-pair-items.ensures.source) in
    let is : qs ≡ filter (range_contains pair_cmp (Included (c.args.tenant, min c.args.from all.filings)) (Excluded (c.args.tenant, all.filings))) ps = c.range.ensures.between tt
    ∙ ap (λ (m : ℕ). filter (range_contains pair_cmp (Included (c.args.tenant, m)) (Excluded (c.args.tenant, all.filings))) ps) c.min-first.ensures in
    let ordered = ordered_of address ps es is_numbered.ordered in
    let below = before address all.filings es ps (g.I.AddressIndex.number_of all.numbers) is_numbered in (
      tt,
      tt,
      ap (λ (xs : List (List ℕ × ℕ)). xs ++ reported_of size address es (take (take_count iterator) (take_source iterator))) c.new-objects.ensures.items ∙ ap (reported_of size address es) taken
          ∙ page_reported all.filings c.args.tenant c.args.from es ps qs ordered below c.self.invariant.1 is size address c.args.count
          ∙ ap (λ (x : ModelCatalog g.row.O.Denot). (page_of size address c.args.tenant c.args.from c.args.count x.objects).objects) c.self.view_is,
      ap (λ (rs : List (ℕ × ℕ)). next_from c.args.from (map (λ p. p.1) rs)) taken ∙ page_next all.filings c.args.tenant c.args.from es ps qs ordered below c.self.invariant.1 is size address c.args.count
          ∙ ap (λ (x : ModelCatalog g.row.O.Denot). (page_of size address c.args.tenant c.args.from c.args.count x.objects).next) c.self.view_is,
      subst (AreThere es) (sym taken) (page_there all.filings c.args.tenant c.args.from es ps qs ordered below c.self.invariant.1 is c.args.count),
    )

pub unreachable-requires : goal.unreachable-requires
unreachable-requires g c =
    let left = c.loop-pair.pair-iterator in
    let more = taken_more (take_count left) (take_count c.next.new.self) c.in-Some.pair.now (take_source c.next.new.self) (take_source left) c.in-Some.ensures.steps.0 c.in-Some.ensures.steps.1 in
    let there = subst (AreThere c.self.inside.filed.entries) more c.loop-pair.invariant.4 in
    absurd (let no = rw (sym c.in_default.ensures.value) at there.0 in cc)

pub loop-pair-preserved : goal.loop-pair-preserved
loop-pair-preserved g c =
    let left = c.loop-pair.pair-iterator in
    let more = taken_more (take_count left) (take_count c.next.new.self) c.in-Some.pair.now (take_source c.next.new.self) (take_source left) c.in-Some.ensures.steps.0 c.in-Some.ensures.steps.1 in
    let es = c.self.inside.filed.entries in
    let size = g.O.Content.size in
    let address = g.O.Content.address in
    let before = c.loop-pair.objects.items in
    let following = reported_of size address es (take (take_count c.next.new.self) (take_source c.next.new.self)) in
    let one : (c.address.result, c.length.result) ≡ reported size address (at_number c.in-Some.pair.now.1 es) = ap₂ (λ (a : List ℕ) (len : ℕ). (a, len)) c.address.ensures c.length.ensures ∙ ap (reported size address) c.in-Some-get.ensures.value in (
      tt,
      tt,
      ap (λ (xs : List (List ℕ × ℕ)). xs ++ following) c.in_ok-push.ensures.items ∙ append_assoc before ((c.address.result, c.length.result) ∷ []) following
          ∙ ap (λ (x : List ℕ × ℕ). before ++ x ∷ following) one ∙ ap (λ (rs : List (ℕ × ℕ)). before ++ reported_of size address es rs) (sym more) ∙ c.loop-pair.invariant.2,
      ap (λ (rs : List (ℕ × ℕ)). next_from c.loop-pair.next (map (λ p. p.1) rs)) (sym more) ∙ c.loop-pair.invariant.3,
      (subst (AreThere es) more c.loop-pair.invariant.4).1,
    )

pub returns-clause-page : goal.returns-clause-page
returns-clause-page g c =
    let left = c.loop-pair.pair-iterator in
    let none = taken_none (take_count left) (take_source left) (λ some. (c.in-None.ensures.steps some).0) in
    let objects = c.loop-pair.objects.items in
    let all = sym (append-nil objects) ∙ ap (λ (rs : List (ℕ × ℕ)). objects ++ reported_of g.O.Content.size g.O.Content.address c.self.inside.filed.entries rs) (sym none) ∙ c.loop-pair.invariant.2 in
    let next = ap (λ (rs : List (ℕ × ℕ)). next_from c.loop-pair.next (map (λ p. p.1) rs)) (sym none) ∙ c.loop-pair.invariant.3 in
    c.new.ensures ∙ ap₂ (λ (xs : List (List ℕ × ℕ)) (n : ℕ). record { objects = xs; next = n }) all next

pub returns-clause-rising : goal.returns-clause-rising
returns-clause-rising g c =
    let all = c.self.inside in
    numbers_rise g.O.Content.address all.held.keys all.filings all.filed.entries c.args.self.now c.self.invariant.0.ordered c.self.view_is

pub returns-in_err-push-clause-rising : goal.returns-in_err-push-clause-rising
returns-in_err-push-clause-rising g c =
    let all = c.self.inside in
    numbers_rise g.O.Content.address all.held.keys all.filings all.filed.entries c.args.self.now c.self.invariant.0.ordered c.self.view_is
