use Rattle.std.proofs.Common.{◌≡◌, ℕ, ◌+◌, ◌++◌, ◌∷◌, ◌∙◌, List, ap, arith, drop, length, refl, rules, subst, sym}
use Rattle.std.proofs.lemmas.List.{nil_from_length}
use Rattle.std.specs.Vec.Iter.{into_iter_items, into_iter_len}
use Rattle.b3_core.specs.Hashers.{HasRoomFor, ModelHasher, HasInput, CountsRest, kept_work}
use Rattle.b3_core.specs.Work.{NeverFalls}
use Rattle.b3_parallel.specs.inner.Parts.{AreAfter, stretch_at}
use Rattle.b3_parallel.specs.declared.parts.Part.{Part}
use Rattle.b3_parallel.proofs.Standing.{all_parts, before_first, before_part, next_of, next_part, none_left, none_made, part_is_after, part_made}
use Rattle.b3_parallel.proofs.parts.append_all.Goals as goal

pub loop-part-init : goal.loop-part-init
loop-part-init c = (
  refl,
  omega arith,
  search (rules, c.into_iter-rest.ensures),
  0,
  search (rules, c.into_iter-rest.ensures),
  λ x bytes (held, fits, few, are). (subst (HasInput c.args.hasher.now) (sym (before_first x bytes c.args.level)) held, fits, none_made _ _),
)

pub loop-part-preserved : goal.loop-part-preserved
loop-part-preserved c = go c.loop-part.invariant
  where
    old : ModelHasher
    old = c.args.hasher.now

    h : ModelHasher
    h = c.loop-part.hasher

    new : ModelHasher
    new = c.append.new.self

    k : ℕ
    k = c.args.level

    parts : List Part
    parts = c.args.parts.items

    go : (h.mode ≡ old.mode) × NeverFalls c.args.work.now c.loop-part.work × (into_iter_len c.loop-part.rest ≡ length (into_iter_items c.loop-part.rest)) × (i : ℕ) × (drop i parts ≡ into_iter_items c.loop-part.rest)
        × ((x bytes : List ℕ) → AreAfter old k parts x bytes → HasInput h (x ++ before_part bytes k i) × HasRoomFor k h × CountsRest (kept_work old.subtrees) (kept_work h.subtrees) c.args.work.now c.loop-part.work)
        → (new.mode ≡ old.mode) × NeverFalls c.args.work.now c.append.new.work × (into_iter_len c.next.new.self ≡ length (into_iter_items c.next.new.self)) × (i : ℕ) × (drop i parts ≡ into_iter_items c.next.new.self)
        × ((x bytes : List ℕ) → AreAfter old k parts x bytes → HasInput new (x ++ before_part bytes k i) × HasRoomFor k new × CountsRest (kept_work old.subtrees) (kept_work new.subtrees) c.args.work.now c.append.new.work)
    go (mode, rises, size, i, left, stands) =
        let part = c.in-Some.part in
        let less : into_iter_len c.next.new.self + 1 ≡ into_iter_len c.loop-part.rest = search (rules, c.in-Some.ensures.len) in
        let more : length (into_iter_items c.loop-part.rest) ≡ length (part ∷ into_iter_items c.next.new.self) = ap length c.in-Some.ensures.items in
        let next = next_of parts i part (into_iter_items c.next.new.self) (left ∙ c.in-Some.ensures.items) in (
          c.append.ensures.mode ∙ mode,
          omega (arith, rises, c.absorb.ensures, c.append.ensures.never_falls),
          omega (arith, size, less, more),
          i + 1,
          next.2,
          λ x bytes are.
              let now = stands x bytes are in
              let mine = stretch_at bytes k i in
              let is = part_is_after old h k i parts part x bytes are next.0 next.1 mode now.0 now.1 in (
                subst (HasInput new) (next_part x bytes k i) (c.append.ensures.bytes (x ++ before_part bytes k i) mine is),
                c.append.ensures.fits (x ++ before_part bytes k i) mine is,
                part_made old h new k i parts part x bytes _ _ _ _ are next.0 next.1 c.absorb.ensures now.2 (c.append.ensures.count (x ++ before_part bytes k i) mine is),
              ),
        )

pub returns-clause-bytes : goal.returns-clause-bytes
returns-clause-bytes c x bytes are = go c.loop-part.invariant
  where
    go : (c.loop-part.hasher.mode ≡ c.args.hasher.now.mode) × NeverFalls c.args.work.now c.loop-part.work × (into_iter_len c.loop-part.rest ≡ length (into_iter_items c.loop-part.rest)) × (i : ℕ) × (drop i c.args.parts.items ≡ into_iter_items c.loop-part.rest)
        × ((x bytes : List ℕ) → AreAfter c.args.hasher.now c.args.level c.args.parts.items x bytes
        → HasInput c.loop-part.hasher (x ++ before_part bytes c.args.level i) × HasRoomFor c.args.level c.loop-part.hasher × CountsRest (kept_work c.args.hasher.now.subtrees) (kept_work c.loop-part.hasher.subtrees) c.args.work.now c.loop-part.work)
        → HasInput c.loop-part.hasher (x ++ bytes)
    go (mode, rises, size, i, left, stands) =
        let zero : into_iter_len c.loop-part.rest ≡ 0 = search (rules, c.in_default.ensures.variant, c.in_default.is) in
        let none = none_left c.args.parts.items i (left ∙ nil_from_length (into_iter_items c.loop-part.rest) (sym size ∙ zero)) in
        subst (HasInput c.loop-part.hasher) (all_parts x bytes c.args.level (length c.args.parts.items) i are.3.0 none) (stands x bytes are).0

pub returns-clause-count : goal.returns-clause-count
returns-clause-count c x bytes are = (c.loop-part.invariant.5 x bytes are).2
