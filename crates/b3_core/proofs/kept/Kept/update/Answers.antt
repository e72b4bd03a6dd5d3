use Rattle.std.proofs.Common.{◌≡◌, ◌*◌, ◌-◌, ◌+◌, ◌/◌, ◌^◌, ◌<◌, ℕ, ◌∷◌, ◌++◌, List, [], length, arith, refl, ap, sym, ◌∙◌, rules, subst, append_assoc, length-append, reverse, inl, inr}
use Rattle.std.proofs.lemmas.Bool.{cases_lt}
use Rattle.b3_core.specs.Hashers.{ModelHasher, HasInput, kept_work}
use Rattle.b3_core.specs.inner.Hashers.{IsLeft}
use Rattle.b3_core.specs.Kept.{kept_of, nodes_of, tail_of}
use Rattle.b3_core.specs.Tree.{ModelTop, tree_top}
use Rattle.b3_core.specs.Work.{counted, hash_work}
use Rattle.b3_core.proofs.Hashings.{holds_next, makes_more, makes_then, next_of, small}
use Rattle.b3_core.proofs.kept.Kept.update.Goals as goal

pub overflow_shl-level : goal.overflow_shl-level
overflow_shl-level c = omega (arith, small c.next_level-level.result (omega (arith, c.next_level-level.ensures.fits, c.loop-rest.invariant.short)))

pub wide_top-top-requires : goal.wide_top-top-requires
wide_top-top-requires c = omega (arith, c.number.ensures, c.split_at.ensures.front_len, c.loop-rest.invariant.short)

pub put-requires : goal.put-requires
put-requires c = omega (arith, small c.next_level-level.result (omega (arith, c.next_level-level.ensures.fits, c.loop-rest.invariant.short)))

-- a whole subtree
abbrev mine : goal.After-put → List ℕ
mine c = c.split_at.result.0.now

its_length : (c : goal.After-put) → length (mine c) ≡ 1024 * 2 ^ c.next_level-level.result
its_length c = omega (arith, c.split_at.ensures.front_len, c.next_level-level.ensures.fits, c.loop-rest.invariant.short)

-- the hasher before the call, before the subtree and after it
abbrev old : goal.After-put → ModelHasher
old c = kept_of c.args.mode.now c.args.self.now

abbrev so_far : goal.After-put → ModelHasher
so_far c = kept_of c.args.mode.now c.loop-rest.self

abbrev new : goal.After-put → ModelHasher
new c = kept_of c.args.mode.now c.put.new.self

after : (c : goal.After-put) (x : List ℕ) → length x + length c.args.bytes.now < 2 ^ 64
    → IsLeft (old c) x c.args.bytes.now c.args.work.now (so_far c) c.loop-rest.rest.now c.loop-rest.work
    → IsLeft (old c) x c.args.bytes.now c.args.work.now (new c) c.split_at.result.1.now c.put.new.work
after c x less (front, cut, held, empty, makes) =
    let h = so_far c in
    let next : ℕ × ModelTop = (c.next_level-level.result, c.wide_top-top.result) in
    let none = empty (omega (arith, c.loop-rest-test.true)) in
    let len = its_length c in
    let parts : c.loop-rest.rest.now ≡ mine c ++ c.split_at.result.1.now = search (rules, c.split_at.ensures) in
    let bytes : c.args.bytes.now ≡ (front ++ mine c) ++ c.split_at.result.1.now = cut ∙ ap (λ z. front ++ z) parts ∙ sym (append_assoc front (mine c) c.split_at.result.1.now) in
    let given : (x ++ front) ++ mine c ≡ x ++ (front ++ mine c) = append_assoc x front (mine c) in
    let few : length ((x ++ front) ++ mine c) < 2 ^ 64 = omega (arith, less, ap length bytes, ap length given, length-append x (front ++ mine c), length-append (front ++ mine c) c.split_at.result.1.now) in
    let node : c.wide_top-top.result ≡ tree_top (mine c) (h.whole / 1024) h.mode = search (rules, c.wide_top-top.ensures, c.number.ensures) in
    let is = next_of h next (x ++ front) (mine c) none held c.next_level-level.ensures.order len node in
    let are = c.put.ensures.nodes ((x ++ front) ++ mine c) is few in
    let made = c.put.ensures.count ((x ++ front) ++ mine c) is few in
    let size : h.whole + 1024 * 2 ^ next.0 < 2 ^ 64 = omega (arith, few, length-append (x ++ front) (mine c), len, ap length held.1, length-append held.0 h.tail, held.3) in
    let work = makes_more _ _ (kept_work (next ∷ h.subtrees)) c.args.work.now c.loop-rest.work c.wide_top-top.new.work (hash_work (1024 * 2 ^ next.0) - 1) makes refl (c.wide_top-top.ensures.count ∙ ap (λ n. counted c.loop-rest.work (hash_work n - 1)) len) in
    let tail = ap tail_of c.put.ensures.tail in (
      front ++ mine c,
      bytes,
      subst (HasInput (new c)) given (holds_next h (new c) next (x ++ front) (mine c) none held len refl tail (c.put.ensures.whole size) are),
      (λ _. tail ∙ none),
      makes_then _ _ _ _ _ _ work made,
    )

pub loop-rest-preserved : goal.loop-rest-preserved
loop-rest-preserved c = record {
  short = omega (arith, c.split_at.ensures.back_len, c.loop-rest.invariant.short);
  left = λ x is less. after c x less (c.loop-rest.invariant.left x is less);
  never_falls = omega (arith, c.loop-rest.invariant.never_falls, c.wide_top-top.ensures.count, c.put.ensures.never_falls);
  within = λ first. let now = c.loop-rest.invariant.within first in (c.put.ensures.fits now.0, rw c.put.ensures.tail now.1);
}

-- there is room for the bytes that are left
room : (tail rest : List ℕ) → length tail < 1024 → length rest < 1024 → (0 < length rest → tail ≡ []) → length tail + length rest < 1024
room tail rest few less empty = elim (cases_lt 0 (length rest)) [
  | inl some ↦ omega (arith, less, ap length (empty some))
  | inr none ↦ omega (arith, few, none)
]

pub returns-clause-bytes : goal.returns-clause-bytes
returns-clause-bytes c x is few = kept (c.loop-rest.invariant.left x is few)
  where
    kept : IsLeft (kept_of c.args.mode.now c.args.self.now) x c.args.bytes.now c.args.work.now (kept_of c.args.mode.now c.loop-rest.self) c.loop-rest.rest.now c.loop-rest.work
        → HasInput (record { mode = c.args.mode.now; subtrees = reverse (nodes_of c.loop-rest.self.subtrees); whole = c.loop-rest.self.whole; tail = tail_of c.extend.new.self }) (x ++ c.args.bytes.now)
    kept (front, cut, (before, given, are, size, short), empty, makes) =
        let rest = c.loop-rest.rest.now in
        let tail = tail_of c.loop-rest.self.tail in
        let fits = room tail rest short c.loop-rest-test.false empty in
        let items : tail_of c.extend.new.self ≡ tail ++ rest = c.extend.ensures.bytes (omega (arith, fits)) in (
          before,
          ap (λ z. x ++ z) cut ∙ sym (append_assoc x front rest) ∙ ap (λ z. z ++ rest) given ∙ append_assoc before tail rest ∙ ap (λ z. before ++ z) (sym items),
          are,
          size,
          omega (arith, ap length items, length-append tail rest, fits),
        )
