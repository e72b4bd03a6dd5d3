use Rattle.std.proofs.Common.{◌≡◌, ◌≤◌, ◌-◌, ℕ, List, Some, length, reverse, arith, rules}
use Rattle.std.specs.List.{slice_get}
use Rattle.std.proofs.lemmas.Option.{slice_get_within}
use Rattle.b3_core.specs.Hashers.{AreAbove}
use Rattle.b3_core.specs.inner.Hashers.{IsNext}
use Rattle.b3_core.specs.Kept.{nodes_of}
use Rattle.b3_core.specs.Tree.{ModelTop}
use Rattle.b3_core.proofs.Hashings.{above_next, has_room, merge_step, none_above, put_last}
use Rattle.b3_core.proofs.kept.push.Goals as goal
use Rattle.b3_core.proofs.kept.push.Goals.{in-Some+then-last-next, in_default}

-- a level that rises stays above the first one
higher : (c : goal.After-pop) → c.args.next.0 ≤ c.saturating_add-level.result
higher c =
    let from : c.args.next.0 ≤ c.next.inside.level = rw (← c.next.view_is) at c.loop-last.invariant.rises in
    omega (arith, from, c.saturating_add-level.ensures)

-- the last of those before it
abbrev last : goal.After-pop → ℕ × ModelTop
last c = (c.last-in-Some.inside.level, c.last-in-Some.inside.top)

at : (c : goal.After-pop) → slice_get (nodes_of c.loop-last.subtrees) (length (nodes_of c.loop-last.subtrees) - 1) ≡ Some (last c)
at c = search (rules, c.last.ensures, c.as_slice.ensures, c.last-in-Some, c.in-Some)

pub loop-last-preserved : goal.loop-last-preserved
loop-last-preserved c = record {
  keeps = λ x is few.
      let inv = c.loop-last.invariant.keeps x is few in
      let next : ℕ × ModelTop = (c.next.inside.level, c.next.inside.top) in
      let now = rw (← c.next.view_is) at inv in
      merge_step c.args.mode.now (reverse (nodes_of c.loop-last.subtrees)) (reverse (nodes_of c.pop.new.self)) (last c) next x c.saturating_add-level.result c.parent-top.result _ _ _ _
      (c.pop.ensures.rest (last c) (at c)) c.if-last-next.false c.saturating_add-level.ensures c.parent-top.ensures.node c.parent-top.ensures.count few now.0 now.1;
  rises = higher c;
  never_falls = omega (arith, c.loop-last.invariant.never_falls, c.parent-top.ensures.count);
  fits = λ _. c.pop.ensures.fits;
}

pub loop-last-smaller : goal.loop-last-smaller
loop-last-smaller c =
    let some = slice_get_within (nodes_of c.loop-last.subtrees) (length (nodes_of c.loop-last.subtrees) - 1) (last c) (at c) in
    c.pop.ensures.fewer (omega (arith, some))

-- the next one follows greater ones
stands : (c : goal.After-push) (x : List ℕ) → IsNext c.args.mode.now (reverse (nodes_of c.loop-last.subtrees)) c.loop-last.next x → AreAbove c.loop-last.next.0 (reverse (nodes_of c.loop-last.subtrees))
stands c x is = elim c.match-last.branch [
  | in-Some+then-last-next w ↦ above_next (nodes_of c.loop-last.subtrees) c.loop-last.next (w.last-in-Some.inside.level, w.last-in-Some.inside.top) (search (rules, c.last.ensures, c.as_slice.ensures, w.last-in-Some, w.in-Some)) (rw (← w.next.view_is) w.if-last-next.true) is.5
  | in_default w ↦ none_above (nodes_of c.loop-last.subtrees) c.loop-last.next.0 (search (rules, c.last.ensures, c.as_slice.ensures, w.in_default))
]

pub returns-clause-nodes : goal.returns-clause-nodes
returns-clause-nodes c x is few =
    let inv = c.loop-last.invariant.keeps x is few in
    let above = stands c x inv.0 in
    rw (c.push.ensures.nodes (has_room c.args.mode.now (nodes_of c.loop-last.subtrees) c.loop-last.next x above inv.0 few))
    (put_last c.args.mode.now (reverse (nodes_of c.loop-last.subtrees)) c.loop-last.next x above inv.0)

pub returns-clause-count : goal.returns-clause-count
returns-clause-count c x is few =
    let inv = c.loop-last.invariant.keeps x is few in
    rw (c.push.ensures.nodes (has_room c.args.mode.now (nodes_of c.loop-last.subtrees) c.loop-last.next x (stands c x inv.0) inv.0 few)) inv.1

pub returns-clause-from : goal.returns-clause-from
returns-clause-from c x is few =
    let inv = c.loop-last.invariant.keeps x is few in
    rw (c.push.ensures.nodes (has_room c.args.mode.now (nodes_of c.loop-last.subtrees) c.loop-last.next x (stands c x inv.0) inv.0 few)) c.loop-last.invariant.rises
