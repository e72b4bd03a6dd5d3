use Rattle.std.proofs.Common.{◌≡◌, ◌+◌, ◌∷◌, Some, arith, ap, length, rules, subst}
use Rattle.std.specs.Vec.Iter.{into_iter_items, into_iter_len}
use Rattle.b3_parallel.specs.inner.Rounds.{ArePlaced}
use Rattle.b3_parallel.proofs.Placing.{slots_set}
use Rattle.b3_parallel.proofs.rounds.put_in_slots.Goals as goal

pub loop-placed-preserved-then-index-len : goal.loop-placed-preserved-then-index-len
loop-placed-preserved-then-index-len c =
    let items : into_iter_items c.loop-placed.rest ≡ c.in-Some.placed ∷ into_iter_items c.next.new.self = search (rules, c.in-Some.ensures.items) in
    let less : into_iter_len c.next.new.self + 1 ≡ into_iter_len c.loop-placed.rest = search (rules, c.in-Some.ensures.len) in
    let more : length (into_iter_items c.loop-placed.rest) ≡ length (c.in-Some.placed ∷ into_iter_items c.next.new.self) = ap length items in
    record {
      len = omega (arith, c.loop-placed.invariant.len, less, more);
      placed = λ p known k are. (subst (ArePlaced p known k) items (c.loop-placed.invariant.placed p known k are)).1;
      slots = λ p known k are is.
          slots_set p known k _ c.loop-placed.slots.items (Some c.in-Some.placed) (c.loop-placed.invariant.slots p known k are is)
          (subst (ArePlaced p known k) items (c.loop-placed.invariant.placed p known k are)).0;
    }

pub loop-placed-preserved : goal.loop-placed-preserved
loop-placed-preserved c =
    let items : into_iter_items c.loop-placed.rest ≡ c.in-Some.placed ∷ into_iter_items c.next.new.self = search (rules, c.in-Some.ensures.items) in
    let less : into_iter_len c.next.new.self + 1 ≡ into_iter_len c.loop-placed.rest = search (rules, c.in-Some.ensures.len) in
    let more : length (into_iter_items c.loop-placed.rest) ≡ length (c.in-Some.placed ∷ into_iter_items c.next.new.self) = ap length items in
    record {
      len = omega (arith, c.loop-placed.invariant.len, less, more);
      placed = λ p known k are. (subst (ArePlaced p known k) items (c.loop-placed.invariant.placed p known k are)).1;
      slots = λ p known k are is. c.loop-placed.invariant.slots p known k are is;
    }
