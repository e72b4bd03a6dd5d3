use Rattle.std.proofs.Common.{◌≡◌, ◌+◌, ◌∷◌, arith, ap, length, rules, subst}
use Rattle.std.specs.Vec.Iter.{into_iter_items, into_iter_len}
use Rattle.b3_parallel.specs.inner.Rounds.{AreTaken}
use Rattle.b3_parallel.proofs.rounds.slots_of.Goals as goal

pub loop-list-init : goal.loop-list-init
loop-list-init c = record {
  len = search (rules, c.into_iter-rest.ensures);
  taken = λ p known k are. search (rules, are, c.into_iter-rest.ensures);
  slots = λ p known k are. search (rules, c.empty_slots.ensures p known k);
}

pub loop-list-preserved : goal.loop-list-preserved
loop-list-preserved c =
    let list = c.in-Some.list in
    let items : into_iter_items c.loop-list.rest ≡ list ∷ into_iter_items c.next.new.self = search (rules, c.in-Some.ensures.items) in
    let less : into_iter_len c.next.new.self + 1 ≡ into_iter_len c.loop-list.rest = search (rules, c.in-Some.ensures.len) in
    let more : length (into_iter_items c.loop-list.rest) ≡ length (list ∷ into_iter_items c.next.new.self) = ap length items in
    record {
      len = omega (arith, c.loop-list.invariant.len, less, more);
      taken = λ p known k are. (subst (AreTaken p known k) items (c.loop-list.invariant.taken p known k are)).1;
      slots = λ p known k are.
          c.put_in_slots.ensures p known k (subst (AreTaken p known k) items (c.loop-list.invariant.taken p known k are)).0 (c.loop-list.invariant.slots p known k are);
    }
