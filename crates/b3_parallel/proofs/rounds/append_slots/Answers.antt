use Rattle.std.proofs.Common.{◌≡◌, ◌+◌, ◌∷◌, ℕ, arith, ap, length, rules, subst}
use Rattle.std.specs.Vec.Iter.{into_iter_items, into_iter_len}
use Rattle.b3_parallel.specs.inner.Rounds.{AreSlots, HasFront}
use Rattle.b3_parallel.proofs.rounds.append_slots.Goals as goal

pub loop-slot-preserved : goal.loop-slot-preserved
loop-slot-preserved c =
    let p = c.args.round.now.mode in
    let k = c.args.round.now.level in
    let slot = c.in-Some.slot in
    let items : into_iter_items c.loop-slot.rest ≡ slot ∷ into_iter_items c.next.new.self = search (rules, c.in-Some.ensures.items) in
    let less : into_iter_len c.next.new.self + 1 ≡ into_iter_len c.loop-slot.rest = search (rules, c.in-Some.ensures.len) in
    let more : length (into_iter_items c.loop-slot.rest) ≡ length (slot ∷ into_iter_items c.next.new.self) = ap length items in
    record {
      len = omega (arith, c.loop-slot.invariant.len, less, more);
      slots = λ known are. (subst (AreSlots p known k) items (c.loop-slot.invariant.slots known are)).1;
      front = λ known are is.
          c.append_slot.ensures known (subst (AreSlots p known k) items (c.loop-slot.invariant.slots known are)).0 (c.loop-slot.invariant.front known are is) (search rules);
    }

pub returns : goal.returns
returns c known are is same =
    let round = c.args.round.now in
    let end : c.loop-slot.place ≡ round.end = search rules in
    subst (λ (m : ℕ). HasFront round.mode known round.level c.loop-slot.front m) end (c.loop-slot.invariant.front known are is)
