use Rattle.std.proofs.Common.{◌≡◌, ◌+◌, ◌∷◌, arith, ap, length, rules, subst}
use Rattle.std.specs.Vec.Iter.{into_iter_items, into_iter_len}
use Rattle.b3_parallel.specs.inner.Rounds.{ArePlaced}
use Rattle.b3_parallel.specs.inner.Takers.{AreTaking}
use Rattle.b3_parallel.proofs.takers.join_all.Goals as goal

pub loop-handle-preserved : goal.loop-handle-preserved
loop-handle-preserved g c =
    let bytes = g.S.Source.bytes in
    let h = c.in-Some.handle in
    let made = c.join.result.items in
    let items : into_iter_items c.loop-handle.rest ≡ h ∷ into_iter_items c.next.new.self = search (rules, c.in-Some.ensures.items) in
    let less : into_iter_len c.next.new.self + 1 ≡ into_iter_len c.loop-handle.rest = search (rules, c.in-Some.ensures.len) in
    let more : length (into_iter_items c.loop-handle.rest) ≡ length (h ∷ into_iter_items c.next.new.self) = ap length items in
    record {
      len = omega (arith, c.loop-handle.invariant.len, less, more);
      taking = λ p known k are. (subst (AreTaking bytes p known k) items (c.loop-handle.invariant.taking p known k are)).1;
      taken = λ p known k are so.
          let is = (subst (AreTaking bytes p known k) items (c.loop-handle.invariant.taking p known k are)).0 in
          let kept : ArePlaced h.promise.mode (bytes h.promise.source.value) h.promise.level made = c.join.ensures in
          let placed : ArePlaced p known k made = rw (is.0, is.1, is.2) at kept in
          c.add-added.ensures p known k placed (c.loop-handle.invariant.taken p known k are so);
    }
