use Rattle.std.proofs.Common.{◌≡◌, ◌∷◌, ◌++◌, [], None, rules, subst, sym}
use Rattle.b3_parallel.specs.inner.Rounds.{AreSlots}
use Rattle.b3_parallel.proofs.Placing.{slots_more}
use Rattle.b3_parallel.proofs.rounds.empty_slots.Goals as goal

pub loop-preserved : goal.loop-preserved
loop-preserved c p known k =
    let items : c.push.new.self.items ≡ c.loop.slots.items ++ None ∷ [] = search rules in
    subst (AreSlots p known k) (sym items) (slots_more p known k c.loop.slots.items None (c.loop.invariant p known k) tt)
