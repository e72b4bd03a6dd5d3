use Rattle.std.proofs.Common.{rules}
use Rattle.b3_parallel.specs.inner.Rounds.{AreSlots}
use Rattle.b3_parallel.proofs.rounds.hash_round.Goals as goal

pub returns-in-Ok-slots_of : goal.returns-in-Ok-slots_of
returns-in-Ok-slots_of g c front same =
    let round = c.args.round.now in
    let known = g.S.Source.bytes c.args.source.now in
    let made = c.slots_of.ensures round.mode known round.level c.in-Ok.ensures in
    let slots : AreSlots round.mode known round.level c.in-Ok-slots_of.slots.items = search (rules, made, c.in-Ok-slots_of.is) in
    c.append_slots.ensures known slots front same
