use Rattle.std.proofs.Common.{◌≡◌, ◌^◌, IfSome, Option, rules, subst}
use Rattle.b3_parallel.specs.inner.Rounds.{IsPlaced}
use Rattle.b3_parallel.specs.declared.taking.Placed.{Placed}
use Rattle.b3_parallel.proofs.Placing.{front_grows, room_within}
use Rattle.b3_parallel.proofs.rounds.append_slot.Goals as goal

pub returns-in-Some : goal.returns-in-Some
returns-in-Some c known is front same =
    let round = c.args.round.now in
    let s = c.in-Some.placed in
    let block : IsPlaced round.mode known round.level s = subst (λ (slot : Option Placed). IfSome slot (IsPlaced round.mode known round.level)) c.in-Some.is is in
    let at : s.place ≡ c.args.place = search rules in
    front_grows round.mode known round.level c.args.place c.args.front.now c.append.new.self s (room_within c.args.place round.end (2 ^ round.level) c.requires round.end_fits) at
    (λ x mine ready len hashed few. c.append.ensures round.mode x mine ready len hashed few) block front
