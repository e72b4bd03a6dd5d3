use Rattle.std.proofs.Common.{◌≡◌, ◌+◌, length, min, arith, rules}
use Rattle.std.proofs.lemmas.List.{length-take-le}
use Rattle.b3_core.specs.Kept.{nodes_of}
use Rattle.b3_core.proofs.InPlaces.{pushed}
use Rattle.b3_core.proofs.places.Stack.push.Goals as goal

pub returns-then-len-lt-LEVELS-clause-nodes : goal.returns-then-len-lt-LEVELS-clause-nodes
unfolding nodes_of
returns-then-len-lt-LEVELS-clause-nodes c = λ room.
    let places : length c.args.self.now.places ≡ 54 = search rules in
    let more : min (c.args.self.now.len + 1) 54 ≡ c.args.self.now.len + 1 = omega (arith, c.if-len-lt-LEVELS.true) in
    rw more (pushed c.args.self.now.places c.args.self.now.len _ c.args.next (omega (arith, places)) (omega (arith, c.if-len-lt-LEVELS.true)))

pub returns-else-len-lt-LEVELS-clause-nodes : goal.returns-else-len-lt-LEVELS-clause-nodes
unfolding nodes_of
returns-else-len-lt-LEVELS-clause-nodes c = λ room.
    let places : length c.args.self.now.places ≡ 54 = search rules in
    let full = length-take-le (min c.args.self.now.len 54) c.args.self.now.places (omega (arith, places)) in
    absurd (omega (arith, full, room, c.if-len-lt-LEVELS.false))
