use Rattle.std.proofs.Common.{◌≡◌, length, min, arith, rules}
use Rattle.std.proofs.lemmas.List.{length-take-le}
use Rattle.b3_core.specs.Kept.{nodes_of}
use Rattle.b3_core.proofs.InPlaces.{popped}
use Rattle.b3_core.proofs.places.Stack.pop.Goals as goal

pub returns-clause-rest : goal.returns-clause-rest
unfolding nodes_of
returns-clause-rest c = λ last is.
    let places : length c.args.self.now.places ≡ 54 = search rules in
    popped c.args.self.now.places (min c.args.self.now.len 54) (min c.saturating_sub-self.result 54) last (omega (arith, places))
    (omega (arith, c.saturating_sub-self.ensures, c.min.ensures)) is

pub returns-clause-fewer : goal.returns-clause-fewer
unfolding nodes_of
returns-clause-fewer c = λ some.
    let places : length c.args.self.now.places ≡ 54 = search rules in
    let before = length-take-le (min c.args.self.now.len 54) c.args.self.now.places (omega (arith, places)) in
    let after = length-take-le (min c.saturating_sub-self.result 54) c.args.self.now.places (omega (arith, places)) in
    omega (arith, some, before, after, c.saturating_sub-self.ensures, c.min.ensures)
