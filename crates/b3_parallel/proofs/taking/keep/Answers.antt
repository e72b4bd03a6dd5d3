use Rattle.std.proofs.Common.{◌≡◌, ◌∷◌, ◌++◌, [], IfSome, Option, rules, subst, sym}
use Rattle.b3_parallel.specs.inner.Rounds.{ArePlaced, IsPlaced}
use Rattle.b3_parallel.specs.declared.taking.Placed.{Placed}
use Rattle.b3_parallel.proofs.Placing.{placed_more}
use Rattle.b3_parallel.proofs.taking.keep.Goals as goal

pub returns-in-Ok : goal.returns-in-Ok
returns-in-Ok c p known k are is =
    let items : c.push.new.self.items ≡ c.args.taken.now.items ++ c.in-Some.placed ∷ [] = search rules in
    let block : IsPlaced p known k c.in-Some.placed = subst (λ (made : Option Placed). IfSome made (IsPlaced p known k)) c.in-Some.is is in
    subst (ArePlaced p known k) (sym items) (placed_more p known k c.args.taken.now.items c.in-Some.placed are block)
