use Rattle.std.proofs.Common.{◌≡◌, ◌∷◌, ◌++◌, [], rules, subst, sym}
use Rattle.b3_parallel.specs.inner.Takers.{AreTaking}
use Rattle.b3_parallel.proofs.TakingOn.{taking_more}
use Rattle.b3_parallel.proofs.takers.start_all.Goals as goal

pub loop-preserved : goal.loop-preserved
loop-preserved g c =
    let bytes = g.S.Source.bytes in
    let known = bytes c.args.source.now in
    let p = c.args.round.now.mode in
    let k = c.args.round.now.level in
    let h = c.in-Some.handle in
    let items : c.push.new.self.items ≡ c.loop.handles.items ++ h ∷ [] = search rules in
    subst (AreTaking bytes p known k) (sym items) (taking_more bytes p known k c.loop.handles.items h c.loop.invariant c.in-Some.ensures)
