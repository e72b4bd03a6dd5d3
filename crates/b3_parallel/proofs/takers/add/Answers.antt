use Rattle.std.proofs.Common.{◌≡◌, ◌∷◌, ◌++◌, [], rules, subst, sym}
use Rattle.b3_parallel.specs.inner.Rounds.{AreTaken}
use Rattle.b3_parallel.proofs.Placing.{taken_more}
use Rattle.b3_parallel.proofs.takers.add.Goals as goal
use Rattle.b3_parallel.proofs.takers.add.Goals.{in-Ok, in-Err}

pub returns : goal.returns
returns c p known k is are = elim c.match-push.branch [
  | in-Ok w ↦
      let items : c.push.new.self.items ≡ c.args.lists.now.items ++ c.args.taken ∷ [] = search (rules, w.in-Ok) in
      subst (AreTaken p known k) (sym items) (taken_more p known k c.args.lists.now.items c.args.taken are is)
  | in-Err w ↦
      let items : c.push.new.self.items ≡ c.args.lists.now.items = search (rules, w.in-Err) in
      subst (AreTaken p known k) (sym items) are
]
