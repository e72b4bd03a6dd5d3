use Rattle.std.proofs.Common.{◌≡◌, ℕ, arith, rules, subst}
use Rattle.b3_parallel.specs.inner.Rounds.{HasFront}
use Rattle.b3_parallel.proofs.sourcing.hash_rounds.Goals as goal

pub loop-first-preserved : goal.loop-first-preserved
loop-first-preserved g c = record {
  most = omega (arith, c.min.ensures, c.loop-first.invariant.most);
  front = λ is.
      (rw (c.part.ensures.mode, c.part.ensures.level, c.part.ensures.first, c.part.ensures.end) at c.hash_round.ensures) (c.loop-first.invariant.front is) (search rules);
}

pub returns : goal.returns
returns g c front _ =
    let all : c.loop-first.first ≡ c.args.all.now.end = omega (arith, c.loop-first.invariant.most, c.loop-first-test.false) in
    subst (λ (m : ℕ). HasFront c.args.all.now.mode (g.S.Source.bytes c.args.source.now) c.args.all.now.level c.loop-first.front m) all (c.loop-first.invariant.front front)
