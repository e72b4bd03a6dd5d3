use Rattle.std.proofs.Common.{arith, ◌++◌, ℕ, length-append, subst}
use Rattle.std.specs.Prelude.{Option}
use Rattle.std.proofs.KnownBytes.{Consumes-trans}
use Rattle.store_lines.specs.inner.Reads.{TakesSome}
use Rattle.store_lines.proofs.reading.skip.Goals as goal

pub loop-preserved : goal.loop-preserved
loop-preserved g c =
    let (done, count, read) = c.loop.invariant in
    let (part, took) = c.in_ok-count.ensures.taken in
    let some = subst (λ (o : Option ℕ). TakesSome (g.R.Read.remaining c.loop.reader) (g.R.Read.remaining c.skip_part.new.reader) c.loop.left o part) c.in-Some.is took in
    (done ++ part, omega (arith, length-append done part, some.0, some.1), Consumes-trans _ _ _ _ _ read some.2)
