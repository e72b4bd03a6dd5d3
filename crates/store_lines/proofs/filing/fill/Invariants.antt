use Rattle.std.specs.Prelude.{IfSome}
use Rattle.store_lines.specs.inner.Reporting.{PutsOver}
use Rattle.store_lines.proofs.filing.fill.Given as goal

abbrev pub invariant-loop-number : goal.invariant-loop-number
invariant-loop-number g l = IfSome (g.R.Read.remaining l.fn.reader) (λ following. PutsOver g.A.Access.reach (g.A.Access.stands l.fn.access) (g.A.Access.stands l.access) l.filing l.upload l.number following (g.R.Read.remaining l.reader))
