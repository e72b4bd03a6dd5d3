use Rattle.b3_check.proofs.Reporting.{IsUpTo}
use Rattle.b3_check.proofs.verifying.verify.Given as goal

abbrev pub invariant-loop-index : goal.invariant-loop-index
invariant-loop-index g l = IsUpTo g.N.Names.gives l.fn.options l.fn.names l.fn.file l.index l.names l.counts (g.W.Write.contents l.fn.writer) (g.W.Write.contents l.writer)
