use Rattle.hash_engines.proofs.FileSums.{IsUpTo}
use Rattle.hash_engines.proofs.summing.sum_files.Given as goal

abbrev pub invariant-loop-index : goal.invariant-loop-index
invariant-loop-index g l = IsUpTo g.S.Sources.gives g.S.Sources.reports l.fn.lines.length l.fn.sources l.fn.lines.names.now l.index l.sources l.verdict (g.W.Write.contents l.fn.writer) (g.W.Write.contents l.writer)
