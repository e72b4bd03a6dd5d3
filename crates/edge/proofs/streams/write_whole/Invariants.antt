use Rattle.edge.specs.Output.{AllBut}
use Rattle.edge.proofs.streams.write_whole.Given as goal

abbrev pub invariant-loop : goal.invariant-loop
invariant-loop g l = AllBut (g.W.Write.contents l.fn.writer) (g.W.Write.contents l.writer) l.bytes l.rest
