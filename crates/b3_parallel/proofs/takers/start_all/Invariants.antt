use Rattle.b3_parallel.specs.inner.Takers.{AreTaking}
use Rattle.b3_parallel.proofs.takers.start_all.Given as goal

abbrev pub invariant-loop : goal.invariant-loop
invariant-loop g l = AreTaking g.S.Source.bytes l.round.mode (g.S.Source.bytes l.source) l.round.level l.handles.items
