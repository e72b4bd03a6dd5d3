use Rattle.std.proofs.Common.{◌≡◌}
use Rattle.b3_core.specs.Tree.{chain}
use Rattle.b3_core.specs.Work.{counted}
use Rattle.b3_core.proofs.node.Top.of_chunk.Given as goal

abbrev pub invariant-blocks-2 : goal.invariant-blocks-2
invariant-blocks-2 l = record {
  chained : l.chaining_value ≡ chain l.bytes l.number l.mode l.j;
  work : l.work ≡ counted l.fn.work l.j;
}
