use Rattle.b3_parallel.proofs.Counting.{counts_on}
use Rattle.b3_parallel.proofs.counted_hasher.CountedHasher.top.Goals as goal

pub returns-clause-node : goal.returns-clause-node
returns-clause-node c x (held, count) = c.top.ensures.node x held

pub returns-clause-count : goal.returns-clause-count
returns-clause-count c x (held, count) = counts_on _ _ _ _ count (c.top.ensures.count x held)
