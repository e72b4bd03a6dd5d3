use Rattle.b3_parallel.proofs.Counting.{counts_on}
use Rattle.b3_parallel.proofs.counted_hasher.CountedHasher.update.Goals as goal

pub returns-clause-given : goal.returns-clause-given
returns-clause-given c x (held, count) few = (c.update.ensures.bytes x held few, counts_on _ _ _ _ count (c.update.ensures.count x held few))
