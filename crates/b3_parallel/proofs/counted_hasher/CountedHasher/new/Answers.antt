use Rattle.std.proofs.Common.{[], arith, refl}
use Rattle.b3_parallel.proofs.counted_hasher.CountedHasher.new.Goals as goal

pub returns : goal.returns
returns g c k = rw (c.new.ensures, c.new-2.ensures) (refl, (([], refl, refl, refl, omega arith), omega arith), (refl, tt))
