use Rattle.std.proofs.Common.{vec_len}
use Rattle.hash_engines.proofs.ahead.«+hash_groups».Given as goal

abbrev pub decreases-hash_groups : goal.decreases-hash_groups
decreases-hash_groups g a = vec_len a.names
