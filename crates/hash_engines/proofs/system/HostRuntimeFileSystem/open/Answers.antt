use Rattle.std.proofs.Common.{refl}
use Rattle.hash_engines.specs.Files.{system_bytes}
use Rattle.hash_engines.proofs.system.HostRuntimeFileSystem.open.Goals as goal

pub returns-clause-bytes : goal.returns-clause-bytes
unfolding system_bytes
returns-clause-bytes c = refl

pub returns-clause-remaining : goal.returns-clause-remaining
unfolding system_bytes
returns-clause-remaining c = refl
