use Rattle.std.proofs.Common.{All, take}
use Rattle.hash_engines.specs.Files.{IsNamedRoot}
use Rattle.hash_engines.proofs.ahead.hash_each.Given as goal

abbrev pub invariant-loop-i : goal.invariant-loop-i
invariant-loop-i g l = All (IsNamedRoot (g.F.FileSystem.bytes_at l.file_system) l.mode) (take l.i l.names)
