use Rattle.std.proofs.Common.{take}
use Rattle.std.specs.Io.KnownBytes.{Appends}
use Rattle.b3_check.specs.Names.{escaped}
use Rattle.b3_check.proofs.writing.write_units.Given as goal

abbrev pub invariant-loop-byte : goal.invariant-loop-byte
invariant-loop-byte g l = Appends (g.W.Write.contents l.fn.writer) (g.W.Write.contents l.writer) (escaped (take l.byte-index l.name))
