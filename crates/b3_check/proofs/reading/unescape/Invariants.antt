use Rattle.std.proofs.Common.{◌≡◌, drop}
use Rattle.b3_check.specs.Names.{unescaped, unescaped_from}
use Rattle.b3_check.proofs.Escapes.{with_front}
use Rattle.b3_check.proofs.reading.unescape.Given as goal

abbrev pub invariant-loop-byte : goal.invariant-loop-byte
invariant-loop-byte l = with_front l.name.items (unescaped_from l.after_backslash (drop l.byte-index l.units)) ≡ unescaped l.units
