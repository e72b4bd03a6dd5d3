use Rattle.std.proofs.Common.{◌≡◌}
use Rattle.store_lines.specs.Grammar.{pattern_of}
use Rattle.store_lines.proofs.parsing.pattern.Given as goal

abbrev pub invariant-loop-i : goal.invariant-loop-i
invariant-loop-i l = l.bytes.items ≡ pattern_of l.offset l.i
