use Rattle.std.proofs.Common.{◌≡◌, ◌++◌, [], drop}
use Rattle.std.specs.Prelude.{option_map}
use Rattle.hash_engines.specs.Lists.{names_from}
use Rattle.hash_engines.proofs.lists.names_in.Given as goal

abbrev pub invariant-loop-byte : goal.invariant-loop-byte
invariant-loop-byte l = option_map (λ rest. l.names.items ++ rest) (names_from l.end l.front.items (drop l.byte-index l.text)) ≡ names_from l.fn.end [] l.fn.text
