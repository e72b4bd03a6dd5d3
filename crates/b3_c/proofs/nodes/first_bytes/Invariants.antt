use Rattle.std.proofs.Common.{◌≡◌, ◌*◌, length, take}
use Rattle.std.specs.Prelude.{map}
use Rattle.std.specs.List.{range_with_len}
use Rattle.b3_core.specs.ExtendedOutput.{byte_of}
use Rattle.b3_c.proofs.nodes.first_bytes.Given as goal

abbrev pub invariant-words : goal.invariant-words
invariant-words l = record {
  len : length l.out ≡ 32;
  bytes : take (4 * l.i) l.out ≡ map (byte_of l.words) (range_with_len 0 (4 * l.i));
}
