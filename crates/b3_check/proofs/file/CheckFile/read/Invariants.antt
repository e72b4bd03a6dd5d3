use Rattle.std.proofs.Common.{◌≡◌, ◌≤◌, ◌+◌, ◌++◌, length, map}
use Rattle.b3_check.specs.Files.{file_at, numbered_from, read_of}
use Rattle.b3_check.proofs.file.CheckFile.read.Given as goal

abbrev pub invariant-loop-text : goal.invariant-loop-text
invariant-loop-text l = record {
  reported : l.lines.items ++ map read_of (numbered_from (l.number + 1) l.text-iterator) ≡ file_at l.fn.bytes;
  few : l.number + length l.text-iterator ≤ length l.fn.bytes;
}
