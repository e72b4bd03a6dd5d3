use Rattle.std.proofs.Common.{take}
use Rattle.std.specs.Io.KnownBytes.{Appends}
use Rattle.std.specs.List.{AllByRecursion}
use Rattle.b3_check.specs.Lines.{IsLawful, written_lines}
use Rattle.b3_check.proofs.writing.write.Given as goal

abbrev pub invariant-loop-line : goal.invariant-loop-line
invariant-loop-line g l = record {
  written : Appends (g.W.Write.contents l.fn.writer) (g.W.Write.contents l.writer) (written_lines (take l.line-index l.lines));
  lawful : AllByRecursion IsLawful (take l.line-index l.lines);
}
