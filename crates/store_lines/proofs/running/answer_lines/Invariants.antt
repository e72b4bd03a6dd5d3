use Rattle.std.specs.Prelude.{IfSome}
use Rattle.std.specs.Io.KnownBytes.{Appends}
use Rattle.store_lines.specs.Running.{AreTold}
use Rattle.store_lines.proofs.ScriptSteps.{IsUnder}
use Rattle.store_lines.proofs.running.answer_lines.Given as goal

abbrev pub invariant-loop-index : goal.invariant-loop-index
invariant-loop-index g l =
    IfSome (g.R.Read.remaining l.fn.reader) (IsUnder (AreTold g.F.BadLines.tells l.fn.faults l.faults) l.index (g.R.Read.remaining l.reader) (Appends (g.W.Write.contents l.fn.writer) (g.W.Write.contents l.writer)) l.store l.ending)
