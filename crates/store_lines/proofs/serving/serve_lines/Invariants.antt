use Rattle.std.proofs.Common.{◌≡◌, ◌≤◌, vec_capacity}
use Rattle.std.specs.Prelude.{IfSome}
use Rattle.std.specs.Io.KnownBytes.{Appends}
use Rattle.store_lines.specs.Lines.{max_request}
use Rattle.store_lines.specs.Owning.{session_of}
use Rattle.store_lines.proofs.Under.{IsUnder}
use Rattle.store_lines.proofs.serving.serve_lines.Given as goal

abbrev pub invariant-loop : goal.invariant-loop
invariant-loop g l =
    IfSome (g.R.Read.remaining l.fn.reader) (IsUnder (session_of g.A.Access.reach l.fn.own.at_end) (g.A.Access.stands l.fn.access) (g.A.Access.stands l.access) l.own.numbers.items (g.R.Read.remaining l.reader) (Appends (g.W.Write.contents l.fn.writer) (g.W.Write.contents l.writer)))
    × (max_request ≤ vec_capacity l.line) × (l.own.at_end ≡ l.fn.own.at_end)
