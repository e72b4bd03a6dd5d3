use Rattle.std.proofs.Common.{rules, ◌≡◌, Some}
use Rattle.std.specs.Prelude.{codes}
use Rattle.edge.specs.Fields.{split_at, space}
use Rattle.store_lines.proofs.LineOutcomes.{always, put_line}
use Rattle.store_lines.proofs.parsing.command.Goals as goal

pub returns-then-eq-clause-memory : goal.returns-then-eq-clause-memory
returns-then-eq-clause-memory c =
    let cut : Some (c.in-Some.kind.now, c.in-Some.fields.now) ≡ split_at space c.args.line.now = search rules in
    let is : c.in-Some.kind.now ≡ codes "put" = search rules in
    always c.puts.result (put_line c.args.line.now c.in-Some.kind.now c.in-Some.fields.now cut is)
