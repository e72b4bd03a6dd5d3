use Rattle.std.proofs.Common.{◌∙◌, ap, subst}
use Rattle.b3_check.specs.Lines.{Gives, line_at, marked_at}
use Rattle.b3_check.proofs.Grammar.{IfOk-from_Gives, line_at-from_IsLine}
use Rattle.b3_check.proofs.reading.read_line.Goals as goal

pub returns-clause-found : goal.returns-clause-found
returns-clause-found c =
    let given : Gives (λ l. l) c.read_marked.result (line_at c.args.line.now) = subst (λ f. Gives (λ l. l) c.read_marked.result f) (ap marked_at c.without_returns.ensures) c.read_marked.ensures in
    IfOk-from_Gives c.args.line.now c.read_marked.result given

pub returns-clause-only : goal.returns-clause-only
returns-clause-only c = λ digest name is.
    subst (λ f. Gives (λ l. l) c.read_marked.result f) (ap marked_at c.without_returns.ensures ∙ line_at-from_IsLine c.args.line.now digest name is) c.read_marked.ensures
