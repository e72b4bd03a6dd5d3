use Rattle.std.proofs.Common.{rules, ◌≡◌, None}
use Rattle.store_lines.proofs.Lines.{script_found}
use Rattle.store_lines.proofs.session_line.line_of.Goals as goal

pub returns-in-None : goal.returns-in-None
returns-in-None c =
    let none : c.request_of.result ≡ None = search rules in
    script_found c.args.read c.args.line.now c.request_of.result c.script_line.result none c.request_of.ensures c.script_line.ensures
