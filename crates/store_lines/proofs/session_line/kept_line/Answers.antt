use Rattle.std.proofs.Common.{rules, ◌<◌, length}
use Rattle.store_lines.proofs.Lines.{has_fault, has_request}
use Rattle.store_lines.proofs.session_line.kept_line.Goals as goal

pub returns-in-Ok-Ok : goal.returns-in-Ok-Ok
returns-in-Ok-Ok c =
    let line = c.args.line.now in
    let some : 0 < length line = search rules in
    has_request line c.in-Ok-Ok.request some (search rules)

pub returns-in-Ok-Err : goal.returns-in-Ok-Err
returns-in-Ok-Err c =
    let line = c.args.line.now in
    let some : 0 < length line = search rules in
    has_fault line c.in-Ok-Err.fault some (search rules)
