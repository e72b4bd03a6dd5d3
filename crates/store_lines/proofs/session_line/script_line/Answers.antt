use Rattle.std.proofs.Common.{rules, arith, ◌≡◌, ◌≤◌, ◌<◌, false, true}
use Rattle.std.specs.Io.BufRead.{strip_last}
use Rattle.store_lines.proofs.Lines.{kept_line, long_line, no_memory_line}
use Rattle.store_lines.proofs.session_line.script_line.Goals as goal

pub returns-then-not-read : goal.returns-then-not-read
returns-then-not-read c =
    let lost : c.args.read.is_kept ≡ false = search rules in
    no_memory_line c.args.read c.args.line.now lost

pub returns-then-read-gt-MAX_LINE : goal.returns-then-read-gt-MAX_LINE
returns-then-read-gt-MAX_LINE c =
    let long : 33554481 < c.args.read.count = omega arith in
    long_line c.args.read c.args.line.now c.line_fault.result (search rules) long c.line_fault.ensures

pub returns : goal.returns
returns c =
    let kept : c.args.read.is_kept ≡ true = search rules in
    let few : c.args.read.count ≤ 33554481 = omega arith in
    let line : c.without_end.result.now ≡ strip_last 10 c.args.line.now = search rules in
    kept_line c.args.read c.args.line.now c.without_end.result.now c.kept_line.result kept few line c.kept_line.ensures
