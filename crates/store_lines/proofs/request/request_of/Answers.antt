use Rattle.std.proofs.Common.{rules, arith, ◌≡◌, ◌<◌, false}
use Rattle.store_lines.proofs.Lines.{asks_none, asks_this}
use Rattle.store_lines.proofs.request.request_of.Goals as goal

pub returns-then-not-read : goal.returns-then-not-read
returns-then-not-read c =
    let lost : c.args.read.is_kept ≡ false = search rules in
    asks_none c.args.read c.args.line.now (λ whole h. h.long lost)

pub returns-then-read-gt-MAX_REQUEST : goal.returns-then-read-gt-MAX_REQUEST
returns-then-read-gt-MAX_REQUEST c =
    let more : 200 < c.args.read.count = omega arith in
    asks_none c.args.read c.args.line.now (λ whole h. omega (arith, h.count_is, more))

pub returns : goal.returns
returns c =
    asks_this c.args.read c.args.line.now c.without_end.result.now c.read_request.result (search rules) (omega arith) c.without_end.ensures c.read_request.ensures
