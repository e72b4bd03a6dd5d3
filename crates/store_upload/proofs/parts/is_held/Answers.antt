use Rattle.std.proofs.Common.{◌∙◌, ap, sym, arith}
use Rattle.std.specs.Prelude.{nat_lt, ◌+◌}
use Rattle.store_upload.proofs.Places.{ends_within, last_holds, none_holds}
use Rattle.store_upload.proofs.Ranges.{last_upto, none_upto}
use Rattle.store_upload.proofs.parts.is_held.Goals as goal

pub overflow_add-result : goal.overflow_add-result
overflow_add-result g c =
    let last = last_upto c.args.parts.now c.args.offset c.in-Some.start.now c.in-Some.part.now c.range.result c.next_back.new.self (c.range.ensures.in_range tt) c.in-Some.ensures.steps in
    let ends = ends_within g.P.Length.len 0 c.requires.0 c.in-Some.start.now c.in-Some.part.now c.args.parts.now.entries c.requires.2 last.is in
    let fits = c.requires.1 in
    omega (arith, ends, fits, c.length.ensures)

pub returns-in-Some : goal.returns-in-Some
returns-in-Some g c =
    let last = last_upto c.args.parts.now c.args.offset c.in-Some.start.now c.in-Some.part.now c.range.result c.next_back.new.self (c.range.ensures.in_range tt) c.in-Some.ensures.steps in
    ap (λ n. nat_lt c.args.offset (c.in-Some.start.now + n)) c.length.ensures
    ∙ last_holds g.P.Length.len c.args.offset 0 c.requires.0 c.in-Some.start.now c.in-Some.part.now c.args.parts.now.entries c.requires.2 last.is last.upto last.last

pub returns-in-None : goal.returns-in-None
returns-in-None g c = sym (none_holds g.P.Length.len c.args.offset c.args.parts.now.entries (none_upto c.args.parts.now c.args.offset c.range.result (c.range.ensures.in_range tt) c.in-None.ensures.steps.0))
