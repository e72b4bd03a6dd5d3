use Rattle.std.proofs.Common.{◌∙◌, sym}
use Rattle.store_upload.proofs.Places.{overlap_held, overlap_next, overlap_none}
use Rattle.store_upload.proofs.Ranges.{next_from, no_next}
use Rattle.store_upload.proofs.parts.overlap.Goals as goal

pub returns-then-is_held : goal.returns-then-is_held
returns-then-is_held g c = sym (overlap_held g.P.Length.len c.args.offset 0 c.requires.apart.0 c.args.len c.args.parts.now.entries c.requires.apart.2 c.requires.positive (sym c.is_held.ensures ∙ c.if-is_held.true))

pub returns-in-Some : goal.returns-in-Some
returns-in-Some g c =
    let next = next_from c.args.parts.now c.args.offset _ c.in-Some.start.now _ c.range.result c.next.new.self (c.range.ensures.in_range tt) c.in-Some.ensures.steps in
    sym (overlap_next g.P.Length.len c.args.offset 0 c.requires.apart.0 c.args.len c.in-Some.start.now _ c.args.parts.now.entries c.requires.apart.2 (sym c.is_held.ensures ∙ c.if-is_held.false) next.is next.from next.below next.least)

pub returns-in-None : goal.returns-in-None
returns-in-None g c =
    sym (overlap_none g.P.Length.len c.args.offset 0 c.requires.apart.0 c.args.len c.args.parts.now.entries c.requires.apart.2 (sym c.is_held.ensures ∙ c.if-is_held.false)
    (no_next c.args.parts.now c.args.offset _ c.range.result (c.range.ensures.in_range tt) c.in-None.ensures.steps.0))
