use Rattle.std.proofs.Common.{◌≡◌, ◌∙◌, sym}
use Rattle.b3_check.specs.Names.{escaped}
use Rattle.b3_check.proofs.Escapes.{escaped-plain}
use Rattle.b3_check.proofs.writing.write_escaped.Goals as goal

pub returns-else-needs_escapes-clause-written : goal.returns-else-needs_escapes-clause-written
returns-else-needs_escapes-clause-written g c =
    let plain : escaped c.args.name.now ≡ c.args.name.now = escaped-plain c.args.name.now (sym c.needs_escapes.ensures ∙ c.if-needs_escapes.false) in
    rw plain c.write_whole.ensures.written

pub returns-else-needs_escapes-clause-failed : goal.returns-else-needs_escapes-clause-failed
returns-else-needs_escapes-clause-failed g c =
    let plain : escaped c.args.name.now ≡ c.args.name.now = escaped-plain c.args.name.now (sym c.needs_escapes.ensures ∙ c.if-needs_escapes.false) in
    rw plain c.write_whole.ensures.failed
