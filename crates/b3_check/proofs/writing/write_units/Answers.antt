use Rattle.std.proofs.lemmas.Result.{err_from_is_err_and}
use Rattle.b3_check.specs.Names.{unit_of}
use Rattle.b3_check.proofs.Truncations.{truncated_at}
use Rattle.b3_check.proofs.writing.write_units.Goals as goal

pub returns-in_err-write_unit-clause-failed : goal.returns-in_err-write_unit-clause-failed
returns-in_err-write_unit-clause-failed g c =
    let p = err_from_is_err_and c.from_residual.result c.from_residual.ensures.1 in
    rw (p.1) (truncated_at unit_of (g.W.Write.contents c.args.writer.now) (g.W.Write.contents c.loop-byte.writer) (g.W.Write.contents c.write_unit.new.writer) c.args.name.now c.loop-byte.byte-index 0 c.loop-byte-test.true
    c.loop-byte.invariant c.in_err-write_unit.ensures.failed)
