use Rattle.std.proofs.Common.{refl}
use Rattle.b3_check.specs.Reports.Verdict.{faulty}
use Rattle.b3_check.proofs.verifying.verify_line.Goals as goal

pub returns-in-Ok-write_fault-clause-asked : goal.returns-in-Ok-write_fault-clause-asked
returns-in-Ok-write_fault-clause-asked g c =
    let number = c.args.line.now.number in
    let fault = c.in-Err.fault in
    rw c.in-Err.is (record { verdict = faulty number fault; asked = (refl, refl); counts = c.add_fault.ensures number fault; went = c.in-Ok-write_fault.ensures.written })
