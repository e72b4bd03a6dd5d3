use Rattle.b3_check.proofs.report.write_found_line.Goals as goal

pub returns-in-Unreadable-clause-failed : goal.returns-in-Unreadable-clause-failed
returns-in-Unreadable-clause-failed g c = rw c.in-Unreadable.is c.write_named-in-Unreadable.ensures.failed
