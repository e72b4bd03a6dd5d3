use Rattle.b3_check.proofs.writing.write_line.Goals as goal

pub returns-clause-lawful : goal.returns-clause-lawful
returns-clause-lawful g c = record { long = c.digits_of-digits.ensures.long; bytes = c.digits_of-digits.ensures.bytes; named = c.write_named.ensures.named }
