use Rattle.std.proofs.Common.{rules, ◌≡◌}
use Rattle.clap.specs.Words.{first_of, found_of, rows_of}
use Rattle.store_command_line.specs.declared.said.Fault.TheVariants.{NoMemory}
use Rattle.store_command_line.proofs.Found.{spelled_or}
use Rattle.store_command_line.proofs.words.number_or.Goals as goal

pub returns-in_err-n-clause-only : goal.returns-in_err-n-clause-only
returns-in_err-n-clause-only c = λ n spells within.
    let text = first_of c.args.id.now (rows_of (found_of c.args.found.now)) in
    let memory : c.in_err-n.field-0.0 ≡ NoMemory = spelled_or c.args.option.most c.args.option.default n text _ spells within c.in_err-n.ensures.only in
    search rules
