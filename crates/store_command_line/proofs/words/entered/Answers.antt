use Rattle.store_command_line.proofs.Found.{entered_as}
use Rattle.store_command_line.proofs.words.entered.Goals as goal

pub returns : goal.returns
returns c = entered_as _ _ c.subcommand.result c.args.matches.now c.subcommand.ensures.name c.subcommand.ensures.rows
