use Rattle.std.proofs.Common.{refl}
use Rattle.store_command_line.specs.inner.Declared.{with_arguments, with_subcommands}
use Rattle.store_command_line.proofs.command.subcommands.Goals as goal

pub returns : goal.returns
unfolding with_arguments with_subcommands
returns c = refl
