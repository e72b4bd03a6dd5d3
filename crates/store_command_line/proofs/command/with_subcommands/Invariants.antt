use Rattle.std.proofs.Common.{◌≡◌, false, drop}
use Rattle.clap.specs.Words.{app_of}
use Rattle.clap.specs.declared.builder.command.Command.TheViews.{out-Command as fields_of}
use Rattle.store_command_line.specs.inner.Declared.{with_subcommands}
use Rattle.store_command_line.proofs.command.with_subcommands.Given as goal

abbrev pub invariant-loop-subcommand : goal.invariant-loop-subcommand
invariant-loop-subcommand l = record {
  shape : with_subcommands (app_of l.program) (drop l.subcommand-index l.subcommands) ≡ with_subcommands (app_of l.initial.program) l.subcommands;
  local : (fields_of l.program).has_globals ≡ false;
}
