use Rattle.std.proofs.Common.{◌≡◌, false, drop}
use Rattle.clap.specs.Words.{app_of, new_app}
use Rattle.clap.specs.declared.builder.command.Command.TheViews.{out-Command as fields_of}
use Rattle.store_command_line.specs.inner.Declared.{with_arguments}
use Rattle.store_command_line.proofs.command.Subcommand.declared.Given as goal

abbrev pub invariant-loop-argument : goal.invariant-loop-argument
invariant-loop-argument l = record {
  shape : with_arguments (app_of l.command) (drop l.argument-index l.fn.self.arguments.now) ≡ with_arguments (new_app l.fn.self.name.now) l.fn.self.arguments.now;
  local : (fields_of l.command).has_globals ≡ false;
}
