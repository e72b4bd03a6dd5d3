-- The rules and shapes that clap has of the tables in the code.
use Rattle.std.specs.Prelude.{List, [], ◌∷◌, true, codes}
use Rattle.clap.specs.Words.{App, Rule, Text, new_app, with_rule, with_subcommand}
use Rattle.store_command_line.specs.CommandLine.{flag_rule, short_flag_rule, value_rule, words_rule}
use Rattle.store_command_line.specs.declared.command.Argument.{Argument}
use Rattle.store_command_line.specs.declared.command.Subcommand.{Subcommand}
use Rattle.store_command_line.specs.declared.command.Takes.{Takes}
use Rattle.store_command_line.specs.declared.command.Takes.TheVariants.{Values, Value, Nothing, NothingOr}

-- the rule of an argument with this name, by what it takes
abbrev pub rule_taking : Text → Takes → Rule
rule_taking id (Values name) = words_rule id
rule_taking id (Value name) = value_rule id
rule_taking id Nothing = flag_rule id
rule_taking id (NothingOr letter) = short_flag_rule id letter

abbrev pub rule_for : Argument → Rule
rule_for a = rule_taking a.id.now a.takes

-- a command with these arguments added, one after another
unfoldable pub with_arguments : App → List Argument → App
with_arguments app [] = app
with_arguments app (a ∷ rest) = with_arguments (with_rule app (rule_for a)) rest

-- a command with these subcommands added, one after another
unfoldable pub with_subcommands : App → List Subcommand → App
with_subcommands app [] = app
with_subcommands app (s ∷ rest) = with_subcommands (with_subcommand app (with_arguments (new_app s.name.now) s.arguments.now).top) rest

-- the program's command without its subcommands
abbrev pub bare_program : App
bare_program = let bare = new_app (codes "b3store") in record bare { top = record bare.top { has_version = true } }
