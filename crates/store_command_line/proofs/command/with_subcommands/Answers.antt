use Rattle.std.proofs.Common.{rules, ◌∙◌, ap, arith, refl}
use Rattle.clap.specs.Words.{app_of, new_app, with_subcommand}
use Rattle.store_command_line.specs.inner.Declared.{with_arguments, with_subcommands}
use Rattle.store_command_line.proofs.Folds.{folded_all, folded_on}
use Rattle.store_command_line.proofs.command.with_subcommands.Goals as goal

pub loop-subcommand-preserved : goal.loop-subcommand-preserved
unfolding with_subcommands
loop-subcommand-preserved c = record {
  shape = folded_on with_subcommands (λ app s. with_subcommand app (with_arguments (new_app s.name.now) s.arguments.now).top) (λ app s rest. refl)
      (app_of c.loop-subcommand.program) (app_of c.in_ok-program.program) _ c.args.subcommands.now c.loop-subcommand.subcommand-index _ c.loop-subcommand-test.true
      (c.in_ok-program.ensures.shape c.in_ok-command.ensures.local ∙ ap (λ app. with_subcommand (app_of c.loop-subcommand.program) app.top) c.in_ok-command.ensures.shape)
      c.loop-subcommand.invariant.shape;
  local = search rules;
}

pub returns-clause-shape : goal.returns-clause-shape
unfolding with_subcommands
returns-clause-shape c = folded_all with_subcommands (λ app. refl) (app_of c.loop-subcommand.program) _ c.args.subcommands.now c.loop-subcommand.subcommand-index (omega (arith, c.loop-subcommand-test.false)) c.loop-subcommand.invariant.shape
