use Rattle.std.proofs.Common.{rules, ◌∙◌, ap, arith, refl}
use Rattle.clap.specs.Words.{app_of, with_rule}
use Rattle.store_command_line.specs.inner.Declared.{rule_for, with_arguments}
use Rattle.store_command_line.proofs.Folds.{folded_all, folded_on}
use Rattle.store_command_line.proofs.command.Subcommand.declared.Goals as goal

pub loop-argument-preserved : goal.loop-argument-preserved
unfolding with_arguments
loop-argument-preserved c = record {
  shape = folded_on with_arguments (λ app a. with_rule app (rule_for a)) (λ app a rest. refl)
      (app_of c.loop-argument.command) (app_of c.in_ok-command.command) _ c.args.self.now.arguments.now c.loop-argument.argument-index _ c.loop-argument-test.true
      (c.in_ok-command.ensures.shape c.declared.ensures.local ∙ ap (with_rule (app_of c.loop-argument.command)) c.declared.ensures.rule)
      c.loop-argument.invariant.shape;
  local = search rules;
}

pub returns-clause-shape : goal.returns-clause-shape
unfolding with_arguments
returns-clause-shape c = folded_all with_arguments (λ app. refl) (app_of c.loop-argument.command) _ c.args.self.now.arguments.now c.loop-argument.argument-index (omega (arith, c.loop-argument-test.false)) c.loop-argument.invariant.shape
