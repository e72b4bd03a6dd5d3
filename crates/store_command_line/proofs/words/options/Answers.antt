use Rattle.std.proofs.Common.{ap, map, subst, sym}
use Rattle.std.specs.Prelude.{IfOk}
use Rattle.clap.specs.Words.{is_simple}
use Rattle.store_command_line.specs.Stated.{Says}
use Rattle.store_command_line.proofs.Found.{entered_by, memory, on_ok, taken, reported_at, reported_by}
use Rattle.store_command_line.proofs.words.options.Goals as goal

pub returns-in-Err-clause-only : goal.returns-in-Err-clause-only
returns-in-Err-clause-only g c = λ o is says range. c.fault_of.ensures.memory (memory _ (map g.S.AsStr.text c.args.words.now) c.in-Err.error c.in_ok-program.ensures.shape c.in-Err.ensures.kinds is)

pub returns-clause-says : goal.returns-clause-says
returns-clause-says g c =
    let shape = c.in_ok-program.ensures.shape in
    let is = entered_by _ (map g.S.AsStr.text c.args.words.now) c.in-Ok.matches shape (c.in-Ok.ensures.matches (ap is_simple shape)).1 in
    subst (λ found. IfOk c.options_of.result (λ o. Says o found)) is c.options_of.ensures.says

pub returns-clause-taken : goal.returns-clause-taken
returns-clause-taken g c = on_ok c.options_of.result _ (taken _ (map g.S.AsStr.text c.args.words.now) c.in_ok-program.ensures.shape c.in-Ok.ensures.kinds)

pub returns-clause-only : goal.returns-clause-only
returns-clause-only g c =
    let shape = c.in_ok-program.ensures.shape in
    let is = entered_by _ (map g.S.AsStr.text c.args.words.now) c.in-Ok.matches shape (c.in-Ok.ensures.matches (ap is_simple shape)).1 in
    λ o good says range. c.options_of.ensures.only o (subst (Says o) (sym is) says) range

pub returns-in-Err-clause-version : goal.returns-in-Err-clause-version
returns-in-Err-clause-version g c = reported_at _ (map g.S.AsStr.text c.args.words.now) c.in-Err.error c.fault_of.result c.in_ok-program.ensures.shape c.in-Err.ensures.kinds c.fault_of.ensures.memory c.fault_of.ensures.version

pub returns-clause-version : goal.returns-clause-version
returns-clause-version g c =
    reported_by c.options_of.result (map g.S.AsStr.text c.args.words.now) (taken _ (map g.S.AsStr.text c.args.words.now) c.in_ok-program.ensures.shape c.in-Ok.ensures.kinds) c.options_of.ensures.no_version
