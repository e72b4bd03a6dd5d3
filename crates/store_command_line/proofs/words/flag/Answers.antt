use Rattle.std.proofs.Common.{Option, subst}
use Rattle.clap.specs.Words.{Text, found_of}
use Rattle.clap.proofs.WalkLemmas.{one_text-rows}
use Rattle.store_command_line.specs.Stated.{SaysFlag}
use Rattle.store_command_line.proofs.Found.{says_flag}
use Rattle.store_command_line.proofs.words.flag.Goals as goal

pub returns : goal.returns
returns c = subst (λ (o : Option Text). SaysFlag o c.get_flag.result) (one_text-rows (found_of c.args.found.now) c.args.id.now)
    (says_flag _ c.get_flag.result c.get_flag.ensures.none c.get_flag.ensures.value c.get_flag.ensures.other)
