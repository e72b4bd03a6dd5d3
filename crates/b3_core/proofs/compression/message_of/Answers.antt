use Rattle.std.proofs.Common.{◌∙◌, arith, sym, refl}
use Rattle.b3_core.proofs.EachRow.{sixteen}
use Rattle.b3_core.proofs.compression.message_of.Goals as goal

pub returns : goal.returns
returns c = c.message.ensures 0 (omega arith) ∙ rw (sym (sixteen c.args.m.now (omega arith))) refl
