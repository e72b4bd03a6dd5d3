use Rattle.std.proofs.Common.{vec_capacity}
use Rattle.store_lines.proofs.Lines.{line_read}
use Rattle.store_lines.proofs.serving.next_line.Goals as goal

pub returns-clause-read : goal.returns-clause-read
returns-clause-read g c = line_read c.read_line.result (g.R.Read.remaining c.args.reader.now) (vec_capacity c.args.line.now) c.read_line.new.line.items c.requires c.read_line.ensures.read
