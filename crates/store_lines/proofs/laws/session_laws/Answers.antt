use Rattle.store_lines.proofs.Alone.{are_run}
use Rattle.store_lines.proofs.Begun.{own_were_begun}
use Rattle.store_lines.proofs.Frames.{frames}
use Rattle.store_lines.proofs.laws.session_laws.Goals as goal

pub returns-clause-frames : goal.returns-clause-frames
returns-clause-frames g c = frames g.A.Access.reach

pub returns-clause-own : goal.returns-clause-own
returns-clause-own g c = own_were_begun

pub returns-clause-run : goal.returns-clause-run
returns-clause-run g c = are_run
