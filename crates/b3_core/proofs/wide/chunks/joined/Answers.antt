use Rattle.b3_core.proofs.EachLane.{joined_lanes}
use Rattle.b3_core.proofs.wide.chunks.joined.Goals as goal

pub returns-clause-front : goal.returns-clause-front
returns-clause-front c j h = (joined_lanes c.args.front c.fits-front.0 c.args.back c.fits-back.0 j h).0

pub returns-clause-back : goal.returns-clause-back
returns-clause-back c j h = (joined_lanes c.args.front c.fits-front.0 c.args.back c.fits-back.0 j h).1
