use Rattle.b3_core.proofs.EachLane.{parted_lanes}
use Rattle.b3_core.proofs.wide.lanes.parted.Goals as goal

pub returns-clause-front : goal.returns-clause-front
returns-clause-front c = (parted_lanes c.args.left c.fits-left.0 c.args.right c.fits-right.0).0

pub returns-clause-back : goal.returns-clause-back
returns-clause-back c = (parted_lanes c.args.left c.fits-left.0 c.args.right c.fits-right.0).1
