use Rattle.b3store.proofs.Crossing.{starts}
use Rattle.b3store.proofs.sessions.start.Goals as goal

pub spawn-requires-send-F : goal.spawn-requires-send-F
spawn-requires-send-F g c κs within = search starts depth 100 fits 1000000
