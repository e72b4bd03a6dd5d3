-- What a thread of a session takes with it.
use denote.RattleType.{RattleType}
use denote.Param.Send.{IsSend, IsSync, sendable}
use Rattle.std.proofs.Crossing as heap
use Rattle.store_shared.specs.contracts.history.seats.Front as Front
use Rattle.store_ledger.proofs.share.Share.TheSendSync.{the_send as share_send}
use Rattle.store_ledger.specs.declared.ledgers.Ledgers.{Ghosts}
use Rattle.store_shared.proofs.Crossing.{crosses}
use Rattle.b3store.specs.contracts.sessions.Server as Server

pub front_send : (L : RattleType) (g : Ghosts L.Denot) → IsSend L → IsSync L → IsSend (Front.the_row L g)
front_send L g s y = search crosses depth 100 fits 1000000

pub server_send : (L : RattleType) (g : Ghosts L.Denot) → IsSend L → IsSync L → IsSend (Server.the_row L g)
server_send L g s y = search crosses depth 100 fits 1000000

pub server_sync : (L : RattleType) (g : Ghosts L.Denot) → IsSend L → IsSync L → IsSync (Server.the_row L g)
server_sync L g s y = search crosses depth 100 fits 1000000

pub ruleset starts = (sendable, heap.Arc-send, heap.send, heap.sync, share_send, front_send, server_send, server_sync)
