-- What a thread of these tests takes with it.
use denote.RattleType.{RattleType}
use denote.Param.Send.{IsSend, IsSync, sendable}
use Rattle.std.proofs.Crossing as heap
use Rattle.b3_core.proofs.work.Work.TheSendSync.{the_send as work_send}
use Rattle.b3_forest.proofs.prepared.Prepared.TheSendSync.{the_send as part_send}
use Rattle.store_ledger.proofs.share.Share.TheSendSync.{the_send as share_send}
use Rattle.store_ledger.specs.declared.ledgers.Ledgers.{Ghosts}
use Rattle.store_shared.proofs.Crossing.{crosses}
use Rattle.store_shared.specs.contracts.locked.Locked as Locked
use Rattle.store_shared.specs.contracts.shared.SharedOf as SharedOf

pub shared_sync : (L : RattleType) (g : Ghosts L.Denot) → IsSend L → IsSync L → IsSync (SharedOf.the_row (Locked.the_row L g))
shared_sync L g s y = search crosses depth 100 fits 1000000

pub ruleset starts = (sendable, heap.send, heap.sync, share_send, part_send, work_send, shared_sync)
