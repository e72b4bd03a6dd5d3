-- What may cross threads: `search crosses depth 100 fits 1000000` proves it of values that hold a front, a share, a part, or a loan of a shared
-- store. The prover's own search is too short for the seat of a history, whose calls have parts.
use denote.RattleType.{RattleType}
use denote.Param.Send.{IsSend, sendable}
use Rattle.std.proofs.Crossing as heap
use Rattle.std_heap.specs.contracts.Global as Heap
use Rattle.std_heap.specs.contracts.GlobalAllocator.TheImpl.{ghosts}
use Rattle.atomic_table.specs.contracts.send_lease.SendLease as Lease
use Rattle.atomic_table.proofs.send_lease.SendLease.TheSendSync.{the_send as lease_send}
use Rattle.atomic_table.proofs.shared.Seat.TheSendSync.{the_send as seat_send}
use Rattle.atomic_table.proofs.shared.Shared.TheSendSync.{the_send as table_send}
use Rattle.store_core.proofs.store.Store.TheSendSync.{the_send as store_send}
use Rattle.b3_core.proofs.work.Work.TheSendSync.{the_send as work_send}
use Rattle.b3_forest.proofs.prepared.Prepared.TheSendSync.{the_send as part_send}
use Rattle.store_ledger.proofs.share.Share.TheSendSync.{the_send as share_send}
use Rattle.store_ledger.proofs.book.Book.TheSendSync.{the_send as book_send}

pub lent_send : (T : RattleType) → IsSend (Lease.the_row T Heap.the_row ghosts)
lent_send T = lease_send T Heap.the_row ghosts heap.send heap.frees

pub ruleset crosses = (sendable, heap.crosses, seat_send, table_send, lent_send, heap.send, heap.sync, work_send, part_send, store_send, book_send, share_send)
