use denote.Param.Send.{sendable}
use Rattle.std.proofs.Crossing as heap
use Rattle.store_ledger.proofs.share.Share.TheSendSync.{the_send as share_send}
use Rattle.upload_tests.proofs.Crossing.{shared_sync}
use Rattle.upload_tests.proofs.uploading.Cut.TheSendSync.{the_send as cut_send}
use Rattle.upload_tests.proofs.uploading.side_by_side.Goals as goal

ruleset takes = (cut_send, sendable, heap.send, share_send, shared_sync)

pub join-requires-send-F : goal.join-requires-send-F
join-requires-send-F g c κs within = search takes depth 100 fits 1000000
