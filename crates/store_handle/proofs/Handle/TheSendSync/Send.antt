-- A handle may go to another thread, since what it owns names no thread.
use mir.Raw.{raw}
use base.Shift.{Keyless}
use denote.Memory.{lone}
use denote.Builtin.{RawPtr}
use denote.Param.Send.{IsSend, owning_send, struct_send, sendable}
use denote.RawPtr.{Ptr}
use denote.Struct.Struct.{exits_of}
use denote.Struct.Owning.{shape, fields, to}
use Rattle.std.specs.Prelude.{Option, Some, None}
use Rattle.std.proofs.Crossing.{frees}
use Rattle.std_alloc.proofs.SendSync.{quiet, lies}
use Rattle.store_handle.specs.Owned.{handle_owns, heap}
use Rattle.store_handle.specs.contracts.Kept as kept
use Rattle.store_handle.proofs.Kept.TheSendSync.{the_send}
use Rattle.store_handle.specs.contracts.Handle.{the_row, the_type}

keyless : (p : Ptr) (v : Option kept.the_row.Denot) → Keyless (handle_owns kept.the_row p v)
keyless p None = tt
keyless p (Some x) = (lies kept.the_row the_send p x, frees.frees heap (raw (lone kept.the_row.mir)) p)

pub send : IsSend the_row
send = let O = the_type in let ps : IsSend RawPtr = search sendable in
    owning_send O (ps, tt) (λ d. keyless d.at d.kept) (λ k. quiet (to O) (exits_of k (fields O)) ((struct_send (shape O) (ps, tt)).leaving k))
