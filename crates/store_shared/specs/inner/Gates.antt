-- Definitions for private functions, in addition to specs/Gates.
use Rattle.std.specs.Prelude.{ℕ, ◌<◌}
use Rattle.store_shared.specs.declared.gate.GateStop.{GateStop}
use Rattle.store_shared.specs.declared.gate.GateStop.TheVariants.{Stop, Fault}
use Rattle.store_shared.specs.declared.fault.UploadFaultKind.{UploadFaultKind}
use Rattle.store_shared.specs.declared.fault.UploadFaultKind.TheVariants.{BadCut, GateFault, NoMemory, Refused, Stopped, StrangePart}
use Rattle.store_shared.specs.Gates.{GateRule, MayStop}

-- a fault of an upload of n parts, after it was begun
abbrev pub IsFaultOf : GateRule → ℕ → UploadFaultKind → Type 0
IsFaultOf rule n BadCut = ⊥
IsFaultOf rule n Stopped = MayStop rule n
IsFaultOf rule n (GateFault part code) = (part < n) × rule.may_fault part code
IsFaultOf rule n (Refused refusal) = Unit {0}
IsFaultOf rule n NoMemory = Unit {0}
IsFaultOf rule n StrangePart = Unit {0}

-- the fault for a gate's result for a part
abbrev pub fault_for : ℕ → GateStop → UploadFaultKind
fault_for part Stop = Stopped
fault_for part (Fault code) = GateFault part code
