-- The result of an upload.
use Rattle.std.specs.Prelude.{◌≡◌, ℕ, ◌+◌, ◌<◌, IfErr, IfOk, None, OnErr, OnOk, Result, Err, length}
use Rattle.std.specs.Arc.{arc_value}
use Rattle.b3_core.specs.Modes.{hash_of}
use Rattle.store_core.specs.declared.store.Sealed.{Sealed}
use Rattle.store_ledger.specs.declared.amounts.ShareAmounts.{ShareAmounts}
use Rattle.store_shared.specs.Cuts.{IsBadCut, RoseBySome, cut_of}
use Rattle.store_shared.specs.Gates.{GateRule, MayStop}
use Rattle.store_shared.specs.Uploading.{ModelCut}
use Rattle.store_shared.specs.declared.fault.UploadFault.{UploadFault}
use Rattle.store_shared.specs.declared.fault.UploadFaultKind.TheVariants.{BadCut, GateFault, Stopped}

-- The result of an upload by `workers` workers, in a store that allows `most`, and how its share grew; `rule` is its gate's.
pub record IsAnswered (rule : GateRule) (c : ModelCut) (workers most : ℕ) (old new : ShareAmounts) (result : Result Sealed UploadFault) : Type 0 where
  -- a share has the parts of its book that it had
  pub parts : new.parts ≡ old.parts
  -- the address is the hash of the bytes, and the object has bytes of that hash
  pub ok : IfOk result (λ sealed. (sealed.address ≡ hash_of c.bytes) × (hash_of (arc_value sealed.object) ≡ hash_of c.bytes))
  -- each part has passed the gate
  pub passed : OnOk result ((k : ℕ) → k < length (cut_of c.bytes c.part_chunks) → rule.has_passed k)
  -- the share grew by all bytes, and by as many calls as there are parts
  pub share : OnOk result (new ≡ record { parts = old.parts; bytes = old.bytes + length c.bytes; calls = old.calls + length (cut_of c.bytes c.part_chunks) })
  -- it grew by some of the parts, each at most once
  pub fault : OnErr result (RoseBySome c.bytes c.part_chunks old new)
  -- U2 is returned if and only if the numbers of chunks or workers are out of range
  pub bad_cut : IsBadCut c.part_chunks workers most → (result ≡ Err (record { kind = BadCut; left = None })) × (new ≡ old)
  pub good_cut : IfErr result (λ f. f.kind ≡ BadCut → IsBadCut c.part_chunks workers most)
  -- U3 and U4 are returned only if the gate may return so for one of the parts
  pub stopped : IfErr result (λ f. f.kind ≡ Stopped → MayStop rule (length (cut_of c.bytes c.part_chunks)))
  pub gate_fault : IfErr result (λ f. (part code : ℕ) → f.kind ≡ GateFault part code → (part < length (cut_of c.bytes c.part_chunks)) × rule.may_fault part code)
