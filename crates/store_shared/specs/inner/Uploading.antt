-- Definitions for private functions, in addition to specs/Uploading.
use Rattle.std.specs.Prelude.{◌≡◌, ℕ, ◌<◌, List, ◌++◌, Option, Some, None, Result, Ok, Err, IfNone, length, map, take}
use Rattle.b3_core.specs.Modes.{hash_of}
use Rattle.b3_forest.specs.Followed.{ModelFollow, IsNoted}
use Rattle.b3_forest.specs.Parts.{Part}
use Rattle.store_ledger.specs.Counts.{times}
use Rattle.store_board.specs.HandOverRule.{of_giver}
use Rattle.store_board.specs.declared.passes.Taken.{Taken}
use Rattle.store_ledger.specs.declared.amounts.ShareAmounts.{ShareAmounts}
use Rattle.store_shared.specs.Cuts.{AreSomeBelow, RoseBySome, cut_of, share_with, part_at, parts_at}
use Rattle.store_shared.specs.Gates.{GateRule}
use Rattle.store_shared.specs.inner.Gates.{IsFaultOf}
use Rattle.std.specs.Arc.{arc_value}
use Rattle.store_core.specs.declared.store.Sealed.{Sealed}
use Rattle.store_shared.specs.declared.fault.UploadFault.{UploadFault}
use Rattle.store_shared.specs.declared.fault.UploadFaultKind.{UploadFaultKind}
use Rattle.store_shared.specs.Uploading.{ModelCut, cut_count}

-- a part has the offset and the length of part k
pub record IsPlaceOf (c : ModelCut) (k : ℕ) (p : Part) : Type 0 where
  pub below : k < cut_count c
  pub offset : p.offset ≡ (part_at c.bytes c.part_chunks k).offset
  pub len : length p.bytes ≡ length (part_at c.bytes c.part_chunks k).bytes

-- these parts were noted, each once, and no others: whether a part was noted is determined by its first offset
pub record AreNoted (c : ModelCut) (f : ModelFollow) (ks : List ℕ) : Type 0 where
  pub bytes : f.bytes ≡ c.bytes
  pub some : AreSomeBelow (cut_count c) ks
  pub noted : (k : ℕ) → k < cut_count c → 0 < times k ks → IsNoted f (part_at c.bytes c.part_chunks k).offset
  pub only : (k : ℕ) → k < cut_count c → IsNoted f (part_at c.bytes c.part_chunks k).offset → 0 < times k ks

-- these are parts of the upload that were not noted, and noting them changes the follower from f to g
abbrev pub NotesMore : ModelCut → ModelFollow → ModelFollow → List Part → Type 0
NotesMore c f g ps = (ks : List ℕ) × (ps ≡ parts_at c.bytes c.part_chunks ks) × ((js : List ℕ) → AreNoted c f js → AreNoted c g (js ++ ks))

-- a share grew by a prefix of the parts
abbrev pub RoseByPrefix : List Part → ShareAmounts → ShareAmounts → Type 0
RoseByPrefix ps old new = (n : ℕ) × (new ≡ share_with old (take n ps))

-- the parts that were taken
abbrev pub parts_in : List Taken → List Part
parts_in taken = map (λ t. t.part.part) taken

-- if nothing failed, what was taken was noted, and the share grew by it; otherwise the share grew by some parts
abbrev pub IsCollecting : ModelCut → ShareAmounts → ModelFollow → ShareAmounts → List Part → Option UploadFaultKind → Type 0
IsCollecting c start f share taken None = (ks : List ℕ) × AreNoted c f ks × (share ≡ share_with start (parts_at c.bytes c.part_chunks ks)) × (taken ≡ parts_at c.bytes c.part_chunks ks)
IsCollecting c start f share taken (Some kind) = RoseBySome c.bytes c.part_chunks start share

-- the end of collecting: as before, with more parts taken, which are all that were given if nothing failed
pub record HasCollected (c : ModelCut) (start : ShareAmounts) (f : ModelFollow) (share : ShareAmounts) (fault : Option UploadFaultKind) (given : List Taken) : Type 0 where
  pub taken : List Taken
  pub collecting : IsCollecting c start f share (parts_in taken) fault
  pub all : IfNone fault ((g : ℕ) → of_giver g taken ≡ of_giver g given)

-- what is known when all workers have ended: the hash of all bytes, if all parts were put, or a fault
abbrev pub IsCollected : GateRule → ModelCut → ShareAmounts → ShareAmounts → Result (List ℕ) UploadFaultKind → Type 0
IsCollected rule c start share (Ok address) = (address ≡ hash_of c.bytes) × (share ≡ share_with start (cut_of c.bytes c.part_chunks))
IsCollected rule c start share (Err kind) = IsFaultOf rule (cut_count c) kind × RoseBySome c.bytes c.part_chunks start share

-- the result of an upload with valid numbers of chunks and workers
abbrev pub IsUploaded : GateRule → ModelCut → ShareAmounts → ShareAmounts → Result Sealed UploadFault → Type 0
IsUploaded rule c start share (Ok sealed) =
    (sealed.address ≡ hash_of c.bytes) × (hash_of (arc_value sealed.object) ≡ hash_of c.bytes) × (share ≡ share_with start (cut_of c.bytes c.part_chunks))
IsUploaded rule c start share (Err fault) = IsFaultOf rule (cut_count c) fault.kind × RoseBySome c.bytes c.part_chunks start share
