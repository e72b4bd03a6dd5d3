-- The parts of an upload: as they are passed to it, and as it holds them.
use Rattle.std.specs.Prelude.{ℕ, ◌-◌, ◌*◌, ◌&&◌, nat_lt, nat_le, true, false, List, [], ◌∷◌, length, take, drop}
use Rattle.b3_core.specs.Tree.{chunk_len}
use Rattle.store_upload.specs.Uploads.{UploadPlan, end_of}

-- bytes and their offset in the upload
pub record Part : Type 0 where
  pub offset : ℕ
  pub bytes : List ℕ

-- a part and the plan that it was made for
pub record ModelPrepared : Type 0 where
  pub plan : UploadPlan
  pub part : Part

-- bytes at an offset, for an upload with that plan
abbrev pub planned : UploadPlan → ℕ → List ℕ → ModelPrepared
planned plan offset bytes = record { plan = plan; part = record { offset = offset; bytes = bytes } }

-- a part as an upload holds it: its offset and its bytes
abbrev pub HeldPart : Type 0
HeldPart = ℕ × List ℕ

abbrev pub held_as : Part → HeldPart
held_as p = (p.offset, p.bytes)

-- the bytes of chunk i if the parts hold it, otherwise none
unfoldable pub chunk_in : List HeldPart → ℕ → List ℕ
chunk_in [] i = []
chunk_in (p ∷ ps) i = elim (nat_le p.0 (chunk_len * i) && nat_lt (chunk_len * i) (end_of length p)) [
  | true ↦ take chunk_len (drop (chunk_len * i - p.0) p.1)
  | false ↦ chunk_in ps i
]

-- the chunks of one part
abbrev pub chunks_of : Part → ℕ → List ℕ
chunks_of p = chunk_in (held_as p ∷ [])
