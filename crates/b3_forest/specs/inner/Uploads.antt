-- Definitions for private functions, in addition to specs/Uploads.
use Rattle.std.specs.Prelude.{ℕ, List, Option, length}
use Rattle.store_upload.specs.Uploads.{ModelUpload}
use Rattle.store_upload.specs.Uploads as upload
use Rattle.b3_forest.specs.Parts.{HeldPart, Part}

-- ---- adding a part

-- the lowest offset of a part that others hold
abbrev pub overlap_at : Part → List HeldPart → Option ℕ
overlap_at p ps = upload.overlap_at length p.offset (length p.bytes) ps

-- how far the upload extends, if the part would end past its end, or would end it at another place
abbrev pub past_last : ModelUpload (List ℕ) → Part → Option ℕ
past_last u p = upload.past_last length u p.offset (length p.bytes)
