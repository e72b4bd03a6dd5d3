-- Uploads of bytes: the effect of adding a part, the content, and the compressions.
use Rattle.std.specs.Prelude.{ℕ, ◌+◌, ◌-◌, ◌*◌, if◌then◌else◌, List, [], ◌∷◌, ◌++◌, Option, Some, length}
use Rattle.std.specs.Arc.{arc_value}
use Rattle.std.specs.BTreeMap.{insert_entry}
use Rattle.std.specs.Ordering.{nat_cmp}
use Rattle.store_upload.specs.Uploads.{ModelUpload, place_fault, same_plan}
use Rattle.store_upload.specs.Uploads as upload
use Rattle.store_upload.specs.declared.refusal.AddFault.{AddFault}
use Rattle.store_upload.specs.declared.refusal.AddFault.TheVariants.{WrongPlan}
use Rattle.b3_forest.specs.Parts.{HeldPart, Part, ModelPrepared, chunk_in, chunks_of}
use Rattle.b3_forest.specs.Pieces.{piece_count}
use Rattle.b3_forest.specs.declared.segment.Segment.{Segment}

-- the part in a segment
abbrev pub part_of : Segment → HeldPart
part_of s = (s.offset, (arc_value s.bytes).items)

-- ---- adding a part

-- why a part is not added to an upload: it was made for another plan, or the upload does not accept it at its place
abbrev pub add_fault : ModelUpload (List ℕ) → ModelPrepared → Option AddFault
add_fault u p = if same_plan p.plan u.plan then place_fault length u p.part.offset (length p.part.bytes) else Some WrongPlan

-- a part among others
abbrev pub with_part : Part → List HeldPart → List HeldPart
with_part p ps = insert_entry nat_cmp ps p.offset p.bytes

-- the upload with the part
abbrev pub with_more : ModelUpload (List ℕ) → Part → ModelUpload (List ℕ)
with_more u p = upload.with_more length u p.offset p.bytes

-- ---- the content

-- the bytes of parts, joined by offset
unfoldable pub content_of : List HeldPart → List ℕ
content_of [] = []
content_of (p ∷ ps) = p.1 ++ content_of ps

-- ---- pieces, and compressions

-- the number of pieces of the chunks that parts hold
abbrev pub pieces_held : List HeldPart → ℕ
pieces_held ps = piece_count (chunk_in ps)

-- the number of merges when a part is added: the pieces before and those of the part, minus the pieces after
abbrev pub merges_of : List HeldPart → Part → ℕ
merges_of ps p = pieces_held ps + piece_count (chunks_of p) - pieces_held (with_part p ps)

-- the compressions when a part is added: two for each merge
abbrev pub put_work : List HeldPart → Part → ℕ
put_work ps p = 2 * merges_of ps p

-- the compressions from the pieces to the top: two for each piece after the first
abbrev pub finish_work : List HeldPart → ℕ
finish_work ps = 2 * (pieces_held ps - 1)
