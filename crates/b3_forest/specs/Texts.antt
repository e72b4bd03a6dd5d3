-- The texts of refusals and the debug texts of types that hold bytes: numbers and sizes, but no bytes.
use Rattle.std.specs.Prelude.{ℕ, List, ◌++◌, codes, length}
use Rattle.std.specs.Fmt.{decimal}
use Rattle.store_upload.specs.Uploads.{ModelUpload, held_bytes, length_of}
use Rattle.b3_forest.specs.Parts.{HeldPart, Part}
use Rattle.b3_forest.specs.declared.refusal.NoteFault.{NoteFault}
use Rattle.b3_forest.specs.declared.refusal.NoteFault.TheVariants as note

-- ---- refusals: the code of each, and its text, which is the code with its data

abbrev pub note_fault_code : NoteFault → List ℕ
note_fault_code note.WrongPlan = codes "F7"
note_fault_code (note.Overlap at) = codes "F8"
note_fault_code note.Stranger = codes "F11"
note_fault_code note.NoMemory = codes "F9"

abbrev pub note_fault_text : NoteFault → List ℕ
note_fault_text note.WrongPlan = codes "F7"
note_fault_text (note.Overlap at) = codes "F8 at " ++ decimal at
note_fault_text note.Stranger = codes "F11"
note_fault_text note.NoMemory = codes "F9"

-- ---- types that hold bytes

-- the fields for a number of bytes at an offset
abbrev pub bytes_text : ℕ → ℕ → List ℕ
bytes_text offset len = codes " { offset: " ++ (decimal offset ++ (codes ", bytes: " ++ (decimal len ++ codes " }")))

-- a prepared part
abbrev pub prepared_text : Part → List ℕ
prepared_text p = codes "Prepared" ++ bytes_text p.offset (length p.bytes)

-- a part as an upload keeps it
abbrev pub segment_text : HeldPart → List ℕ
segment_text p = codes "Segment" ++ bytes_text p.0 (length p.1)

-- a forest: the numbers of bytes and parts that it holds, and its length
abbrev pub forest_text : ModelUpload (List ℕ) → List ℕ
forest_text u = codes "Forest { parts: " ++ (decimal (length u.parts) ++ (codes ", held: " ++ (decimal (held_bytes length u.parts) ++ (codes ", length: " ++ (decimal (length_of u) ++ codes " }")))))

-- a follower of borrowed bytes: their number
abbrev pub follow_text : ℕ → List ℕ
follow_text len = codes "Follow { bytes: " ++ (decimal len ++ codes " }")
