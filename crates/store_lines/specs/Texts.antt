-- The texts of answers: refusals, the journal's entries, and what commands reply. Each line has its newline.
use Rattle.std.specs.Prelude.{ℕ, List, ◌++◌, Option, Some, None, length, codes}
use Rattle.std.specs.Fmt.{decimal}
use Rattle.store_upload.specs.declared.refusal.PartFault.{PartFault}
use Rattle.store_upload.specs.declared.refusal.PartFault.TheVariants as faults
use Rattle.hex.specs.Hex.{encode_lower}
use Rattle.store_journal.specs.declared.entry.Entry.{Entry}
use Rattle.store_books.specs.declared.refusal.Refusal.TheVariants as refusals
use Rattle.store_core.specs.Commands.{ModelSealed}
use Rattle.store_lines.specs.declared.bad_lines.LineFault.{LineFault}
use Rattle.store_lines.specs.declared.bad_lines.LineFault.TheVariants as line_faults
use Rattle.store_books.specs.Refusals.{refusal_text}
use Rattle.store_upload.specs.Texts.{part_fault_text}
use Rattle.store_journal.specs.Entries.{filing_word}
use Rattle.store_journal.specs.Journal.{entry_lines}

-- a line of a word, which includes its space, and a number
abbrev pub numbered : List ℕ → ℕ → List ℕ
numbered word number = word ++ (decimal number ++ codes "\n")

-- the number of bytes that an upload holds, and its lowest offset that is not held
abbrev pub held_text : ℕ → Option ℕ → List ℕ
held_text held None = codes "held " ++ (decimal held ++ codes " all\n")
held_text held (Some offset) = codes "held " ++ (decimal held ++ (codes " missing " ++ (decimal offset ++ codes "\n")))

-- whether the object is new, its address and its length
abbrev pub sealed_text : ModelSealed → List ℕ
sealed_text s = filing_word s.new ++ (codes " " ++ (encode_lower s.address ++ (codes " " ++ (decimal (length s.bytes) ++ codes "\n"))))

-- the number of entries, and the line of each
abbrev pub entries_text : List Entry → List ℕ
entries_text entries = numbered (codes "journal ") (length entries) ++ entry_lines entries

-- ---- refusals

-- the code of a fault in a part; running out of memory has the store's code
abbrev pub unmade_text : PartFault → List ℕ
unmade_text faults.NoMemory = refusal_text refusals.NoMemory
unmade_text faults.EmptyPart = part_fault_text faults.EmptyPart
unmade_text faults.OffAlign = part_fault_text faults.OffAlign
unmade_text faults.PastEnd = part_fault_text faults.PastEnd
unmade_text faults.Ragged = part_fault_text faults.Ragged
unmade_text faults.PartTooLong = part_fault_text faults.PartTooLong

abbrev pub refused_text : List ℕ → List ℕ
refused_text name = codes "refused " ++ (name ++ codes "\n")

-- why a line is outside the grammar
abbrev pub line_fault_text : LineFault → List ℕ
line_fault_text line_faults.UnknownCommand = codes "unknown command"
line_fault_text line_faults.BadFields = codes "a field is missing, wrong or extra"
