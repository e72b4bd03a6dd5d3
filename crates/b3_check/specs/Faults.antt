-- The codes of faults, and their sentences.
use Rattle.std.specs.Prelude.{ℕ, List, ◌++◌, codes}
use Rattle.b3_check.specs.declared.fault.Fault.{Fault}
use Rattle.b3_check.specs.declared.fault.Fault.TheVariants.{BadEscape, BadHex, BadSpaces, EmptyName, NulInName, Short, Tagged}
use Rattle.b3_check.specs.declared.fault.ReadError.{ReadError}
use Rattle.b3_check.specs.declared.fault.ReadError.TheVariants as errors
use Rattle.b3_check.specs.declared.names.NameFault.{NameFault}
use Rattle.b3_check.specs.declared.names.NameFault.TheVariants as name_faults

-- the code of a fault
abbrev pub code_of : Fault → List ℕ
code_of Tagged = codes "C1"
code_of Short = codes "C2"
code_of BadHex = codes "C3"
code_of BadSpaces = codes "C4"
code_of EmptyName = codes "C5"
code_of BadEscape = codes "C6"
code_of NulInName = codes "C7"

-- what is wrong with a line or a name
unfoldable pub reason_of : Fault → List ℕ
reason_of Tagged = codes "the line has the tagged form"
reason_of Short = codes "the line is too short for digits and two spaces"
reason_of BadHex = codes "the first 64 bytes are not all hexadecimal digits"
reason_of BadSpaces = codes "no two spaces follow the digits"
reason_of EmptyName = codes "the name is empty"
reason_of BadEscape = codes "a backslash in the name begins no escape"
reason_of NulInName = codes "the name holds a byte 0"

-- a fault's sentence: its code, and what is wrong
abbrev pub sentence_of : Fault → List ℕ
sentence_of fault = code_of fault ++ (codes ": " ++ reason_of fault)

-- the text of a failed read
abbrev pub error_text : ReadError → List ℕ
error_text (errors.Fault fault) = sentence_of fault
error_text errors.NoMemory = codes "out of memory"

-- the text for a name without a digest
abbrev pub name_fault_text : NameFault → List ℕ
name_fault_text name_faults.Unreadable = codes "unreadable"
name_fault_text name_faults.NoMemory = codes "out of memory"
