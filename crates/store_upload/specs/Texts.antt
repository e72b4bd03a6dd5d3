-- The texts of refusals: the code of each, and its text, which is the code with its data.
use Rattle.std.specs.Prelude.{ℕ, List, ◌++◌, codes}
use Rattle.std.specs.Fmt.{decimal}
use Rattle.store_upload.specs.declared.refusal.PartFault.{PartFault}
use Rattle.store_upload.specs.declared.refusal.PartFault.TheVariants as part
use Rattle.store_upload.specs.declared.refusal.AddFault.{AddFault}
use Rattle.store_upload.specs.declared.refusal.AddFault.TheVariants.{WrongPlan, Overlap, PastLast, NoMemory}
use Rattle.store_upload.specs.declared.refusal.FixFault.{FixFault}
use Rattle.store_upload.specs.declared.refusal.FixFault.TheVariants as fix
use Rattle.store_upload.specs.declared.refusal.FinishFault.{FinishFault}
use Rattle.store_upload.specs.declared.refusal.FinishFault.TheVariants as finish

abbrev pub too_long_text : List ℕ
too_long_text = codes "F1"

abbrev pub part_fault_text : PartFault → List ℕ
part_fault_text part.EmptyPart = codes "F2"
part_fault_text part.OffAlign = codes "F3"
part_fault_text part.PastEnd = codes "F4"
part_fault_text part.Ragged = codes "F5"
part_fault_text part.PartTooLong = codes "F6"
part_fault_text part.NoMemory = codes "F9"

abbrev pub add_fault_code : AddFault → List ℕ
add_fault_code WrongPlan = codes "F7"
add_fault_code (Overlap at) = codes "F8"
add_fault_code (PastLast end) = codes "F12"
add_fault_code NoMemory = codes "F9"

abbrev pub add_fault_text : AddFault → List ℕ
add_fault_text WrongPlan = codes "F7"
add_fault_text (Overlap at) = codes "F8 at " ++ decimal at
add_fault_text (PastLast end) = codes "F12 end " ++ decimal end
add_fault_text NoMemory = codes "F9"

abbrev pub fix_fault_code : FixFault → List ℕ
fix_fault_code fix.TooLong = codes "F1"
fix_fault_code (fix.PastLast end) = codes "F12"

abbrev pub fix_fault_text : FixFault → List ℕ
fix_fault_text fix.TooLong = codes "F1"
fix_fault_text (fix.PastLast end) = codes "F12 end " ++ decimal end

abbrev pub incomplete_code : List ℕ
incomplete_code = codes "F10"

abbrev pub incomplete_text : ℕ → List ℕ
incomplete_text missing = codes "F10 missing " ++ decimal missing

abbrev pub finish_fault_code : FinishFault → List ℕ
finish_fault_code finish.NotFixed = codes "F13"
finish_fault_code (finish.Incomplete missing) = incomplete_code

abbrev pub finish_fault_text : FinishFault → List ℕ
finish_fault_text finish.NotFixed = codes "F13"
finish_fault_text (finish.Incomplete missing) = incomplete_text missing
