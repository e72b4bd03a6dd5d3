-- What holds for all options.
use Rattle.std.specs.Prelude.{◌≤◌, ℕ, All, IfSome, Option}
use Rattle.b3_check.specs.Names.{IsName}
use Rattle.store_upload.specs.Uploads.{max_part_chunks}
use Rattle.store_command_line.specs.CommandLine.{max_sessions, max_output_len, max_threads}
use Rattle.store_command_line.specs.declared.said.AskedUpload.{AskedUpload}
use Rattle.store_command_line.specs.declared.said.DoorOptions.{DoorOptions}
use Rattle.store_command_line.specs.declared.said.Options.{Options}
use Rattle.store_command_line.specs.declared.said.Options.TheVariants.{Sum, Run, Serve, Upload, Check, Audit, Migrate}
use Rattle.store_command_line.specs.declared.said.SumInputs.{SumInputs}
use Rattle.store_command_line.specs.declared.said.SumInputs.TheVariants.{Standard, Named, Listed}
use Rattle.store_command_line.specs.declared.said.SumOptions.{SumOptions}

-- from 1 to `most`
abbrev pub IsWithin : ℕ → ℕ → Type 0
IsWithin most n = (1 ≤ n) × (n ≤ most)

-- the number of workers, and of chunks of a part
abbrev pub AreWithin : AskedUpload → Type 0
AreWithin o = IsWithin max_threads o.workers × IsWithin max_part_chunks o.part_chunks

-- each name can be in a check line
abbrev pub AreNamed : SumInputs → Type 0
AreNamed (Standard name) = IsName name.now
AreNamed (Named names) = All (λ name. IsName name.now) names.items
AreNamed (Listed list) = Unit {0}

abbrev pub IsSumInRange : SumOptions → Type 0
IsSumInRange o = AreNamed o.inputs × IfSome o.length (IsWithin max_output_len) × IfSome o.threads (IsWithin max_threads)

-- the number of clients served at a time
abbrev pub IsDoorInRange : Option DoorOptions → Type 0
IsDoorInRange door = IfSome door (λ d. IsWithin max_sessions d.sessions)

-- names can be in a check line, and numbers are within their ranges
abbrev pub InRange : Options → Type 0
InRange (Sum o) = IsSumInRange o
InRange Run = Unit {0}
InRange (Serve o) = IsDoorInRange o.door
InRange (Upload asked) = AreWithin asked
InRange (Check o) = IfSome o.threads (IsWithin max_threads)
InRange Audit = Unit {0}
InRange Migrate = Unit {0}
