-- The faults that private functions may return.
use Rattle.std.specs.Prelude.{◌≡◌, ◌≢◌}
use Rattle.clap.specs.declared.error.kind.ErrorKind.{ErrorKind}
use Rattle.clap.specs.declared.error.kind.ErrorKind.TheVariants.{DisplayVersion}
use Rattle.store_command_line.specs.declared.said.Fault.{Fault}
use Rattle.store_command_line.specs.declared.said.Fault.TheVariants.{NoMemory, Usage, Version}

-- the fault is not the version
abbrev pub IsNoVersion : Fault → Type 0
IsNoVersion (Version t) = ⊥
IsNoVersion (Usage t) = Unit {0}
IsNoVersion NoMemory = Unit {0}

-- the fault is not usage
abbrev pub IsNoUsage : Fault → Type 0
IsNoUsage (Version t) = Unit {0}
IsNoUsage (Usage t) = ⊥
IsNoUsage NoMemory = Unit {0}

-- the fault for an error of clap: the version if and only if the error is that it is asked for
abbrev pub ReportsKind : ErrorKind → Fault → Type 0
ReportsKind kind (Version t) = kind ≡ DisplayVersion
ReportsKind kind (Usage t) = kind ≢ DisplayVersion
ReportsKind kind NoMemory = Unit {0}
