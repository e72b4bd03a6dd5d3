-- Rows worked by hand.
use Rattle.std.proofs.Common.{◌≡◌, ◌∷◌, [], codes, refl}
use Rattle.clap.specs.Faults.{fault_of, walk_fault}
use Rattle.clap.specs.Walk.{walked}
use Rattle.clap.specs.declared.error.kind.ErrorKind.TheVariants.{UnknownArgument}
use Rattle.store_command_line.specs.CommandLine.{AsksVersion, command_line}

asked : AsksVersion (codes "b3store" ∷ codes "--version" ∷ [])
unfolding AsksVersion walk_fault walked
asked = refl

no_option : fault_of command_line (codes "b3store" ∷ codes "sum" ∷ codes "--wrong" ∷ []) ≡ UnknownArgument ∷ []
unfolding walk_fault walked
no_option = refl
