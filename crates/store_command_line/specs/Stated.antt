-- What the arguments of a command line mean to the program.
use Rattle.std.specs.Prelude.{◌≡◌, ◌≢◌, ℕ, Bool, true, false, Option, Some, None, Result, Ok, IfErr, IsSomeAnd, List, [], codes, map}
use Rattle.std.specs.Borrow.{Bor}
use Rattle.std.specs.Str.Parse.{IsNumeral, digits_value}
use Rattle.b3_check.specs.declared.report.Shown.{Shown}
use Rattle.b3_check.specs.declared.report.Shown.TheVariants.{All, AllButGood, Nothing}
use Rattle.clap.specs.Words.{Row, Text, all_of, first_of, one_of}
use Rattle.hex.specs.Hex.{decode_sized}
use Rattle.store_command_line.specs.CommandLine.{AsksVersion, MayAskVersion, default_sessions, default_part_chunks, default_workers}
use Rattle.store_command_line.specs.declared.said.AskedMode.{AskedMode}
use Rattle.store_command_line.specs.declared.said.AskedMode.TheVariants.{Hash, Keyed, KeyFile, Derive}
use Rattle.store_command_line.specs.declared.said.AskedUpload.{AskedUpload}
use Rattle.store_command_line.specs.declared.said.CheckOptions.{CheckOptions}
use Rattle.store_command_line.specs.declared.said.DoorOptions.{DoorOptions}
use Rattle.store_command_line.specs.declared.said.Fault.{Fault}
use Rattle.store_command_line.specs.declared.said.Fault.TheVariants.{NoMemory, Usage, Version}
use Rattle.store_command_line.specs.declared.said.Input.{Input}
use Rattle.store_command_line.specs.declared.said.Input.TheVariants as inputs
use Rattle.store_command_line.specs.declared.said.LogOptions.{LogOptions}
use Rattle.store_command_line.specs.declared.said.Options.{Options}
use Rattle.store_command_line.specs.declared.said.Options.TheVariants.{Sum, Run, Serve, Upload, Check, Audit, Migrate}
use Rattle.store_command_line.specs.declared.said.ServeOptions.{ServeOptions}
use Rattle.store_command_line.specs.declared.said.SumInputs.{SumInputs}
use Rattle.store_command_line.specs.declared.said.SumInputs.TheVariants.{Standard, Named, Listed}
use Rattle.store_command_line.specs.declared.said.SumOptions.{SumOptions}

-- a text is decimal digits, at least one and without a sign, that represent the number
abbrev pub IsNumber : Text → ℕ → Type 0
IsNumber t n = IsNumeral 10 t × (digits_value 10 t ≡ n)

-- the number in an argument's text, if the argument is given
abbrev pub SaysNumber : Option Text → Option ℕ → Type 0
SaysNumber None None = Unit {0}
SaysNumber (Some t) (Some n) = IsNumber t n
SaysNumber None (Some n) = ⊥
SaysNumber (Some t) None = ⊥

-- the number in an argument's text, or a default if the argument is not given
abbrev pub SpellsOr : ℕ → Option Text → ℕ → Type 0
SpellsOr other None n = n ≡ other
SpellsOr other (Some t) n = IsNumber t n

-- whether a flag is given, from the text that clap keeps for it
abbrev pub SaysFlag : Option Text → Bool → Type 0
SaysFlag None given = given ≡ false
SaysFlag (Some t) given = (t ≡ codes "true" → given ≡ true) × (t ≡ codes "false" → given ≡ false)

-- the mode, from the texts of `--key`, `--key-file` and `--context`, of which at most one is given
abbrev pub SaysMode : AskedMode → Option Text → Option Text → Option Text → Type 0
SaysMode Hash key file context = (key ≡ None) × (file ≡ None) × (context ≡ None)
SaysMode (Keyed k) key file context = IsSomeAnd key (λ t. decode_sized t 32 ≡ Ok k) × (file ≡ None) × (context ≡ None)
SaysMode (KeyFile path) key file context = (key ≡ None) × (file ≡ Some path.now) × (context ≡ None)
SaysMode (Derive c) key file context = (key ≡ None) × (file ≡ None) × (context ≡ Some c.now)

-- an input, from the text that names it
abbrev pub NamesInput : Input → Text → Type 0
NamesInput inputs.Standard t = t ≡ codes "-"
NamesInput (inputs.File path) t = (t ≡ path.now) × (t ≢ codes "-")

-- the paths of lists, from the positional arguments
abbrev pub SaysLists : List (Bor Text) → Option (List Text) → Type 0
SaysLists lists None = lists ≡ []
SaysLists lists (Some ts) = ts ≡ map (λ list. list.now) lists

-- the name in the check line, from the text of `--name`
abbrev pub SaysName : Text → Option Text → Type 0
SaysName name None = name ≡ codes "-"
SaysName name (Some t) = name ≡ t

-- the inputs to hash, from the positional arguments and the texts of `--name`, `--files-from` and `--null`: standard input, or the named
-- files, or those of the list
abbrev pub SaysInputs : SumInputs → Option (List Text) → Option Text → Option Text → Option Text → Type 0
SaysInputs (Standard name) files said list null = SaysName name.now said × (files ≡ None) × (list ≡ None)
SaysInputs (Named names) files said list null = (files ≡ Some (map (λ name. name.now) names.items)) × (said ≡ None) × (list ≡ None)
SaysInputs (Listed names) files said list null = IsSomeAnd list (NamesInput names.list) × SaysFlag null names.has_nuls × (files ≡ None) × (said ≡ None)

pub record SaysSum (o : SumOptions) (rows : List Row) : Type 0 where
  pub inputs : SaysInputs o.inputs (all_of (codes "file") rows) (first_of (codes "name") rows) (first_of (codes "files-from") rows) (one_of (codes "null") rows)
  pub mode : SaysMode o.mode (first_of (codes "key") rows) (first_of (codes "key-file") rows) (first_of (codes "context") rows)
  pub length : SaysNumber (first_of (codes "length") rows) o.length
  pub threads : SaysNumber (first_of (codes "threads") rows) o.threads
  pub no_progress : SaysFlag (one_of (codes "no-progress") rows) o.no_progress

pub record SaysUpload (asked : AskedUpload) (rows : List Row) : Type 0 where
  pub workers : SpellsOr default_workers (first_of (codes "workers") rows) asked.workers
  pub part_chunks : SpellsOr default_part_chunks (first_of (codes "part-chunks") rows) asked.part_chunks
  pub journal : SaysFlag (one_of (codes "journal") rows) asked.journal
  pub no_progress : SaysFlag (one_of (codes "no-progress") rows) asked.no_progress

-- how clients connect, from the texts of `--at`, of `--sessions`, which is given only with it, and of `--keep-uploads`, which says nothing
-- without it
abbrev pub SaysDoor : Option DoorOptions → Option Text → Option Text → Option Text → Type 0
SaysDoor None at sessions keep = (at ≡ None) × (sessions ≡ None)
SaysDoor (Some door) at sessions keep = (at ≡ Some door.path.now) × SpellsOr default_sessions sessions door.sessions × SaysFlag keep door.keep_uploads

-- the path of a log and whether its last line may be truncated, and nothing without a path
abbrev pub SaysLog : Option LogOptions → Option Text → Option Text → Type 0
SaysLog None load torn = load ≡ None
SaysLog (Some log) load torn = (load ≡ Some log.path.now) × SaysFlag torn log.torn

abbrev pub SaysServe : ServeOptions → List Row → Type 0
SaysServe o rows = SaysLog o.log (first_of (codes "load") rows) (one_of (codes "torn") rows) × SaysDoor o.door (first_of (codes "at") rows) (first_of (codes "sessions") rows) (one_of (codes "keep-uploads") rows)

-- which lines of a report are written, from `--quiet` and `--status`; `--status` takes precedence
abbrev pub shown_by : Bool → Bool → Shown
shown_by quiet true = Nothing
shown_by true false = AllButGood
shown_by false false = All

pub record SaysShown (shown : Shown) (quiet status : Option Text) : Type 0 where
  pub is_quiet : Bool
  pub is_status : Bool
  pub says_quiet : SaysFlag quiet is_quiet
  pub says_status : SaysFlag status is_status
  pub by : shown ≡ shown_by is_quiet is_status

pub record SaysCheck (o : CheckOptions) (rows : List Row) : Type 0 where
  pub lists : SaysLists o.lists.items (all_of (codes "list") rows)
  pub shown : SaysShown o.report.shown (one_of (codes "quiet") rows) (one_of (codes "status") rows)
  pub ignores_missing : SaysFlag (one_of (codes "ignore-missing") rows) o.report.ignores_missing
  pub threads : SaysNumber (first_of (codes "threads") rows) o.threads
  pub no_progress : SaysFlag (one_of (codes "no-progress") rows) o.no_progress

-- the subcommand that was given, and its rows, mean these options
abbrev pub Says : Options → Option (Text × List Row) → Type 0
Says (Sum o) found = (rows : List Row) × (found ≡ Some (codes "sum", rows)) × SaysSum o rows
Says Run found = (rows : List Row) × (found ≡ Some (codes "run", rows))
Says (Serve o) found = (rows : List Row) × (found ≡ Some (codes "serve", rows)) × SaysServe o rows
Says (Upload o) found = (rows : List Row) × (found ≡ Some (codes "upload", rows)) × SaysUpload o rows
Says (Check o) found = (rows : List Row) × (found ≡ Some (codes "check", rows)) × SaysCheck o rows
Says Audit found = (rows : List Row) × (found ≡ Some (codes "audit", rows))
Says Migrate found = (rows : List Row) × (found ≡ Some (codes "migrate", rows))

-- if there are no options, the reason is a lack of memory
abbrev pub IsNotUsage : {T : Type 0} → Result T Fault → Type 0
IsNotUsage r = IfErr r (λ fault. fault ≡ NoMemory)

-- the possible fault of arguments: not a version unless clap may find that it is asked for, and not usage if it finds only that
abbrev pub IsFaultAt : List Text → Fault → Type 0
IsFaultAt words (Version t) = MayAskVersion words
IsFaultAt words (Usage t) = AsksVersion words → ⊥
IsFaultAt words NoMemory = Unit {0}
