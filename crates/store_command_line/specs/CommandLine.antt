-- The command line as the program declares it to clap.
use Rattle.std.specs.Prelude.{◌≡◌, ◌∷◌, ℕ, List, [], Some, true, false, codes}
use Rattle.clap.specs.Words.{App, IsAmong, Rule, Shape, Text, fault_of, new_app, new_rule}
use Rattle.clap.specs.declared.builder.action.ArgAction.TheVariants.{Append, SetTrue}
use Rattle.clap.specs.declared.error.kind.ErrorKind.TheVariants.{DisplayVersion}

-- the maximum number of threads that hash an input, and of workers of an upload
abbrev pub max_threads : ℕ
max_threads = 16

-- the default number of workers of an upload, and of chunks of its parts
abbrev pub default_workers : ℕ
default_workers = 4

abbrev pub default_part_chunks : ℕ
default_part_chunks = 64

-- the maximum number of bytes of extended output that are written as digits
abbrev pub max_output_len : ℕ
max_output_len = 65536

-- the maximum number of clients served at a time, and its default
abbrev pub max_sessions : ℕ
max_sessions = 64

abbrev pub default_sessions : ℕ
default_sessions = 16

-- an option `--ID VALUE`
abbrev pub value_rule : Text → Rule
value_rule id = record (new_rule id) { long = Some id; value_names = 1 }

-- an option `--ID` without a value
abbrev pub flag_rule : Text → Rule
flag_rule id = record (new_rule id) { long = Some id; action = Some SetTrue }

-- a flag that also has a letter
abbrev pub short_flag_rule : Text → ℕ → Rule
short_flag_rule id letter = record (flag_rule id) { short = Some letter }

-- a positional argument, and any number of them
abbrev pub words_rule : Text → Rule
words_rule id = record (new_rule id) { value_names = 1; action = Some Append }

-- a subcommand with these arguments
abbrev pub taking : Text → List Rule → Shape
taking name arguments = record (new_app name).top { rules = arguments }

-- `sum [FILE].. [--name NAME] [--files-from LIST] [--null] [--key HEX64] [--key-file FILE] [--context TEXT] [--length N] [--threads T]
-- [--no-progress]`
abbrev pub sum_line : Shape
sum_line = taking (codes "sum") (words_rule (codes "file") ∷ value_rule (codes "name") ∷ value_rule (codes "files-from") ∷ short_flag_rule (codes "null") 48
    ∷ value_rule (codes "key") ∷ value_rule (codes "key-file") ∷ value_rule (codes "context") ∷ value_rule (codes "length") ∷ value_rule (codes "threads")
    ∷ flag_rule (codes "no-progress") ∷ [])

-- `serve [--at PATH] [--sessions N] [--keep-uploads] [--load FILE] [--torn]`
abbrev pub serve_line : Shape
serve_line = taking (codes "serve") (value_rule (codes "at") ∷ value_rule (codes "sessions") ∷ flag_rule (codes "keep-uploads") ∷ value_rule (codes "load") ∷ flag_rule (codes "torn") ∷ [])

-- `upload [--workers W] [--part-chunks P] [--journal] [--no-progress]`
abbrev pub upload_line : Shape
upload_line = taking (codes "upload") (value_rule (codes "workers") ∷ value_rule (codes "part-chunks") ∷ flag_rule (codes "journal") ∷ flag_rule (codes "no-progress") ∷ [])

-- `check [LIST].. [--quiet] [--status] [--ignore-missing] [--threads T] [--no-progress]`
abbrev pub check_line : Shape
check_line = taking (codes "check") (words_rule (codes "list") ∷ flag_rule (codes "quiet") ∷ flag_rule (codes "status") ∷ flag_rule (codes "ignore-missing") ∷ value_rule (codes "threads")
    ∷ flag_rule (codes "no-progress") ∷ [])

-- the program's command line, which has a version
abbrev pub command_line : App
command_line = record {
  top = record (new_app (codes "b3store")).top { has_version = true; is_leaf = false };
  subs = sum_line ∷ taking (codes "run") [] ∷ serve_line ∷ upload_line ∷ check_line ∷ taking (codes "audit") [] ∷ taking (codes "migrate") [] ∷ [];
}

-- clap finds no fault in the arguments; the first of them is the program's name
unfoldable pub IsTaken : List Text → Type 0
IsTaken words = fault_of command_line words ≡ []

-- clap finds that the arguments ask for the version, and no other fault
unfoldable pub AsksVersion : List Text → Type 0
AsksVersion words = fault_of command_line words ≡ DisplayVersion ∷ []

-- clap finds that, or one of some other faults
unfoldable pub MayAskVersion : List Text → Type 0
MayAskVersion words = IsAmong DisplayVersion (fault_of command_line words)
