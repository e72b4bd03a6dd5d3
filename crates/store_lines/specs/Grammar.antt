-- The requests of the lines of a script.
use Rattle.std.specs.Prelude.{ℕ, zero, suc, ◌+◌, ◌%◌, List, [], ◌∷◌, ◌++◌, Option, Some, None, Result, Ok, Err, if◌then◌else◌, nat_le, codes, length, map, option_map}
use Rattle.std.specs.List.{list_any}
use Rattle.std.specs.Str.{bytes_eq}
use Rattle.hex.specs.Hex.{decode_of, decode_sized}
use Rattle.hex.specs.declared.error.FromHexError.{FromHexError}
use Rattle.edge.specs.Fields.{◌>>=◌, split_at, number_at, of_one, of_two, space}
use Rattle.store_core.specs.declared.command.Command.{Command}
use Rattle.store_core.specs.declared.command.Command.TheVariants as commands
use Rattle.store_core.specs.declared.store.questions.Question.{Question}
use Rattle.store_core.specs.declared.store.questions.Question.TheVariants as questions
use Rattle.store_lines.specs.declared.bad_lines.LineFault.{LineFault}
use Rattle.store_lines.specs.declared.bad_lines.LineFault.TheVariants.{BadFields, UnknownCommand}
use Rattle.store_lines.specs.declared.request.EntryRange.{EntryRange}
use Rattle.store_lines.specs.declared.request.Request.{Request}
use Rattle.store_lines.specs.declared.request.Request.TheVariants.{Asks, Does, Entries, Put}

-- all entries of the journal
abbrev pub whole_journal : EntryRange
whole_journal = record { from = 0; count = None }

-- ---- the fields of a command

-- the bytes that were decoded, if they were
abbrev pub decoded : Result (List ℕ) FromHexError → Option (List ℕ)
decoded (Ok bytes) = Some bytes
decoded (Err fault) = None

-- the address with these digits: 64, of either case
unfoldable pub address_of_digits : List ℕ → Option (List ℕ)
address_of_digits digits = decoded (decode_sized digits 32)

-- a tenant and an address
abbrev pub held_at : List ℕ → Option (ℕ × List ℕ)
held_at fields = do
  cut ← split_at space fields
  number ← number_at cut.0
  address ← address_of_digits cut.1
  Some (number, address)

-- what is made of these
abbrev pub of_held : {A : Type 0} → (ℕ → List ℕ → A) → List ℕ → Option A
of_held make fields = do
  held ← held_at fields
  Some (make held.0 held.1)

-- ---- the bytes of a part

-- the bytes (offset + i) mod 251, for each i below the length
unfoldable pub pattern_of : ℕ → ℕ → List ℕ
pattern_of offset zero = []
pattern_of offset (suc len) = offset % 251 ∷ pattern_of (offset + 1) len

-- the maximum number of bytes of a pattern
abbrev pub max_pattern : ℕ
max_pattern = 33554432

-- the maximum number of digits of a part: those of the largest part, 2^24 bytes
abbrev pub max_digits : ℕ
max_digits = 33554432

-- the bytes of digits, unless there are too many
abbrev pub digits_at : List ℕ → Option (List ℕ)
digits_at digits = if nat_le (length digits) max_digits then decoded (decode_of digits) else None

-- the pattern bytes from an offset on, with the requested length
abbrev pub pattern_at : ℕ → Option ℕ → Option (List ℕ)
pattern_at offset None = None
pattern_at offset (Some len) = if nat_le len max_pattern then Some (pattern_of offset len) else None

abbrev pub colon : ℕ
colon = 58

-- the bytes of a part's last field: `x:` and their digits, two for each byte and of either case, or `p:` and the length of the pattern
unfoldable pub bytes_of_kind : ℕ → List ℕ → List ℕ → Option (List ℕ)
bytes_of_kind offset kind digits =
    if bytes_eq kind (codes "x") then digits_at digits
    else if bytes_eq kind (codes "p") then pattern_at offset (number_at digits)
    else None

abbrev pub part_bytes_at : ℕ → List ℕ → Option (List ℕ)
part_bytes_at offset field = do
  cut ← split_at colon field
  bytes_of_kind offset cut.0 cut.1

abbrev pub puts_at : List ℕ → Option Request
puts_at fields = do
  cut ← split_at space fields
  upload ← number_at cut.0
  others ← split_at space cut.1
  offset ← number_at others.0
  bytes ← part_bytes_at offset others.1
  Some (Put (record { upload = upload; offset = offset; bytes = bytes }))

-- ---- a line

-- what the fields after a word are read as, for each of these words
abbrev pub Forms : Type 0 → Type 0
Forms A = List (List ℕ × (List ℕ → Option A))

abbrev pub command_forms : Forms Command
command_forms =
    (codes "tenant", of_one (λ limit. commands.OpenTenant limit))
    ∷ (codes "limit", of_two (λ tenant limit. commands.SetLimit tenant limit))
    ∷ (codes "begin", of_two (λ tenant len. commands.Begin tenant len))
    ∷ (codes "open", of_two (λ tenant at_most. commands.BeginOpen tenant at_most))
    ∷ (codes "fix", of_two (λ upload len. commands.Fix upload len))
    ∷ (codes "seal", of_one (λ upload. commands.Seal upload))
    ∷ (codes "sealas", of_held (λ upload address. commands.SealAs upload address))
    ∷ (codes "abort", of_one (λ upload. commands.Abort upload))
    ∷ (codes "forget", of_held (λ tenant address. commands.Forget tenant address))
    ∷ []

abbrev pub question_forms : Forms Question
question_forms =
    (codes "fetch", of_held (λ tenant address. questions.Fetch tenant address))
    ∷ (codes "usage", of_one (λ tenant. questions.Usage tenant))
    ∷ (codes "list", of_one (λ tenant. questions.List tenant))
    ∷ []

-- what the fields after a word are read as
abbrev pub by_word : {A : Type 0} → Forms A → List ℕ → List ℕ → Option A
by_word [] word fields = None
by_word (form ∷ others) word fields = if bytes_eq word form.0 then form.1 fields else by_word others word fields

-- the command, or else the question
abbrev pub command_or : Option Command → Option Question → Option Request
command_or (Some command) question = Some (Does command)
command_or None question = option_map (λ q. Asks q) question

unfoldable pub script_request_of_kind : List ℕ → List ℕ → Option Request
script_request_of_kind word fields = command_or (by_word command_forms word fields) (by_word question_forms word fields)

-- the command of a line that consists of one word
abbrev pub word_command : List ℕ → Option Request
word_command word = if bytes_eq word (codes "stat") then Some (Asks questions.Totals) else if bytes_eq word (codes "journal") then Some (Entries whole_journal) else None

-- the command of a line that is split after its first word
unfoldable pub split_line_at : List ℕ → Option (List ℕ × List ℕ) → Option Request
split_line_at line None = word_command line
split_line_at line (Some cut) = if bytes_eq cut.0 (codes "put") then puts_at cut.1 else script_request_of_kind cut.0 cut.1

-- the command of a line without its newline, unless the line is outside the grammar
abbrev pub command_at : List ℕ → Option Request
command_at line = split_line_at line (split_at space line)

-- ---- a line outside the grammar

-- the first words of lines
abbrev pub words : List (List ℕ)
words = map (λ form. form.0) command_forms ++ (map (λ form. form.0) question_forms ++ codes "journal" ∷ codes "put" ∷ codes "stat" ∷ [])

-- the first word of a line that is split after it
abbrev pub word_of : List ℕ → Option (List ℕ × List ℕ) → List ℕ
word_of line None = line
word_of line (Some cut) = cut.0

-- why a line with this first word has no command: it is none of these; or a field is missing, wrong or extra
unfoldable pub word_fault : List ℕ → LineFault
word_fault word = if list_any (λ known. bytes_eq known word) words then BadFields else UnknownCommand

abbrev pub line_fault : List ℕ → LineFault
line_fault line = word_fault (word_of line (split_at space line))

-- the fault of a line without its newline; an empty line has none
abbrev pub fault_unless : Option Request → LineFault → Option LineFault
fault_unless None fault = Some fault
fault_unless (Some request) fault = None

abbrev pub fault_at : List ℕ → Option LineFault
fault_at [] = None
fault_at (b ∷ line) = fault_unless (command_at (b ∷ line)) (line_fault (b ∷ line))
