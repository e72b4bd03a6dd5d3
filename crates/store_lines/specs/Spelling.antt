-- How a command is spelled, and that a line is read as a command if and only if it is spelled like that.
use Rattle.std.specs.Prelude.{◌≡◌, ◌+◌, ◌%◌, ◌<◌, ◌≤◌, ◌^◌, ◌⊎◌, ℕ, List, ◌++◌, Some, None, Ok, codes, length, slice_index}
use Rattle.std.specs.Fmt.{decimal}
use Rattle.hex.specs.Hex.{decode_of, decode_sized}
use Rattle.edge.specs.Fields.{three_fields, two_fields}
use Rattle.store_core.specs.declared.command.Command.{Command}
use Rattle.store_core.specs.declared.command.Command.TheVariants as commands
use Rattle.store_core.specs.declared.store.questions.Question.{Question}
use Rattle.store_core.specs.declared.store.questions.Question.TheVariants as questions
use Rattle.store_lines.specs.Lines.{max_line}
use Rattle.store_lines.specs.Grammar.{command_at, line_fault, max_digits, max_pattern, pattern_of, whole_journal}
use Rattle.store_lines.specs.declared.bad_lines.LineFault.TheVariants.{BadFields}
use Rattle.store_lines.specs.declared.request.Request.{Request}
use Rattle.store_lines.specs.declared.request.Request.TheVariants.{Asks, Does, Entries, Put}

-- a word, a number, and an address in 64 digits of either case
abbrev pub IsNumberAndAddress : List ℕ → List ℕ → ℕ → List ℕ → Type 0
IsNumberAndAddress line word number address = (digits : List ℕ) × (line ≡ word ++ two_fields (decimal number) digits) × (number < 2 ^ 64) × (decode_sized digits 32 ≡ Ok address)

-- the line spells the command
abbrev pub SpellsCommand : List ℕ → Command → Type 0
SpellsCommand line (commands.OpenTenant limit) = (line ≡ codes "tenant " ++ decimal limit) × (limit < 2 ^ 64)
SpellsCommand line (commands.SetLimit tenant limit) = (line ≡ codes "limit " ++ two_fields (decimal tenant) (decimal limit)) × (tenant < 2 ^ 64) × (limit < 2 ^ 64)
SpellsCommand line (commands.Begin tenant len) = (line ≡ codes "begin " ++ two_fields (decimal tenant) (decimal len)) × (tenant < 2 ^ 64) × (len < 2 ^ 64)
SpellsCommand line (commands.BeginOpen tenant at_most) = (line ≡ codes "open " ++ two_fields (decimal tenant) (decimal at_most)) × (tenant < 2 ^ 64) × (at_most < 2 ^ 64)
SpellsCommand line (commands.Fix upload len) = (line ≡ codes "fix " ++ two_fields (decimal upload) (decimal len)) × (upload < 2 ^ 64) × (len < 2 ^ 64)
SpellsCommand line (commands.Seal upload) = (line ≡ codes "seal " ++ decimal upload) × (upload < 2 ^ 64)
SpellsCommand line (commands.SealAs upload address) = IsNumberAndAddress line (codes "sealas ") upload address
SpellsCommand line (commands.Abort upload) = (line ≡ codes "abort " ++ decimal upload) × (upload < 2 ^ 64)
SpellsCommand line (commands.Forget tenant address) = IsNumberAndAddress line (codes "forget ") tenant address

-- the line spells the question; a script has only these questions
abbrev pub SpellsQuestion : List ℕ → Question → Type 0
SpellsQuestion line (questions.Fetch tenant address) = IsNumberAndAddress line (codes "fetch ") tenant address
SpellsQuestion line (questions.Usage tenant) = (line ≡ codes "usage " ++ decimal tenant) × (tenant < 2 ^ 64)
SpellsQuestion line (questions.List tenant) = (line ≡ codes "list " ++ decimal tenant) × (tenant < 2 ^ 64)
SpellsQuestion line questions.Totals = line ≡ codes "stat"
SpellsQuestion line _ = ⊥

-- the field spells a part's bytes: by their digits, or by the length of the pattern starting at the offset
abbrev pub IsDigits : List ℕ → List ℕ → Type 0
IsDigits field bytes = (digits : List ℕ) × (field ≡ codes "x:" ++ digits) × (length digits ≤ max_digits) × (decode_of digits ≡ Ok bytes)

abbrev pub IsPattern : ℕ → List ℕ → List ℕ → Type 0
IsPattern offset field bytes = (len : ℕ) × (field ≡ codes "p:" ++ decimal len) × (len ≤ max_pattern) × (bytes ≡ pattern_of offset len)

abbrev pub IsPart : ℕ → List ℕ → List ℕ → Type 0
IsPart offset field bytes = IsDigits field bytes ⊎ IsPattern offset field bytes

-- the line spells the request; a script has no others
abbrev pub IsSpelled : List ℕ → Request → Type 0
IsSpelled line (Does command) = SpellsCommand line command
IsSpelled line (Asks question) = SpellsQuestion line question
IsSpelled line (Put part) = (field : List ℕ) × (line ≡ codes "put " ++ three_fields (decimal part.upload) (decimal part.offset) field) × (part.upload < 2 ^ 64) × (part.offset < 2 ^ 64) × IsPart part.offset field part.bytes
IsSpelled line (Entries range) = (line ≡ codes "journal") × (range ≡ whole_journal)
IsSpelled line _ = ⊥

-- what is read is spelled like that
abbrev pub ReadCommandIsSpelled : Type 0
ReadCommandIsSpelled = (line : List ℕ) (command : Request) → command_at line ≡ Some command → IsSpelled line command

-- what is spelled like that is read
abbrev pub SpelledCommandIsRead : Type 0
SpelledCommandIsRead = (line : List ℕ) (command : Request) → IsSpelled line command → command_at line ≡ Some command

-- the pattern has the requested length, and each byte is its position in the upload mod 251
abbrev pub PatternIs : Type 0
PatternIs = (offset len : ℕ) → (length (pattern_of offset len) ≡ len) × ((i : ℕ) → i < len → slice_index (pattern_of offset len) i ≡ (offset + i) % 251)

-- a longer line is not a command
abbrev pub LongIsNone : Type 0
LongIsNone = (line : List ℕ) → max_line < length line → command_at line ≡ None

-- the first word of a line with a command is one of the words
abbrev pub WordsAreKnown : Type 0
WordsAreKnown = (line : List ℕ) (command : Request) → command_at line ≡ Some command → line_fault line ≡ BadFields
