-- The requests of a session's lines that a script does not have.
use Rattle.std.specs.Prelude.{ℕ, List, Option, Some, None, if◌then◌else◌, codes, length, nat_lt, option_map}
use Rattle.std.specs.Io.BufRead.{strip_last}
use Rattle.std.specs.Option.{option_or}
use Rattle.std.specs.Str.{bytes_eq}
use Rattle.edge.specs.Fields.{◌>>=◌, split_at, number_at, of_one, of_three, of_two, space, two_numbers_at}
use Rattle.store_lines.specs.Grammar.{address_of_digits, by_word, of_held}
use Rattle.store_lines.specs.Questions.{question_of_word, session_forms}
use Rattle.store_lines.specs.Lines.{max_request}
use Rattle.store_lines.specs.declared.request.Request.{Request}
use Rattle.store_lines.specs.declared.request.Request.TheVariants.{Asks, Entries, Fetch, File, PutRaw}

-- a tenant and a length, and between them the address that the object must have
abbrev pub file_as_at : List ℕ → Option Request
file_as_at fields = do
  cut ← split_at space fields
  tenant ← number_at cut.0
  others ← split_at space cut.1
  address ← address_of_digits others.0
  len ← number_at others.1
  Some (File (record { tenant = tenant; address = Some address; len = len }))

-- a tenant, an address and a range of its object's bytes
abbrev pub fetch_range_at : List ℕ → Option Request
fetch_range_at fields = do
  cut ← split_at space fields
  tenant ← number_at cut.0
  others ← split_at space cut.1
  address ← address_of_digits others.0
  numbers ← two_numbers_at others.1
  Some (Fetch (record { tenant = tenant; address = address; range = Some (record { from = numbers.0; len = numbers.1 }) }))

-- these, or a tenant and an address
abbrev pub fetch_at : List ℕ → Option Request
fetch_at fields = option_or (fetch_range_at fields) (of_held (λ tenant address. Fetch (record { tenant = tenant; address = address; range = None })) fields)

-- the number of an entry, or that and a maximum number of entries
abbrev pub entries_at : List ℕ → Option Request
entries_at fields = option_or (of_one (λ from. Entries (record { from = from; count = None })) fields) (of_two (λ from count. Entries (record { from = from; count = Some count })) fields)

-- the request of a word and the fields after it
unfoldable pub request_of_kind : List ℕ → List ℕ → Option Request
request_of_kind kind fields =
    if bytes_eq kind (codes "putb") then of_three (λ upload offset len. PutRaw (record { upload = upload; offset = offset; len = len })) fields
    else if bytes_eq kind (codes "file") then of_two (λ tenant len. File (record { tenant = tenant; address = None; len = len })) fields
    else if bytes_eq kind (codes "fileas") then file_as_at fields
    else if bytes_eq kind (codes "fetchb") then fetch_at fields
    else if bytes_eq kind (codes "entries") then entries_at fields
    else option_map (λ q. Asks q) (by_word session_forms kind fields)

-- the request of a line that is split after its first word
abbrev pub split_request_at : List ℕ → Option (List ℕ × List ℕ) → Option Request
split_request_at line None = option_map (λ q. Asks q) (question_of_word line)
split_request_at line (Some cut) = request_of_kind cut.0 cut.1

-- the request of a line without its newline
abbrev pub request_at : List ℕ → Option Request
request_at line = split_request_at line (split_at space line)

-- the request of a line with its newline, which may be missing on the last line; none for a line of a script
abbrev pub request_in : List ℕ → Option Request
request_in whole = if nat_lt max_request (length whole) then None else request_at (strip_last 10 whole)
