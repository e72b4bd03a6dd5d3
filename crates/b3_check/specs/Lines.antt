-- Check lines: their grammar, the first fault of a line that is not one, and the line as it is written.
use Rattle.std.specs.Prelude.{◌≡◌, ◌==◌, ◌&&◌, ◌⊎◌, ℕ, Bool, true, false, not, List, [], ◌∷◌, ◌++◌, Result, Ok, Err, length, take, drop, nat_eq, nat_lt, slice_index, codes, if◌then◌else◌}
use Rattle.std.specs.List.{list_all, starts_with, flat_map}
use Rattle.std.specs.Result.{result_unwrap_or}
use Rattle.hex.specs.Hex.{decode_of, encode_lower, is_hex_digit, IsBytes}
use Rattle.b3_check.specs.declared.fault.Fault.{Fault}
use Rattle.b3_check.specs.declared.fault.Fault.TheVariants.{BadHex, BadSpaces, EmptyName, NulInName, Short, Tagged}
use Rattle.b3_check.specs.declared.fault.ReadError.{ReadError}
use Rattle.b3_check.specs.declared.fault.ReadError.TheVariants as errors
use Rattle.b3_check.specs.declared.line.Line.{Line}
use Rattle.edge.specs.Lines.{newline}
use Rattle.b3_check.specs.Names.{backslash, carriage_return, IsName, StandsFor, escaped, has_nul, mark_of, unescaped}

-- ---- the grammar

-- the line without the carriage returns at its end
abbrev pub before_returns : ℕ → List ℕ → List ℕ
before_returns b [] = if b == carriage_return then [] else b ∷ []
before_returns b (c ∷ cs) = b ∷ c ∷ cs

unfoldable pub without_returns : List ℕ → List ℕ
without_returns [] = []
without_returns (b ∷ bytes) = before_returns b (without_returns bytes)

-- the 64 digits, of either case, spell the digest
pub record Spells (digits digest : List ℕ) : Type 0 where
  pub many : length digits ≡ 64
  pub value : decode_of digits ≡ Ok digest

-- digits, two spaces, the name
pub record IsPlain (text digest name : List ℕ) : Type 0 where
  pub digits : List ℕ
  pub spelled : Spells digits digest
  pub is : text ≡ digits ++ (32 ∷ 32 ∷ name)

-- a backslash, digits, two spaces, the escaped name
pub record IsEscaped (text digest name : List ℕ) : Type 0 where
  pub digits : List ℕ
  pub units : List ℕ
  pub spelled : Spells digits digest
  pub stands : StandsFor units name
  pub is : text ≡ backslash ∷ (digits ++ (32 ∷ 32 ∷ units))

-- the line, without the carriage returns at its end, says that the name has the digest
pub record IsLine (line digest name : List ℕ) : Type 0 where
  pub form : IsPlain (without_returns line) digest name ⊎ IsEscaped (without_returns line) digest name
  pub named : IsName name

-- ---- reading

infixl 10 ◌>>=◌
abbrev pub ◌>>=◌ : {A B : Type 0} → Result A Fault → (A → Result B Fault) → Result B Fault
(Ok x) >>= f = f x
(Err fault) >>= f = Err fault

-- the bytes as a name, if there is no zero byte
abbrev pub name_without_nul : List ℕ → Result (List ℕ) Fault
name_without_nul name = if has_nul name then Err NulInName else Ok name

-- the bytes of a name: unescaped in an escaped line, otherwise literal
abbrev pub name_bytes_at : Bool → List ℕ → Result (List ℕ) Fault
name_bytes_at true text = unescaped text
name_bytes_at false text = Ok text

-- the digest that digits spell
abbrev pub digest_at : List ℕ → List ℕ
digest_at digits = result_unwrap_or (decode_of digits) []

-- the start of a line of another kind
abbrev pub tag : List ℕ
tag = codes "BLAKE3 ("

-- two spaces follow the digits
abbrev pub has_two_spaces : List ℕ → Bool
has_two_spaces rest = slice_index rest 64 == 32 && slice_index rest 65 == 32

-- the text of a line, after the backslash if it is escaped: a digest and a name, or the first fault
unfoldable pub rest_at : Bool → List ℕ → Result Line Fault
rest_at is_escaped rest =
    if starts_with nat_eq rest tag then Err Tagged
    else if nat_lt (length rest) 66 then Err Short
    else if not (list_all is_hex_digit (take 64 rest)) then Err BadHex
    else if not (has_two_spaces rest) then Err BadSpaces
    else if length rest == 66 then Err EmptyName
    else name_bytes_at is_escaped (drop 66 rest) >>= λ bytes. name_without_nul bytes >>= λ name. Ok (record { digest = digest_at (take 64 rest); name = name })

-- a line begins with a backslash if its name is escaped
abbrev pub marked_at : List ℕ → Result Line Fault
marked_at [] = rest_at false []
marked_at (b ∷ bytes) = if b == backslash then rest_at true bytes else rest_at false (b ∷ bytes)

-- the digest and the name of a line, or its first fault
abbrev pub line_at : List ℕ → Result Line Fault
line_at line = marked_at (without_returns line)

-- ---- results of a reader

-- the result is what reading defines, unless memory ran out
abbrev pub Fails : {Y : Type 0} → ReadError → Result Y Fault → Type 0
Fails errors.NoMemory read = Unit {0}
Fails (errors.Fault fault) read = read ≡ Err fault

abbrev pub Gives : {X Y : Type 0} → (X → Y) → Result X ReadError → Result Y Fault → Type 0
Gives view (Ok x) read = read ≡ Ok (view x)
Gives view (Err e) read = Fails e read

-- ---- writing

-- a digest of 32 bytes, and a name
pub record IsLawful (line : Line) : Type 0 where
  pub long : length line.digest ≡ 32
  pub bytes : IsBytes line.digest
  pub named : IsName line.name

-- a line as it is written, without its newline
abbrev pub text_of : Line → List ℕ
text_of line = mark_of line.name ++ (encode_lower line.digest ++ (32 ∷ 32 ∷ escaped line.name))

-- a line as it is written
abbrev pub written_line : Line → List ℕ
written_line line = text_of line ++ newline ∷ []

-- lines as they are written, one after the other
abbrev pub written_lines : List Line → List ℕ
written_lines lines = flat_map written_line lines
