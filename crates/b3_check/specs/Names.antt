-- The names of check lines, and how they are written.
use Rattle.std.specs.Prelude.{◌≡◌, ◌≢◌, ◌<◌, ◌==◌, ◌||◌, ◌⊎◌, ℕ, Bool, true, false, List, [], ◌∷◌, Option, Some, None, Result, Ok, Err, length, if◌then◌else◌}
use Rattle.std.specs.List.{list_any, flat_map}
use Rattle.edge.specs.Lines.{newline}
use Rattle.b3_check.specs.declared.fault.Fault.{Fault}
use Rattle.b3_check.specs.declared.fault.Fault.TheVariants.{BadEscape, EmptyName, NulInName}

-- ---- the bytes with a special meaning

abbrev pub backslash : ℕ
backslash = 92

abbrev pub carriage_return : ℕ
carriage_return = 13

-- ---- names

-- whether there is a zero byte
abbrev pub has_nul : List ℕ → Bool
has_nul bytes = list_any (λ b. b == 0) bytes

-- a name is not empty and has no zero byte
abbrev pub IsName : List ℕ → Type 0
IsName name = (0 < length name) × (has_nul name ≡ false)

-- why bytes are not a name
abbrev pub name_fault : List ℕ → Option Fault
name_fault name =
    if length name == 0 then Some EmptyName
    else if has_nul name then Some NulInName
    else None

-- ---- escapes

-- a byte that is not written literally
abbrev pub is_special : ℕ → Bool
is_special b = b == backslash || b == newline || b == carriage_return

-- a name that has to be escaped
abbrev pub needs_escapes : List ℕ → Bool
needs_escapes name = list_any is_special name

-- a byte as it is written: a backslash as two, a newline as `\n`, a carriage return as `\r`
abbrev pub unit_of : ℕ → List ℕ
unit_of b =
    if b == backslash then backslash ∷ backslash ∷ []
    else if b == newline then backslash ∷ 110 ∷ []
    else if b == carriage_return then backslash ∷ 114 ∷ []
    else b ∷ []

-- a name as it is written
abbrev pub escaped : List ℕ → List ℕ
escaped name = flat_map unit_of name

-- the start of a line whose name is escaped
abbrev pub mark_of : List ℕ → List ℕ
mark_of name = if needs_escapes name then backslash ∷ [] else []

-- a backslash and the byte c represent the byte b
abbrev pub IsEscape : ℕ → ℕ → Type 0
IsEscape c b = ((c ≡ backslash) × (b ≡ backslash)) ⊎ ((c ≡ 110) × (b ≡ newline)) ⊎ ((c ≡ 114) × (b ≡ carriage_return))

-- An escaped name, and the name that it represents: a byte other than a backslash represents itself, and each backslash begins one of the
-- three escapes.
pub data StandsFor : List ℕ → List ℕ → Type 0 where
  nothing : StandsFor [] []
  itself : {b : ℕ} {units name : List ℕ} → b ≢ backslash → StandsFor units name → StandsFor (b ∷ units) (b ∷ name)
  escape : {c b : ℕ} {units name : List ℕ} → IsEscape c b → StandsFor units name → StandsFor (backslash ∷ c ∷ units) (b ∷ name)

-- ---- reading escapes

-- the byte that a backslash and the byte c represent
abbrev pub escape_value : ℕ → Option ℕ
escape_value c =
    if c == backslash then Some backslash
    else if c == 110 then Some newline
    else if c == 114 then Some carriage_return
    else None

-- a byte before what else was read
abbrev pub in_front : ℕ → Result (List ℕ) Fault → Result (List ℕ) Fault
in_front b (Ok name) = Ok (b ∷ name)
in_front b (Err fault) = Err fault

abbrev pub after_escape : Option ℕ → Result (List ℕ) Fault → Result (List ℕ) Fault
after_escape (Some b) read = in_front b read
after_escape None read = Err BadEscape

-- the name that the rest of an escaped name represents; the flag says whether a backslash was just read
unfoldable pub unescaped_from : Bool → List ℕ → Result (List ℕ) Fault
unescaped_from false [] = Ok []
unescaped_from true [] = Err BadEscape
unescaped_from false (b ∷ bytes) =
    elim (b == backslash) [
      | true ↦ unescaped_from true bytes
      | false ↦ in_front b (unescaped_from false bytes)
    ]
unescaped_from true (c ∷ bytes) = after_escape (escape_value c) (unescaped_from false bytes)

-- the name that an escaped name represents
abbrev pub unescaped : List ℕ → Result (List ℕ) Fault
unescaped units = unescaped_from false units
