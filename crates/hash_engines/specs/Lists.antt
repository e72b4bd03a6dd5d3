-- Names in lists.
use Rattle.std.specs.Prelude.{◌==◌, ℕ, Bool, List, [], ◌∷◌, ◌++◌, Option, Some, None, length, option_map, if◌then◌else◌}
use Rattle.edge.specs.Lines.{newline}
use Rattle.b3_check.specs.Names.{has_nul}

-- a name before others, unless it is empty; there are none if it contains a zero byte
abbrev pub name_in_front : List ℕ → Option (List (List ℕ)) → Option (List (List ℕ))
name_in_front name others =
    if length name == 0 then others
    else if has_nul name then None
    else option_map (λ names. name ∷ names) others

-- the names that end with this byte, where the first begins with these bytes
unfoldable pub names_from : ℕ → List ℕ → List ℕ → Option (List (List ℕ))
names_from end front [] = name_in_front front (Some [])
names_from end front (b ∷ bytes) = if b == end then name_in_front front (names_from end [] bytes) else names_from end (front ++ b ∷ []) bytes

abbrev pub end_of : Bool → ℕ
end_of has_nuls = if has_nuls then 0 else newline

-- the names in a list
abbrev pub names_at : Bool → List ℕ → Option (List (List ℕ))
names_at has_nuls text = names_from (end_of has_nuls) [] text
