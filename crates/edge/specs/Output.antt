-- What was written of a text.
use Rattle.std.specs.Prelude.{◌≡◌, ◌<◌, ℕ, List, ◌++◌, Option, length}
use Rattle.std.specs.Io.KnownBytes.{Appends}

-- all of the text was written except the rest at its end
pub record AllBut (old new : Option (List ℕ)) (text rest : List ℕ) : Type 0 where
  pub front : List ℕ
  pub is : text ≡ front ++ rest
  pub went : Appends old new front

-- a proper prefix of the text was written
pub record IsTruncated (old new : Option (List ℕ)) (text : List ℕ) : Type 0 where
  pub rest : List ℕ
  pub some : 0 < length rest
  pub front : AllBut old new text rest

-- a prefix of the text was written: none of it, some, or all
pub record WroteSome (old new : Option (List ℕ)) (text : List ℕ) : Type 0 where
  pub rest : List ℕ
  pub front : AllBut old new text rest
