-- Definitions for private functions about parts in an ordered map.
use Rattle.std.specs.Prelude.{◌<◌, ◌≤◌, ◌&&◌, ◌||◌, ℕ, Bool, false, List, [], ◌∷◌, nat_le, nat_lt}
use Rattle.store_upload.specs.Uploads.{end_of}

-- parts of at least one byte, in order from an offset on, disjoint, within n bytes
abbrev pub AreApart : {P : Type 0} → (P → ℕ) → ℕ → ℕ → List (ℕ × P) → Type 0
AreApart len from n [] = from ≤ n
AreApart len from n (p ∷ ps) = (from ≤ p.0) × (0 < len p.1) × AreApart len (end_of len p) n ps

-- an offset is in one of the parts
unfoldable pub holds : {P : Type 0} → (P → ℕ) → ℕ → List (ℕ × P) → Bool
holds len offset [] = false
holds len offset (p ∷ ps) = (nat_le p.0 offset && nat_lt offset (end_of len p)) || holds len offset ps
