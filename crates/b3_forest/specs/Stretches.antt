-- Bytes in stretches of one length.
use Rattle.std.specs.Prelude.{◌≡◌, ℕ, ◌-◌, ◌%◌, ◌<◌, ◌++◌, All, List, flat_map, length, min, take, drop}
use Rattle.std.specs.Arc.{arc_value}
use Rattle.std.specs.Global.{Vec}
use Rattle.std.specs.declared.sync.Arc.{Arc}

-- the bytes, and the length of each stretch but the last
pub record ModelStretches : Type 0 where
  pub each : ℕ
  pub bytes : List ℕ

-- these bytes are found among others at an offset
abbrev pub StandsAt : List ℕ → ℕ → List ℕ → Type 0
StandsAt bytes at own = own ≡ take (length own) (drop at bytes)

-- some of the bytes, starting at an offset; it is empty only if there are no bytes there
pub record AreBytesFrom (bytes : List ℕ) (at : ℕ) (found : List ℕ) : Type 0 where
  pub same : StandsAt bytes at found
  pub some : at < length bytes → 0 < length found

-- the number of bytes from an offset to the end of its stretch
abbrev pub left_of_stretch : ModelStretches → ℕ → ℕ
left_of_stretch s at = min (s.each - at % s.each) (length s.bytes - at)

-- ---- what is kept

-- a stretch's bytes
abbrev pub stretch_bytes : {Z : Type 0} → Arc (Vec ℕ) Z → List ℕ
stretch_bytes s = (arc_value s).items

-- full stretches, followed by the last one's bytes
abbrev pub stretched : {Z : Type 0} → ℕ → List (Arc (Vec ℕ) Z) → List ℕ → ModelStretches
stretched each full last = record { each = each; bytes = flat_map stretch_bytes full ++ last }

abbrev pub AreFull : {Z : Type 0} → ℕ → List (Arc (Vec ℕ) Z) → Type 0
AreFull each full = All (λ s. length (stretch_bytes s) ≡ each) full
