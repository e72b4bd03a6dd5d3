-- A hasher as plain numbers.
use Rattle.std.specs.Prelude.{◌≤◌}
use Rattle.b3_core.specs.Compression.{derive_key_material_flag}
use Rattle.b3_core.specs.declared.hasher_state.HasherState.{HasherState}
use Rattle.b3_core.specs.Hashers.{ModelHasher}
use Rattle.b3_core.specs.Kept.{FitsItsPlaces, kept_of}

-- the numbers can be those of a hasher: the flag is at most the largest of a mode, and the lengths fit the arrays
abbrev pub IsState : HasherState → Type 0
IsState s = (s.flag ≤ derive_key_material_flag) × FitsItsPlaces s.kept

-- the hasher that has these numbers
abbrev pub hashing_of : HasherState → ModelHasher
hashing_of s = kept_of (record { key = s.key; flag = s.flag }) s.kept
