-- Hashers as kept by a caller in C.
use Rattle.std.specs.Prelude.{◌≡◌, ℕ, List}
use Rattle.b3_core.specs.Hashers.{HasInput, kept_work}
use Rattle.b3_core.specs.HasherStates.{IsState, hashing_of}
use Rattle.b3_core.specs.Tree.{ModelMode}
use Rattle.b3_core.specs.declared.hasher_state.HasherState.{HasherState}

-- a hasher in this mode that has been given the bytes x
abbrev pub HoldsIn : HasherState → ModelMode → List ℕ → Type 0
HoldsIn s p x = IsState s × ((hashing_of s).mode ≡ p) × HasInput (hashing_of s) x

-- the compressions that its nodes took
abbrev pub kept_in : HasherState → ℕ
kept_in s = kept_work (hashing_of s).subtrees
