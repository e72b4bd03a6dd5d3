-- The modes as named by a caller in C.
use Rattle.std.specs.Prelude.{ℕ, Bool, ◌==◌, List, length, if◌then◌else◌}
use Rattle.b3_core.specs.Modes.{hash_mode, keyed_mode, derive_mode}
use Rattle.b3_core.specs.Tree.{ModelMode}
use Rattle.b3_core.specs.Work.{hash_work}

-- whether a mode has this number and a key of this length: 0 is hash, without a key; 1 is keyed_hash, with a key of 32 bytes; 2 is
-- derive_key, with a context of any length
abbrev pub is_mode : ℕ → ℕ → Bool
is_mode number key_len = if number == 0 then key_len == 0 else if number == 1 then key_len == 32 else number == 2

-- the mode of this number, with its key or context
abbrev pub mode_of : ℕ → List ℕ → ModelMode
mode_of number key = if number == 0 then hash_mode else if number == 1 then keyed_mode key else derive_mode key

-- the compressions needed for the mode: those of the context's hash
abbrev pub mode_work : ℕ → ℕ → ℕ
mode_work number key_len = if number == 2 then hash_work key_len else 0

-- whether a tree whose nodes are hashed one by one can have a key of this length: none, or 32 bytes
abbrev pub is_tree_key : ℕ → Bool
is_tree_key key_len = if key_len == 0 then key_len == 0 else key_len == 32

-- the mode of a tree whose nodes are hashed one by one: hash without a key, keyed_hash with one
abbrev pub tree_mode : List ℕ → ModelMode
tree_mode key = if length key == 0 then hash_mode else keyed_mode key
