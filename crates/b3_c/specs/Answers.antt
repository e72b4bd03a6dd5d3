-- The return values of the calls: 0 on success, otherwise what is wrong, the first matching one.
use Rattle.std.specs.Prelude.{ℕ, ◌+◌, ◌-◌, ◌^◌, nat_lt, ◌==◌, if◌then◌else◌}
use Rattle.b3_c.specs.Modes.{is_mode, is_tree_key}

-- of a hash into `out` of this length: 1 if it is not 32
abbrev pub hash_answer : ℕ → ℕ
hash_answer out_len = if out_len == 32 then 0 else 1

-- of a keyed hash: 2 if the key does not have 32 bytes
abbrev pub keyed_answer : ℕ → ℕ → ℕ
keyed_answer key_len out_len = if key_len == 32 then hash_answer out_len else 2

-- of extended output of this length from a position on: 3 if it extends past the end, 2 if there is no such mode
abbrev pub extended_answer : ℕ → ℕ → ℕ → ℕ → ℕ
extended_answer number key_len position out_len =
    if nat_lt (2 ^ 64 - 1) (position + out_len) then 3 else if is_mode number key_len then 0 else 2

-- why a subtree is refused: 2 if no tree can have such a key, 4 if it is not a subtree
abbrev pub subtree_refusal : ℕ → ℕ
subtree_refusal key_len = if is_tree_key key_len then 4 else 2

-- of a parent: 2 if no tree can have such a key
abbrev pub parent_answer : ℕ → ℕ
parent_answer key_len = if is_tree_key key_len then 0 else 2

-- of a root: 2 if no tree can have such a key, 1 if the output does not have 32 bytes
abbrev pub root_answer : ℕ → ℕ → ℕ
root_answer key_len out_len = if is_tree_key key_len then hash_answer out_len else 2

-- of the initialization of a hasher: 2 if there is no such mode
abbrev pub init_answer : ℕ → ℕ → ℕ
init_answer number key_len = if is_mode number key_len then 0 else 2

-- why a hasher's hash is refused: 1 if the output does not have 32 bytes, 5 if it is not a hasher
abbrev pub finalize_refusal : ℕ → ℕ
finalize_refusal out_len = if out_len == 32 then 5 else 1

-- why a hasher's extended output of this length from a position on is refused: 3 if it extends past the end, 5 if it is not a hasher
abbrev pub read_refusal : ℕ → ℕ → ℕ
read_refusal position out_len = if nat_lt (2 ^ 64 - 1) (position + out_len) then 3 else 5
