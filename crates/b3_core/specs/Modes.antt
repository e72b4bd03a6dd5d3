-- The three modes, and the hash in each (BLAKE3, section 2.3).
use Rattle.std.specs.Prelude.{ℕ, List, [], ◌∷◌}
use Rattle.b3_core.specs.Compression.{initial_words, keyed_hash_flag, derive_key_context_flag, derive_key_material_flag}
use Rattle.b3_core.specs.Tree.{ModelMode, word_at, tree_top}
use Rattle.b3_core.specs.ExtendedOutput.{output_of}

-- the default hash of x in the mode p: the first 32 bytes of its extended output
unfoldable pub digest_of : List ℕ → ModelMode → List ℕ
digest_of x p = output_of (tree_top x 0 p) 0 32

-- the key words of 32 bytes
abbrev pub key_words_of : List ℕ → List ℕ
key_words_of x =
    word_at x 0 ∷ word_at x 4 ∷ word_at x 8 ∷ word_at x 12
    ∷ word_at x 16 ∷ word_at x 20 ∷ word_at x 24 ∷ word_at x 28 ∷ []

abbrev pub hash_mode : ModelMode
hash_mode = record { key = initial_words; flag = 0 }

abbrev pub keyed_mode : List ℕ → ModelMode
keyed_mode key = record { key = key_words_of key; flag = keyed_hash_flag }

-- the mode in which the context itself is hashed
abbrev pub context_mode : ModelMode
context_mode = record { key = initial_words; flag = derive_key_context_flag }

abbrev pub derive_mode : List ℕ → ModelMode
derive_mode context = record { key = key_words_of (digest_of context context_mode); flag = derive_key_material_flag }

-- hash(x)
abbrev pub hash_of : List ℕ → List ℕ
hash_of x = digest_of x hash_mode
