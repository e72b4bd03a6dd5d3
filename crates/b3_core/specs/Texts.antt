-- The debug and error texts of the crate's types: they show sizes and modes, but no byte of an input and no word of a key.
use Rattle.std.specs.Prelude.{ℕ, ◌==◌, List, ◌++◌, codes, if◌then◌else◌}
use Rattle.std.specs.Fmt.{decimal}
use Rattle.b3_core.specs.Compression.{keyed_hash_flag}
use Rattle.b3_core.specs.ExtendedOutput.{ModelOutputReader}
use Rattle.b3_core.specs.Hashers.{ModelHasher, count_of}
use Rattle.b3_core.specs.Tree.{ModelTop, ModelMode}

-- the name of the mode with this flag
abbrev pub mode_name : ℕ → List ℕ
mode_name flag = if flag == 0 then codes "hash" else if flag == keyed_hash_flag then codes "keyed_hash" else codes "derive_key"

-- the debug text of a mode
abbrev pub mode_text : ModelMode → List ℕ
mode_text p = codes "Mode(" ++ (mode_name p.flag ++ codes ")")

-- the debug text of a node
abbrev pub top_text : ModelTop → List ℕ
top_text n = codes "Top { counter: " ++ (decimal n.counter ++ (codes ", block_len: " ++ (decimal n.block_len ++ (codes ", flags: " ++ (decimal n.flags ++ codes " }")))))

-- the debug text of a hasher
abbrev pub hasher_text : ModelHasher → List ℕ
hasher_text h = codes "Hasher { mode: " ++ (mode_name h.mode.flag ++ (codes ", count: " ++ (decimal (count_of h) ++ codes " }")))

-- the debug text of a reader of the output
abbrev pub reader_text : ModelOutputReader → List ℕ
reader_text r = codes "OutputReader { position: " ++ (decimal r.position ++ codes " }")

-- the code of the refusal past the end of the output, and its text
abbrev pub output_end_code : List ℕ
output_end_code = codes "H1"

abbrev pub output_end_text : List ℕ
output_end_text = codes "H1: the output ends at 2^64-1 bytes"
