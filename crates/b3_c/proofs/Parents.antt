-- The parent of two nodes, from their chaining values.
use Rattle.std.proofs.Common.{◌≡◌, ℕ, ◌+◌, ◌++◌, List, take, arith, refl}
use Rattle.std.specs.Prelude.{map}
use Rattle.std.specs.List.{range_with_len}
use Rattle.b3_core.specs.Compression.{compress_of}
use Rattle.b3_core.specs.ExtendedOutput.{byte_of, output_byte, output_of}
use Rattle.b3_core.specs.Tree.{ModelTop, ModelMode, chaining_value_of, parent_top}
use Rattle.b3_c.specs.Nodes.{parent_of}

-- the first eight words of its compression are its chaining value
pub parent_value : (left right words : List ℕ) (p : ModelMode) → words ≡ compress_of p.key (left ++ right) 0 64 (p.flag + 4 + 0)
    → take 8 words ≡ chaining_value_of (parent_of left right p)
parent_value left right words p compressed =
    let flags : p.flag + 4 + 0 ≡ p.flag + 4 = omega arith in
    rw (compressed, flags) refl

-- the first 32 bytes of its compression as the root are the hash
pub root_bytes : (left right words out : List ℕ) (p : ModelMode) → words ≡ compress_of p.key (left ++ right) 0 64 (p.flag + 4 + 8)
    → out ≡ map (byte_of words) (range_with_len 0 32) → out ≡ output_of (parent_of left right p) 0 32
unfolding output_byte
root_bytes left right words out p compressed bytes = rw (bytes, compressed) refl

-- it is the parent of all nodes with these chaining values
pub parent_is : (l r : ModelTop) (left right : List ℕ) (p : ModelMode) → left ≡ chaining_value_of l → right ≡ chaining_value_of r
    → parent_of left right p ≡ parent_top l r p
unfolding parent_top
parent_is l r left right p is_left is_right = rw (is_left, is_right) refl
