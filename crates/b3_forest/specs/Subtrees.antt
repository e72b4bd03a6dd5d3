-- The pieces of an upload in a map, by their first chunk.
use Rattle.std.specs.Prelude.{◌≡◌, ℕ, suc, ◌+◌, ◌*◌, ◌^◌, ◌<◌, ◌≤◌, ◌⊎◌, nat_lt, true, List, [], ◌∷◌, map, length, Option, Some}
use Rattle.std.specs.BTreeMap.{is_at}
use Rattle.std.specs.List.Sorted.{IsStrictlySortedBy}
use Rattle.std.specs.Map.{keys_of, lookup}
use Rattle.std.specs.Ordering.{nat_cmp}
use Rattle.b3_forest.specs.Forests.{IsForest, IsPiece}
use Rattle.store_upload.specs.Uploads.{ArePlaced, last_end, max_bytes}
use Rattle.b3_forest.specs.Parts.{HeldPart, chunk_in}
use Rattle.b3_forest.specs.Pieces.{max_chunks, root_level}
use Rattle.b3_forest.specs.declared.piece.Subtree.{Subtree}
use Rattle.b3_forest.specs.declared.piece.Piece.{Piece}

abbrev pub Subtrees : Type 0
Subtrees = List (ℕ × Subtree)

abbrev pub piece_from : ℕ × Subtree → Piece
piece_from e = record { first = e.0; level = e.1.level; top = e.1.top }

abbrev pub pieces_in : Subtrees → List Piece
pieces_in es = map piece_from es

-- the subtree of the piece that starts at chunk s
abbrev pub subtree_at : Subtrees → ℕ → Option Subtree
subtree_at es s = lookup (is_at (nat_cmp s)) es

-- the subtrees are those of lawful pieces, disjoint and within the chunks that an upload may have
pub record ArePieces (x : ℕ → List ℕ) (es : Subtrees) : Type 0 where
  pub lawful : (s : ℕ) (n : Subtree) → subtree_at es s ≡ Some n → IsPiece x (piece_from (s, n))
  pub within : (s : ℕ) (n : Subtree) → subtree_at es s ≡ Some n → s + 2 ^ n.level ≤ max_chunks
  pub apart : (s t : ℕ) (n m : Subtree) → subtree_at es s ≡ Some n → subtree_at es t ≡ Some m → s < t → s + 2 ^ n.level ≤ t

-- chunk i is in a piece
pub record HasChunk (es : Subtrees) (i : ℕ) : Type 0 where
  pub first : ℕ
  pub subtree : Subtree
  pub is : subtree_at es first ≡ Some subtree
  pub after : first ≤ i
  pub before : i < first + 2 ^ subtree.level

abbrev pub HaveAll : (ℕ → List ℕ) → Subtrees → Type 0
HaveAll x es = (i : ℕ) → nat_lt 0 (length (x i)) ≡ true → i < max_chunks → HasChunk es i

-- the pieces at s and directly after it are the halves of one aligned range
pub record AreHalvesAt (es : Subtrees) (s : ℕ) : Type 0 where
  pub left : Subtree
  pub right : Subtree
  pub is_left : subtree_at es s ≡ Some left
  pub is_right : subtree_at es (s + 2 ^ left.level) ≡ Some right
  pub level : right.level ≡ left.level
  pub aligned : (c : ℕ) × (s ≡ c * 2 ^ suc left.level)

-- the number is in the list
abbrev pub IsAmong : ℕ → List ℕ → Type 0
IsAmong s [] = ⊥
IsAmong s (d ∷ ds) = (s ≡ d) ⊎ IsAmong s ds

-- halves remain only if one of them starts at one of these chunks
abbrev pub AreSettled : List ℕ → Subtrees → Type 0
AreSettled ds es = (s : ℕ) (h : AreHalvesAt es s) → IsAmong s ds ⊎ IsAmong (s + 2 ^ h.left.level) ds

-- the subtrees are a canonical forest of what is held, except for halves at these chunks
pub record AreForest (x : ℕ → List ℕ) (ds : List ℕ) (es : Subtrees) : Type 0 where
  pub pieces : ArePieces x es
  pub all : HaveAll x es
  pub settled : AreSettled ds es

-- ---- an upload

-- the subtrees are those of an upload of n bytes that holds these parts
pub record Keeps (n : ℕ) (ps : List HeldPart) (es : Subtrees) : Type 0 where
  pub most : n ≤ max_bytes
  pub placed : ArePlaced length n 0 ps
  pub forest : AreForest (chunk_in ps) [] es
  pub sorted : IsStrictlySortedBy nat_cmp (keys_of es)

-- the pieces kept in this way are a canonical forest of what the parts hold
abbrev pub KeptIsForest : Type 0
KeptIsForest = (n : ℕ) (ps : List HeldPart) (es : Subtrees) → Keeps n ps es → IsForest (chunk_in ps) root_level 0 (pieces_in es)

-- the pieces are those of these parts, the last of which ends at `end`
pub record AreHashed (end : ℕ) (ps : List HeldPart) (es : Subtrees) : Type 0 where
  pub end_is : end ≡ last_end length ps
  pub keeps : Keeps end ps es
