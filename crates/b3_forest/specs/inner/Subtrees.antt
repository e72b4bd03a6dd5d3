-- Definitions for private functions, in addition to specs/Subtrees.
use Rattle.std.specs.Prelude.{◌≡◌, ◌≢◌, ℕ, suc, ◌+◌, ◌-◌, ◌*◌, ◌^◌, ◌<◌, ◌≤◌, ◌⊎◌, Bool, nat_lt, true, false, List, [], ◌∷◌, map, length, min, Option, Some, None}
use Rattle.std.specs.BTreeMap.{insert_entry}
use Rattle.std.specs.Ordering.{nat_cmp}
use Rattle.b3_core.specs.Modes.{hash_mode}
use Rattle.b3_core.specs.Tree.{ModelTop, chunk_len, parent_top}
use Rattle.store_upload.specs.Uploads.{Fits, closed_plan, first_gap}
use Rattle.b3_forest.specs.Parts.{HeldPart, Part}
use Rattle.b3_forest.specs.Pieces.{root_level}
use Rattle.b3_forest.specs.inner.Uploads.{overlap_at}
use Rattle.b3_forest.specs.declared.subtrees.Halves.{Halves}
use Rattle.b3_forest.specs.declared.piece.Subtree.{Subtree}
use Rattle.b3_forest.specs.declared.piece.Piece.{Piece}
use Rattle.b3_forest.specs.Subtrees.{Subtrees, subtree_at, ArePieces, AreHalvesAt, AreForest, Keeps}

abbrev pub subtree_of : Piece → Subtree
subtree_of p = record { level = p.level; top = p.top }

-- these pieces inserted, one after the other
unfoldable pub with_subtrees : List Piece → Subtrees → Subtrees
with_subtrees [] es = es
with_subtrees (p ∷ ps) es = with_subtrees ps (insert_entry nat_cmp es p.first (subtree_of p))

-- the subtrees are lawful pieces of some chunks
abbrev pub ArePiecesOfSome : Subtrees → Type 0
ArePiecesOfSome es = (x : ℕ → List ℕ) × ArePieces x es

-- the first chunks of these pieces
abbrev pub firsts : List Piece → List ℕ
firsts ps = map (λ p. p.first) ps

-- ---- chunks

abbrev pub is_held : (ℕ → List ℕ) → ℕ → Bool
is_held x i = nat_lt 0 (length (x i))

-- what is held of n bytes: whole chunks, except for the last
abbrev pub AreChunks : ℕ → (ℕ → List ℕ) → Type 0
AreChunks n x = (i : ℕ) → is_held x i ≡ true → length (x i) ≡ min chunk_len (n - chunk_len * i)

-- the subtrees are a canonical forest of what is held of some upload, except for halves at these chunks
pub record IsSettling (ds : List ℕ) (es : Subtrees) : Type 0 where
  pub len : ℕ
  pub chunks : ℕ → List ℕ
  pub whole : AreChunks len chunks
  pub forest : AreForest chunks ds es

-- the lowest chunk from a to below e that is held
pub record IsLeastHeld (x : ℕ → List ℕ) (a e c : ℕ) : Type 0 where
  pub after : a ≤ c
  pub before : c < e
  pub held : is_held x c ≡ true
  pub least : (i : ℕ) → a ≤ i → i < c → is_held x i ≡ false

abbrev pub NoneHeld : (ℕ → List ℕ) → ℕ → ℕ → Type 0
NoneHeld x a e = (i : ℕ) → a ≤ i → i < e → is_held x i ≡ false

-- the lowest chunk that is not held
pub record IsFirstGap (x : ℕ → List ℕ) (c : ℕ) : Type 0 where
  pub held : (i : ℕ) → i < c → is_held x i ≡ true
  pub gap : is_held x c ≡ false

-- a piece ends here, or nothing comes before
abbrev pub IsBound : Subtrees → ℕ → Type 0
IsBound es c = (c ≡ 0) ⊎ ((s : ℕ) × (n : Subtree) × (subtree_at es s ≡ Some n) × (s + 2 ^ n.level ≡ c))

-- ---- the top

abbrev pub over : Subtree → Option ModelTop → Option ModelTop
over n None = Some n.top
over n (Some right) = Some (parent_top n.top right hash_mode)

-- the top over pieces, each the left side of those to its right, when followed by a top to their right
unfoldable pub top_before : List Subtree → Option ModelTop → Option ModelTop
top_before [] right = right
top_before (n ∷ ns) right = over n (top_before ns right)

abbrev pub top_over : List Subtree → Option ModelTop
top_over ns = top_before ns None

-- the number of parents still to be made
abbrev pub parents_left : List Subtree → Option ModelTop → ℕ
parents_left ns None = length ns - 1
parents_left ns (Some right) = length ns

-- ---- an upload

-- none of these pieces is there, and they differ
unfoldable pub AreFresh : List Piece → Subtrees → Type 0
AreFresh [] es = Unit {0}
AreFresh (p ∷ ps) es = (subtree_at es p.first ≡ None) × AreFresh ps (insert_entry nat_cmp es p.first (subtree_of p))

-- the subtrees are those of some parts of an upload of n bytes
abbrev pub AreOfUpload : ℕ → Subtrees → Type 0
AreOfUpload n es = (ps : List HeldPart) × Keeps n ps es

-- the subtrees are those of parts that start at offset 0 and leave no offset out
pub record AreWhole (n : ℕ) (ps : List HeldPart) (es : Subtrees) : Type 0 where
  pub keeps : Keeps n ps es
  pub all : first_gap length 0 ps ≡ n

-- the subtrees are those of an upload of n bytes, this part fits it, and none of the part's offsets is held
pub record HaveRoom (n : ℕ) (ps : List HeldPart) (p : Part) (es : Subtrees) : Type 0 where
  pub keeps : Keeps n ps es
  pub fits : Fits (closed_plan n) p.offset (length p.bytes)
  pub apart : overlap_at p ps ≡ None

-- ---- halves

-- where the other half starts: after a left half, or before a right half
abbrev pub IsOtherHalf : ℕ → ℕ → ℕ → Type 0
IsOtherHalf first l place = (((c : ℕ) × (first ≡ c * 2 ^ suc l)) × (place ≡ first + 2 ^ l)) ⊎ (((c : ℕ) × (place ≡ c * 2 ^ suc l)) × (first ≡ place + 2 ^ l))

-- what a pair of halves is: both are pieces of one level, and one of them starts at the chunk
pub record IsPair (es : Subtrees) (first : ℕ) (h : Halves) : Type 0 where
  pub is_left : subtree_at es h.left ≡ Some (record { level = h.level; top = h.left_top })
  pub is_right : subtree_at es h.right ≡ Some (record { level = h.level; top = h.right_top })
  pub next : h.right ≡ h.left + 2 ^ h.level
  pub one : (first ≡ h.left) ⊎ (first ≡ h.right)
  pub aligned : (c : ℕ) × (h.left ≡ c * 2 ^ suc h.level)
  pub low : h.level < root_level

-- there are no halves one of which starts at the chunk
abbrev pub IsAlone : Subtrees → ℕ → Type 0
IsAlone es first = (s : ℕ) (h : AreHalvesAt es s) → (first ≢ s) × (first ≢ s + 2 ^ h.left.level)

-- both pieces of a pair, whatever they are
pub record AreBoth (es : Subtrees) (h : Halves) : Type 0 where
  pub is_left : subtree_at es h.left ≡ Some (record { level = h.level; top = h.left_top })
  pub is_right : subtree_at es h.right ≡ Some (record { level = h.level; top = h.right_top })
  pub differ : h.left ≢ h.right

-- the parent of a pair replaces it
pub record IsMerged (es fs : Subtrees) (h : Halves) : Type 0 where
  pub at_left : subtree_at fs h.left ≡ Some (record { level = suc h.level; top = parent_top h.left_top h.right_top hash_mode })
  pub at_right : subtree_at fs h.right ≡ None
  pub others : (q : ℕ) → q ≢ h.left → q ≢ h.right → subtree_at fs q ≡ subtree_at es q

-- ---- positions

-- the last piece that starts at a chunk or before it; or there is none
pub record IsLastUpto (es : Subtrees) (start first : ℕ) (n : Subtree) : Type 0 where
  pub upto : first ≤ start
  pub is : subtree_at es first ≡ Some n
  pub last : (s : ℕ) (m : Subtree) → subtree_at es s ≡ Some m → s ≤ start → s ≤ first

abbrev pub NoneUpto : Subtrees → ℕ → Type 0
NoneUpto es start = (s : ℕ) (m : Subtree) → subtree_at es s ≡ Some m → start < s

-- where the first piece starts, from a chunk to below another; or there is none
pub record IsNextFrom (es : Subtrees) (start end first : ℕ) : Type 0 where
  pub from : start ≤ first
  pub below : first < end
  pub is : (n : Subtree) × (subtree_at es first ≡ Some n)
  pub next : (s : ℕ) (m : Subtree) → subtree_at es s ≡ Some m → start ≤ s → first ≤ s

abbrev pub NoneFrom : Subtrees → ℕ → ℕ → Type 0
NoneFrom es start end = (s : ℕ) (m : Subtree) → subtree_at es s ≡ Some m → start ≤ s → end ≤ s
