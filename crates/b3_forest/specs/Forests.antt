-- Canonical forests: the pieces of what is held, independently of how they were found.
use Rattle.std.specs.Prelude.{◌≡◌, ℕ, suc, ◌+◌, ◌*◌, ◌^◌, ◌<◌, ◌≤◌, ◌⊎◌, nat_lt, true, List, [], ◌∷◌, length}
use Rattle.b3_forest.specs.Pieces.{is_full, piece_at, pieces_of, root_level}
use Rattle.b3_forest.specs.declared.piece.Piece.{Piece}

-- the first chunk after a piece
abbrev pub piece_end : Piece → ℕ
piece_end p = p.first + 2 ^ p.level

-- a lawful piece: it starts at a multiple of its width, all of its chunks are held, and its value is that of the tree over their bytes
pub record IsPiece (x : ℕ → List ℕ) (p : Piece) : Type 0 where
  pub aligned : (q : ℕ) × (p.first ≡ q * 2 ^ p.level)
  pub full : is_full x p.level p.first ≡ true
  pub value : p ≡ piece_at x p.level p.first

-- lawful pieces from chunk a on, in order and disjoint, none beyond chunk e
abbrev pub IsRow : (ℕ → List ℕ) → ℕ → ℕ → List Piece → Type 0
IsRow x e a [] = Unit {0}
IsRow x e a (p ∷ ps) = (a ≤ p.first) × (piece_end p ≤ e) × IsPiece x p × IsRow x e (piece_end p) ps

-- chunk i is in one of the pieces
abbrev pub Covers : List Piece → ℕ → Type 0
Covers [] i = ⊥
Covers (p ∷ ps) i = ((p.first ≤ i) × (i < piece_end p)) ⊎ Covers ps i

-- the left and the right half of one aligned range
pub record AreHalves (p q : Piece) : Type 0 where
  pub level : q.level ≡ p.level
  pub next : q.first ≡ piece_end p
  pub aligned : (c : ℕ) × (p.first ≡ c * 2 ^ suc p.level)

-- no two neighbours are the halves of one aligned range; halves are always neighbours in the order of pieces
abbrev pub NoHalves : List Piece → Type 0
NoHalves [] = Unit {0}
NoHalves (p ∷ []) = Unit {0}
NoHalves (p ∷ q ∷ ps) = (AreHalves p q → ⊥) × NoHalves (q ∷ ps)

-- a canonical forest of what is held of 2 ^ k chunks from chunk s on: lawful pieces, sorted and disjoint, which cover exactly the held
-- chunks, and no two of which are the halves of one aligned range
pub record IsForest (x : ℕ → List ℕ) (k s : ℕ) (ps : List Piece) : Type 0 where
  pub row : IsRow x (s + 2 ^ k) s ps
  pub covers : (i : ℕ) → s ≤ i → i < s + 2 ^ k → nat_lt 0 (length (x i)) ≡ true → Covers ps i
  pub no_halves : NoHalves ps

-- there is only one canonical forest of what is held: the pieces that halving finds. So the number of pieces is a function of the held
-- chunks alone
abbrev pub OneForest : Type 0
OneForest = (x : ℕ → List ℕ) (ps : List Piece) → IsForest x root_level 0 ps → ps ≡ pieces_of x root_level 0

-- and these pieces are a canonical forest
abbrev pub PiecesAreForest : Type 0
PiecesAreForest = (x : ℕ → List ℕ) → IsForest x root_level 0 (pieces_of x root_level 0)
