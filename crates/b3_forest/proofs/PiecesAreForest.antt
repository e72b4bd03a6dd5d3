-- What halving finds is a canonical forest.
use Rattle.std.proofs.Common.{◌≡◌, ℕ, zero, suc, ◌+◌, ◌*◌, ◌^◌, ◌≤◌, ◌++◌, List, [], ◌∷◌, true, false, arith, refl, ap, ap₂, subst, sym, ◌∙◌, inl, inr}
use Rattle.std.proofs.lemmas.Bool.{cases_lt}
use Rattle.std.proofs.lemmas.Nat.{pow_pos}
use Rattle.std.proofs.Math.Pow.{pow_mono}
use Rattle.std.proofs.Math.Nat.{two-pow-succ}
use Rattle.b3_forest.specs.Forests.{piece_end, IsPiece, IsRow, Covers, AreHalves, NoHalves, IsForest}
use Rattle.b3_forest.specs.Pieces.{is_full, pieces_of, piece_at}
use Rattle.b3_forest.specs.declared.piece.Piece.{Piece}
use Rattle.b3_forest.proofs.OneForest.{below_multiple, lower_multiple, bool_cases, full_one, both_full, pieces_of-none_held}
use Rattle.b3_forest.proofs.Ranges.{pieces_of-full, pieces_of-halves}

-- one piece over the whole range
one_piece : (x : ℕ → List ℕ) (k s q : ℕ) → s ≡ q * 2 ^ k → is_full x k s ≡ true → IsForest x k s (piece_at x k s ∷ [])
one_piece x k s q is full = record {
  row = (omega arith, omega arith, record { aligned = (q, is); full = full; value = refl }, tt);
  covers = λ i after before held. inl (after, before);
  no_halves = tt;
}

no_piece : (x : ℕ → List ℕ) (s : ℕ) → is_full x zero s ≡ false → IsForest x zero s []
no_piece x s none = record {
  row = tt;
  covers = λ i after before held.
      let same : i ≡ s = omega arith in
      let empty = sym (full_one x s) ∙ none in
      let some = rw same at held in
      cc;
  no_halves = tt;
}

-- ---- two rows in one

row_from : (x : ℕ → List ℕ) (e a b : ℕ) (ps : List Piece) → a ≤ b → IsRow x e b ps → IsRow x e a ps
row_from x e a b [] low row = tt
row_from x e a b (p ∷ ps) low row = (omega (arith, row.0), row.1, row.2, row.3)

row_append : (x : ℕ → List ℕ) (e a m : ℕ) (l r : List Piece) → a ≤ m → m ≤ e → IsRow x m a l → IsRow x e m r → IsRow x e a (l ++ r)
row_append x e a m [] r low high left right = row_from x e a m r low right
row_append x e a m (p ∷ l) r low high left right =
    (left.0, omega (arith, left.1), left.2, row_append x e (piece_end p) m l r left.1 high left.3 right)

covers_left : (l r : List Piece) (i : ℕ) → Covers l i → Covers (l ++ r) i
covers_left [] r i covered = absurd covered
covers_left (p ∷ l) r i (inl within) = inl within
covers_left (p ∷ l) r i (inr later) = inr (covers_left l r i later)

covers_right : (l r : List Piece) (i : ℕ) → Covers r i → Covers (l ++ r) i
covers_right [] r i covered = covered
covers_right (p ∷ l) r i covered = inr (covers_right l r i covered)

-- ---- the middle

-- pieces on either side of the middle are no halves, unless both sides are full
boundary : (x : ℕ → List ℕ) (k s c : ℕ) (p q : Piece) → s + 2 ^ k ≡ c * 2 ^ k → is_full x (suc k) s ≡ false
    → s ≤ p.first → piece_end p ≤ s + 2 ^ k → IsPiece x p → s + 2 ^ k ≤ q.first → IsPiece x q → AreHalves p q → ⊥
boundary x k s c p q middle part after before left following right halves =
    let meet : piece_end p ≡ s + 2 ^ k = omega (arith, halves.next) in
    elim (cases_lt p.level k) [
      | inl low ↦
          let w = 2 ^ suc p.level in
          let d = lower_multiple k (suc p.level) (s + 2 ^ k) c middle (omega arith) in
          let two = two-pow-succ p.level in
          let positive = pow_pos p.level in
          let a = halves.aligned in
          let step = below_multiple w a.0 d.0 (omega (arith, a.1, d.1, meet, positive)) in
          omega (arith, a.1, d.1, meet, step, two, positive)
      | inr high ↦
          let up : 2 ^ k ≤ 2 ^ p.level = pow_mono (omega arith) in
          let first : p.first ≡ s = omega (arith, up, meet) in
          let level : p.level ≡ k = elim (cases_lt k p.level) [
            | inl wide ↦
                let more : 2 ^ suc k ≤ 2 ^ p.level = pow_mono (omega arith) in
                let two = two-pow-succ k in
                let positive = pow_pos k in
                absurd (omega (arith, more, two, meet, positive))
            | inr same ↦ omega arith
          ] in
          let left_full : is_full x k s ≡ true = ap₂ (λ i j. is_full x i j) (sym level) (sym first) ∙ left.full in
          let next : q.first ≡ s + 2 ^ k = omega (arith, halves.next, meet) in
          let right_full : is_full x k (s + 2 ^ k) ≡ true = ap₂ (λ i j. is_full x i j) (sym (halves.level ∙ level)) (sym next) ∙ right.full in
          let full = both_full x k s left_full right_full in
          cc
    ]

no_halves_append : (x : ℕ → List ℕ) (k s c a e : ℕ) (l r : List Piece) → s + 2 ^ k ≡ c * 2 ^ k → is_full x (suc k) s ≡ false
    → s ≤ a → IsRow x (s + 2 ^ k) a l → IsRow x e (s + 2 ^ k) r → NoHalves l → NoHalves r → NoHalves (l ++ r)
no_halves_append x k s c a e [] r middle part low left right none_left none_right = none_right
no_halves_append x k s c a e (p ∷ []) [] middle part low left right none_left none_right = tt
no_halves_append x k s c a e (p ∷ []) (q ∷ r) middle part low left right none_left none_right =
    (boundary x k s c p q middle part (omega (arith, left.0)) left.1 left.2 right.0 right.2, none_right)
no_halves_append x k s c a e (p ∷ q ∷ l) r middle part low left right none_left none_right =
    let positive = pow_pos p.level in
    (none_left.0, no_halves_append x k s c (piece_end p) e (q ∷ l) r middle part (omega (arith, left.0, positive)) left.3 right none_left.1 none_right)

-- ---- the whole

joined : (x : ℕ → List ℕ) (k s c : ℕ) (l r : List Piece) → s + 2 ^ k ≡ c * 2 ^ k → is_full x (suc k) s ≡ false
    → IsForest x k s l → IsForest x k (s + 2 ^ k) r → IsForest x (suc k) s (l ++ r)
joined x k s c l r middle part left right =
    let two = two-pow-succ k in
    let m = s + 2 ^ k in
    let e = s + 2 ^ suc k in
    let end : m + 2 ^ k ≡ e = omega (arith, two) in
    let right_row = subst (λ i. IsRow x i m r) end right.row in
    record {
      row = row_append x e s m l r (omega arith) (omega (arith, two)) left.row right_row;
      covers = λ i after before held. elim (cases_lt i m) [
        | inl first ↦ covers_left l r i (left.covers i after first held)
        | inr second ↦ covers_right l r i (right.covers i second (omega (arith, before, two)) held)
      ];
      no_halves = no_halves_append x k s c s e l r middle part (omega arith) left.row right_row left.no_halves right.no_halves;
    }

pub pieces_are_forest : (x : ℕ → List ℕ) (k s q : ℕ) → s ≡ q * 2 ^ k → IsForest x k s (pieces_of x k s)
pieces_are_forest x zero s q is =
    elim (bool_cases (is_full x zero s)) [
      | inl full ↦ subst (IsForest x zero s) (sym (pieces_of-full x zero s full)) (one_piece x zero s q is full)
      | inr none ↦ subst (IsForest x zero s) (sym (pieces_of-none_held x s none)) (no_piece x s none)
    ]
pieces_are_forest x (suc k) s q is =
    let two = two-pow-succ k in
    let twice : s ≡ (q + q) * 2 ^ k = is ∙ ap (λ i. q * i) two ∙ omega arith in
    let middle : s + 2 ^ k ≡ (q + q + 1) * 2 ^ k = omega (arith, twice) in
    elim (bool_cases (is_full x (suc k) s)) [
      | inl full ↦ subst (IsForest x (suc k) s) (sym (pieces_of-full x (suc k) s full)) (one_piece x (suc k) s q is full)
      | inr part ↦ subst (IsForest x (suc k) s) (sym (pieces_of-halves x k s part))
          (joined x k s (q + q + 1) (pieces_of x k s) (pieces_of x k (s + 2 ^ k)) middle part
          (pieces_are_forest x k s (q + q) twice) (pieces_are_forest x k (s + 2 ^ k) (q + q + 1) middle))
    ]
