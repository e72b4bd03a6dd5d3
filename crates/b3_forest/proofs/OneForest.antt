-- A canonical forest is what halving finds.
use Rattle.std.proofs.Common.{◌≡◌, ℕ, zero, suc, ◌+◌, ◌*◌, ◌^◌, ◌<◌, ◌≤◌, ◌⊎◌, ◌++◌, List, [], ◌∷◌, length, nat_lt, true, false, arith, refl, ap, ap₂, subst, sym, ◌∙◌, inl, inr}
use Rattle.std.specs.Prelude.{Bool, ◌&&◌}
use Rattle.std.proofs.lemmas.Bool.Decides.{nat_tests}
use Rattle.std.proofs.lemmas.Bool.{cases_lt}
use Rattle.std.proofs.lemmas.Nat.{pow_pos}
use Rattle.std.proofs.Math.Pow.{pow_mono}
use Rattle.std.proofs.Math.Nat.{two-pow-succ, mul-le-mul_right}
use Rattle.b3_forest.specs.Forests.{piece_end, IsPiece, IsRow, Covers, NoHalves, IsForest}
use Rattle.b3_forest.specs.Pieces.{is_full, pieces_of, piece_at}
use Rattle.b3_forest.specs.declared.piece.Piece.{Piece}
use Rattle.b3_forest.proofs.Ranges.{pieces_of-full, pieces_of-halves}

-- ---- multiples

-- a multiple below another is below it by the width
pub below_multiple : (w q c : ℕ) → q * w < c * w → q * w + w ≤ c * w
below_multiple w q c below =
    elim (cases_lt q c) [
      | inl less ↦ let up : (q + 1) * w ≤ c * w = mul-le-mul_right w (omega arith) in omega (arith, up)
      | inr not_less ↦ let down : c * w ≤ q * w = mul-le-mul_right w not_less in absurd (omega (arith, down))
    ]

-- a multiple of a power of two is one of each lower power
pub lower_multiple : (k l m c : ℕ) → m ≡ c * 2 ^ k → l ≤ k → (d : ℕ) × (m ≡ d * 2 ^ l)
lower_multiple zero l m c is low =
    let none : l ≡ 0 = omega arith in (c, is ∙ ap (λ i. c * 2 ^ i) (sym none))
lower_multiple (suc k) l m c is low =
    elim (cases_lt k l) [
      | inl same ↦ let e : l ≡ suc k = omega arith in (c, is ∙ ap (λ i. c * 2 ^ i) (sym e))
      | inr less ↦
          let two = two-pow-succ k in
          let twice : c * 2 ^ suc k ≡ (c + c) * 2 ^ k = ap (λ i. c * i) two ∙ omega arith in
          lower_multiple k l m (c + c) (is ∙ twice) less
    ]

-- ---- a row in two

-- the pieces that begin before chunk m, and the others
front : ℕ → List Piece → List Piece
front m [] = []
front m (p ∷ ps) = elim (nat_lt p.first m) [ true ↦ p ∷ front m ps | false ↦ [] ]

back : ℕ → List Piece → List Piece
back m [] = []
back m (p ∷ ps) = elim (nat_lt p.first m) [ true ↦ back m ps | false ↦ p ∷ ps ]

front_back : (m : ℕ) (ps : List Piece) → ps ≡ front m ps ++ back m ps
unfolding front back
front_back m [] = refl
front_back m (p ∷ ps) =
    elim (cases_lt p.first m) [
      | inl before ↦
          let test : nat_lt p.first m ≡ true = grind (arith, nat_tests) in
          rw (test, front, back) (ap (λ (l : List Piece). p ∷ l) (front_back m ps))
      | inr after ↦
          let test : nat_lt p.first m ≡ false = grind (arith, nat_tests) in
          rw (test, front, back) refl
    ]

-- all pieces are narrower than 2 ^ suc k chunks
Low : ℕ → List Piece → Type 0
Low k [] = Unit {0}
Low k (p ∷ ps) = (p.level ≤ k) × Low k ps

-- a piece within 2 ^ suc k chunks from s on that doesn't begin there is narrower
narrow : (k s first level : ℕ) → s < first → first + 2 ^ level ≤ s + 2 ^ suc k → level ≤ k
narrow k s first level after within =
    elim (cases_lt k level) [
      | inl wide ↦ let up : 2 ^ suc k ≤ 2 ^ level = pow_mono (omega arith) in absurd (omega (arith, up))
      | inr low ↦ low
    ]

all_low : (x : ℕ → List ℕ) (k s a : ℕ) (ps : List Piece) → s < a → IsRow x (s + 2 ^ suc k) a ps → Low k ps
unfolding Low
all_low x k s a [] after row = tt
all_low x k s a (p ∷ ps) after row =
    let positive = pow_pos p.level in
    (narrow k s p.first p.level (omega (arith, row.0)) row.1, all_low x k s (piece_end p) ps (omega (arith, row.0, positive)) row.3)

-- the front of a row of narrow pieces ends at the middle
front_row : (x : ℕ → List ℕ) (k e a m c : ℕ) (ps : List Piece) → m ≡ c * 2 ^ k → Low k ps → IsRow x e a ps → IsRow x m a (front m ps)
unfolding Low front
front_row x k e a m c [] middle low row = tt
front_row x k e a m c (p ∷ ps) middle low row =
    elim (cases_lt p.first m) [
      | inl before ↦
          let test : nat_lt p.first m ≡ true = grind (arith, nat_tests) in
          let d = lower_multiple k p.level m c middle low.0 in
          let q = row.2.aligned in
          let w = 2 ^ p.level in
          let step = below_multiple w q.0 d.0 (omega (arith, q.1, d.1, before)) in
          rw (test, front) (row.0, omega (arith, q.1, d.1, step), row.2, front_row x k e (piece_end p) m c ps middle low.1 row.3)
      | inr after ↦
          let test : nat_lt p.first m ≡ false = grind (arith, nat_tests) in
          rw (test, front) tt
    ]

-- the back of a row begins at the middle
back_row : (x : ℕ → List ℕ) (e a m : ℕ) (ps : List Piece) → IsRow x e a ps → IsRow x e m (back m ps)
unfolding back
back_row x e a m [] row = tt
back_row x e a m (p ∷ ps) row =
    elim (cases_lt p.first m) [
      | inl before ↦
          let test : nat_lt p.first m ≡ true = grind (arith, nat_tests) in
          rw (test, back) (back_row x e (piece_end p) m ps row.3)
      | inr after ↦
          let test : nat_lt p.first m ≡ false = grind (arith, nat_tests) in
          rw (test, back) (after, row.1, row.2, row.3)
    ]

-- a row with no room is empty
row_empty : (x : ℕ → List ℕ) (e a : ℕ) (ps : List Piece) → e ≤ a → IsRow x e a ps → ps ≡ []
row_empty x e a [] none row = refl
row_empty x e a (p ∷ ps) none row =
    let positive = pow_pos p.level in absurd (omega (arith, row.0, row.1, positive))

-- what a row covers lies after its start
covers_after : (x : ℕ → List ℕ) (e a i : ℕ) (ps : List Piece) → IsRow x e a ps → Covers ps i → a ≤ i
covers_after x e a i [] row covered = absurd covered
covers_after x e a i (p ∷ ps) row (inl within) = omega (arith, row.0, within.0)
covers_after x e a i (p ∷ ps) row (inr later) =
    let positive = pow_pos p.level in
    let after = covers_after x e (piece_end p) i ps row.3 later in
    omega (arith, row.0, after, positive)

covers_front : (x : ℕ → List ℕ) (e a m i : ℕ) (ps : List Piece) → IsRow x e a ps → i < m → Covers ps i → Covers (front m ps) i
unfolding front
covers_front x e a m i [] row before covered = absurd covered
covers_front x e a m i (p ∷ ps) row before (inl within) =
    let test : nat_lt p.first m ≡ true = (let less : p.first < m = omega (arith, within.0, before) in grind (arith, nat_tests)) in
    rw (test, front) (inl within)
covers_front x e a m i (p ∷ ps) row before (inr later) =
    let positive = pow_pos p.level in
    let after = covers_after x e (piece_end p) i ps row.3 later in
    let less : p.first < m = omega (arith, after, before, positive) in
    let test : nat_lt p.first m ≡ true = grind (arith, nat_tests) in
    rw (test, front) (inr (covers_front x e (piece_end p) m i ps row.3 before later))

covers_back : (x : ℕ → List ℕ) (k e a m c i : ℕ) (ps : List Piece) → m ≡ c * 2 ^ k → Low k ps → IsRow x e a ps → m ≤ i
    → Covers ps i → Covers (back m ps) i
unfolding Low back
covers_back x k e a m c i [] middle low row after covered = absurd covered
covers_back x k e a m c i (p ∷ ps) middle low row after covered =
    elim (cases_lt p.first m) [
      | inr following ↦
          let test : nat_lt p.first m ≡ false = grind (arith, nat_tests) in
          rw (test, back) covered
      | inl before ↦
          let test : nat_lt p.first m ≡ true = grind (arith, nat_tests) in
          let d = lower_multiple k p.level m c middle low.0 in
          let q = row.2.aligned in
          let step = below_multiple (2 ^ p.level) q.0 d.0 (omega (arith, q.1, d.1, before)) in
          rw (test, back) (elim covered [
            | inl within ↦ absurd (omega (arith, within.1, q.1, d.1, step, after))
            | inr later ↦ covers_back x k e (piece_end p) m c i ps middle low.1 row.3 after later
          ])
    ]

-- ---- neighbours

no_halves_tail : (p : Piece) (ps : List Piece) → NoHalves (p ∷ ps) → NoHalves ps
no_halves_tail p [] none = tt
no_halves_tail p (q ∷ ps) none = none.1

no_halves_left : (l r : List Piece) → NoHalves (l ++ r) → NoHalves l
no_halves_left [] r none = tt
no_halves_left (p ∷ []) r none = tt
no_halves_left (p ∷ q ∷ l) r none = (none.0, no_halves_left (q ∷ l) r none.1)

no_halves_right : (l r : List Piece) → NoHalves (l ++ r) → NoHalves r
no_halves_right [] r none = none
no_halves_right (p ∷ l) r none = no_halves_right l r (no_halves_tail p (l ++ r) none)

-- ---- full ranges

pub bool_cases : (b : Bool) → (b ≡ true) ⊎ (b ≡ false)
bool_cases true = inl refl
bool_cases false = inr refl

and_true : (a b : Bool) → (a && b) ≡ true → (a ≡ true) × (b ≡ true)
and_true true b both = (refl, both)
and_true false b both = cc

pub full_halves : (x : ℕ → List ℕ) (k s : ℕ) → is_full x (suc k) s ≡ true → (is_full x k s ≡ true) × (is_full x k (s + 2 ^ k) ≡ true)
unfolding is_full
full_halves x k s full = and_true (is_full x k s) (is_full x k (s + 2 ^ k)) full

pub both_full : (x : ℕ → List ℕ) (k s : ℕ) → is_full x k s ≡ true → is_full x k (s + 2 ^ k) ≡ true → is_full x (suc k) s ≡ true
unfolding is_full
both_full x k s left right = rw (left, right) refl

pub full_one : (x : ℕ → List ℕ) (s : ℕ) → is_full x zero s ≡ nat_lt 0 (length (x s))
unfolding is_full
full_one x s = refl

pub pieces_of-none_held : (x : ℕ → List ℕ) (s : ℕ) → is_full x zero s ≡ false → pieces_of x zero s ≡ []
unfolding pieces_of
pieces_of-none_held x s none = rw (none, pieces_of) refl

-- ---- one forest

-- one piece over the whole range
whole_range : (x : ℕ → List ℕ) (k s : ℕ) (p : Piece) (ps : List Piece) → p.level ≡ k → p.first ≡ s
    → IsPiece x p → IsRow x (s + 2 ^ k) (piece_end p) ps → p ∷ ps ≡ pieces_of x k s
whole_range x k s p ps level first lawful row =
    let same : is_full x k s ≡ true = ap₂ (λ i j. is_full x i j) (sym level) (sym first) ∙ lawful.full in
    let is : p ≡ piece_at x k s = lawful.value ∙ ap₂ (λ i j. piece_at x i j) level first in
    let width : 2 ^ p.level ≡ 2 ^ k = ap (λ i. 2 ^ i) level in
    let rest : ps ≡ [] = row_empty x (s + 2 ^ k) (piece_end p) ps (omega (arith, first, width)) row in
    ap₂ (λ (q : Piece) (l : List Piece). q ∷ l) is rest ∙ sym (pieces_of-full x k s same)

one_chunk : (x : ℕ → List ℕ) (s : ℕ) (ps : List Piece) → IsForest x zero s ps → ps ≡ pieces_of x zero s
one_chunk x s [] forest =
    elim (bool_cases (is_full x zero s)) [
      | inl held ↦ absurd (forest.covers s (omega arith) (omega arith) (sym (full_one x s) ∙ held))
      | inr none ↦ sym (pieces_of-none_held x s none)
    ]
one_chunk x s (p ∷ ps) forest =
    let row = forest.row in
    let positive = pow_pos p.level in
    let level : p.level ≡ zero = elim (cases_lt 0 p.level) [
      | inl wide ↦ let up : 2 ^ 1 ≤ 2 ^ p.level = pow_mono {i = 1} (omega arith) in absurd (omega (arith, up, row.0, row.1))
      | inr none ↦ omega arith
    ] in
    whole_range x zero s p ps level (omega (arith, row.0, row.1, positive)) row.2 row.3

-- the halves of a forest of narrow pieces are forests
left_forest : (x : ℕ → List ℕ) (k s c : ℕ) (ps : List Piece) → s + 2 ^ k ≡ c * 2 ^ k → Low k ps → IsForest x (suc k) s ps
    → IsForest x k s (front (s + 2 ^ k) ps)
left_forest x k s c ps middle low forest =
    let two = two-pow-succ k in
    let m = s + 2 ^ k in
    record {
      row = front_row x k (s + 2 ^ suc k) s m c ps middle low forest.row;
      covers = λ i after before held.
          covers_front x (s + 2 ^ suc k) s m i ps forest.row before (forest.covers i after (omega (arith, before, two)) held);
      no_halves = no_halves_left (front m ps) (back m ps) (subst NoHalves (front_back m ps) forest.no_halves);
    }

right_forest : (x : ℕ → List ℕ) (k s c : ℕ) (ps : List Piece) → s + 2 ^ k ≡ c * 2 ^ k → Low k ps → IsForest x (suc k) s ps
    → IsForest x k (s + 2 ^ k) (back (s + 2 ^ k) ps)
right_forest x k s c ps middle low forest =
    let two = two-pow-succ k in
    let m = s + 2 ^ k in
    let end : s + 2 ^ suc k ≡ m + 2 ^ k = omega (arith, two) in
    record {
      row = subst (λ e. IsRow x e m (back m ps)) end (back_row x (s + 2 ^ suc k) s m ps forest.row);
      covers = λ i after before held.
          covers_back x k (s + 2 ^ suc k) s m c i ps middle low forest.row after (forest.covers i (omega (arith, after)) (omega (arith, before, two)) held);
      no_halves = no_halves_right (front m ps) (back m ps) (subst NoHalves (front_back m ps) forest.no_halves);
    }

-- two full halves would be one piece
not_both : (x : ℕ → List ℕ) (k s q : ℕ) (ps : List Piece) → s ≡ q * 2 ^ suc k → NoHalves ps
    → ps ≡ piece_at x k s ∷ piece_at x k (s + 2 ^ k) ∷ [] → ⊥
not_both x k s q ps is none both =
    let two = subst NoHalves both none in
    two.0 (record { level = refl; next = refl; aligned = (q, is) })

-- a forest is one wide piece, or all its pieces are narrow
by_width : (x : ℕ → List ℕ) (k s : ℕ) (ps : List Piece) → IsForest x (suc k) s ps
    → (Low k ps → ps ≡ pieces_of x (suc k) s) → ps ≡ pieces_of x (suc k) s
unfolding Low
by_width x k s [] forest halved = halved tt
by_width x k s (p ∷ ps) forest halved =
    let row = forest.row in
    let positive = pow_pos p.level in
    elim (cases_lt k p.level) [
      | inr low ↦ halved (low, all_low x k s (piece_end p) ps (omega (arith, row.0, positive)) row.3)
      | inl wide ↦
          let up : 2 ^ suc k ≤ 2 ^ p.level = pow_mono (omega arith) in
          let level : p.level ≡ suc k = elim (cases_lt (suc k) p.level) [
            | inl wider ↦
                let more : 2 ^ suc (suc k) ≤ 2 ^ p.level = pow_mono (omega arith) in
                let two = two-pow-succ (suc k) in
                absurd (omega (arith, more, two, row.0, row.1, pow_pos (suc k)))
            | inr same ↦ omega arith
          ] in
          whole_range x (suc k) s p ps level (omega (arith, row.0, row.1, up)) row.2 row.3
    ]

pub one_forest : (x : ℕ → List ℕ) (k s q : ℕ) (ps : List Piece) → s ≡ q * 2 ^ k → IsForest x k s ps → ps ≡ pieces_of x k s
one_forest x zero s q ps is forest = one_chunk x s ps forest
one_forest x (suc k) s q ps is forest =
    let two = two-pow-succ k in
    let twice : s ≡ (q + q) * 2 ^ k = is ∙ ap (λ i. q * i) two ∙ omega arith in
    let middle : s + 2 ^ k ≡ (q + q + 1) * 2 ^ k = omega (arith, twice) in
    let m = s + 2 ^ k in
    let halved : Low k ps → ps ≡ pieces_of x (suc k) s = λ low.
    let left = one_forest x k s (q + q) (front m ps) twice (left_forest x k s (q + q + 1) ps middle low forest) in
    let right = one_forest x k m (q + q + 1) (back m ps) middle (right_forest x k s (q + q + 1) ps middle low forest) in
    let both : ps ≡ pieces_of x k s ++ pieces_of x k m = front_back m ps ∙ ap₂ (λ (l r : List Piece). l ++ r) left right in
    elim (bool_cases (is_full x (suc k) s)) [
      | inr part ↦ both ∙ sym (pieces_of-halves x k s part)
      | inl full ↦
          let h = full_halves x k s full in
          absurd (not_both x k s q ps is forest.no_halves
          (both ∙ ap₂ (λ (l r : List Piece). l ++ r) (pieces_of-full x k s h.0) (pieces_of-full x k m h.1)))
    ] in
    by_width x k s ps forest halved
