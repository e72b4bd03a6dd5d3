-- Finding the other half of a piece.
use Rattle.std.proofs.Common.{◌≡◌, ℕ, suc, ◌+◌, ◌-◌, ◌*◌, ◌/◌, ◌%◌, ◌^◌, ◌<◌, ◌≤◌, List, Some, arith, refl, ap, ap₂, sym, ◌∙◌, inl, inr}
use Rattle.std.specs.Prelude.{◌≢◌}
use Rattle.std.proofs.lemmas.Bool.{cases_lt}
use Rattle.std.proofs.lemmas.Nat.{pow_pos}
use Rattle.std.proofs.Math.Nat.{two-pow-succ, mul-div_cancel, mul-le-mul_right}
use Rattle.std.proofs.Math.Pow.{pow_mono}
use Rattle.b3_forest.specs.Subtrees.{Subtrees, ArePieces, subtree_at}
use Rattle.b3_forest.specs.inner.Subtrees.{IsAlone, IsOtherHalf, IsPair}
use Rattle.b3_forest.specs.Pieces.{root_level}
use Rattle.b3_forest.specs.declared.piece.Subtree.{Subtree}
use Rattle.b3_forest.proofs.Merging.{some_same}

-- ---- multiples

even_multiple : (q w v : ℕ) → v ≡ w + w → q % 2 ≡ 0 → q * w ≡ (q / 2) * v
even_multiple q w v twice even =
    let half : q ≡ q / 2 + q / 2 = omega (arith, even) in
    let spread : (q / 2 + q / 2) * w ≡ (q / 2) * (w + w) = omega arith in
    ap (λ i. i * w) half ∙ spread ∙ ap (λ i. (q / 2) * i) (sym twice)

odd_multiple : (q w v : ℕ) → v ≡ w + w → q % 2 ≢ 0 → q * w ≡ (q / 2) * v + w
odd_multiple q w v twice odd =
    let half : q ≡ q / 2 + q / 2 + 1 = omega (arith, odd) in
    let spread : (q / 2 + q / 2 + 1) * w ≡ (q / 2) * (w + w) + w = omega arith in
    ap (λ i. i * w) half ∙ spread ∙ ap (λ i. (q / 2) * i + w) (sym twice)

quotient : (first width l q : ℕ) → width ≡ 2 ^ l → first ≡ q * 2 ^ l → first / width ≡ q
quotient first width l q wide is = ap₂ (λ i j. i / j) is wide ∙ mul-div_cancel q (pow_pos l)

pub after_left : (first width l q : ℕ) → width ≡ 2 ^ l → first ≡ q * 2 ^ l → (first / width) % 2 ≡ 0 → IsOtherHalf first l (first + width)
after_left first width l q wide is even =
    let two = two-pow-succ l in
    let parity : q % 2 ≡ 0 = ap (λ i. i % 2) (sym (quotient first width l q wide is)) ∙ even in
    inl ((q / 2, is ∙ even_multiple q (2 ^ l) (2 ^ suc l) two parity), omega (arith, wide))

pub before_right : (first width l q : ℕ) → width ≡ 2 ^ l → first ≡ q * 2 ^ l → (first / width) % 2 ≢ 0 → IsOtherHalf first l (first - width)
before_right first width l q wide is odd =
    let two = two-pow-succ l in
    let parity : q % 2 ≢ 0 = λ h. odd (ap (λ i. i % 2) (quotient first width l q wide is) ∙ h) in
    let split = is ∙ odd_multiple q (2 ^ l) (2 ^ suc l) two parity in
    let c = (q / 2) * 2 ^ suc l in
    let place : first - width ≡ c = omega (arith, wide, split) in
    inr ((q / 2, place), omega (arith, place, split))

-- no multiple of twice a width is another one and the width
no_both : (c d w v : ℕ) → v ≡ w + w → 0 < w → c * v ≡ d * v + w → ⊥
no_both c d w v twice some same = elim (cases_lt d c) [
  | inl less ↦ let up : (d + 1) * v ≤ c * v = mul-le-mul_right v (omega (arith, less)) in omega (arith, up, twice, some, same)
  | inr not_less ↦ let down : c * v ≤ d * v = mul-le-mul_right v not_less in omega (arith, down, twice, some, same)
]

-- ---- pairs

pub other_alone : (es : Subtrees) (first place : ℕ) (subtree : Subtree) → subtree_at es first ≡ Some subtree → IsOtherHalf first subtree.level place
    → ((m : Subtree) → subtree_at es place ≡ Some m → m.level ≢ subtree.level) → IsAlone es first
other_alone es first place subtree here (inl left) no_other s h =
    let two = two-pow-succ subtree.level in
    let some = pow_pos subtree.level in (
      (λ same.
          let is : h.left ≡ subtree = some_same h.left subtree (sym h.is_left ∙ ap (subtree_at es) (sym same) ∙ here) in
          let wide : s + 2 ^ h.left.level ≡ place = ap₂ (λ i (k : Subtree). i + 2 ^ k.level) (sym same) is ∙ sym left.1 in
          no_other h.right (ap (subtree_at es) (sym wide) ∙ h.is_right) (h.level ∙ ap (λ (k : Subtree). k.level) is)),
      (λ same.
          let is : h.right ≡ subtree = some_same h.right subtree (sym h.is_right ∙ ap (subtree_at es) (sym same) ∙ here) in
          let level : h.left.level ≡ subtree.level = sym h.level ∙ ap (λ (k : Subtree). k.level) is in
          let a = h.aligned in
          let c = left.0 in
          let right : c.0 * 2 ^ suc subtree.level ≡ a.0 * 2 ^ suc subtree.level + 2 ^ subtree.level =
          sym c.1 ∙ same ∙ ap₂ (λ i j. i + 2 ^ j) (a.1 ∙ ap (λ j. a.0 * 2 ^ suc j) level) level in
          no_both c.0 a.0 (2 ^ subtree.level) (2 ^ suc subtree.level) two some right),
    )
other_alone es first place subtree here (inr right) no_other s h =
    let two = two-pow-succ subtree.level in
    let some = pow_pos subtree.level in (
      (λ same.
          let is : h.left ≡ subtree = some_same h.left subtree (sym h.is_left ∙ ap (subtree_at es) (sym same) ∙ here) in
          let level : h.left.level ≡ subtree.level = ap (λ (k : Subtree). k.level) is in
          let a = h.aligned in
          let c = right.0 in
          let both : a.0 * 2 ^ suc subtree.level ≡ c.0 * 2 ^ suc subtree.level + 2 ^ subtree.level =
          sym (a.1 ∙ ap (λ j. a.0 * 2 ^ suc j) level) ∙ sym same ∙ right.1 ∙ ap (λ i. i + 2 ^ subtree.level) c.1 in
          no_both a.0 c.0 (2 ^ subtree.level) (2 ^ suc subtree.level) two some both),
      (λ same.
          let is : h.right ≡ subtree = some_same h.right subtree (sym h.is_right ∙ ap (subtree_at es) (sym same) ∙ here) in
          let level : h.left.level ≡ subtree.level = sym h.level ∙ ap (λ (k : Subtree). k.level) is in
          let wide : 2 ^ h.left.level ≡ 2 ^ subtree.level = ap (λ j. 2 ^ j) level in
          let at : s ≡ place = omega (arith, same, right.1, wide) in
          no_other h.left (ap (subtree_at es) (sym at) ∙ h.is_left) level),
    )

-- the level of a half is below that of all chunks
low_level : (x : ℕ → List ℕ) (es : Subtrees) (s l : ℕ) (m : Subtree) → ArePieces x es → subtree_at es (s + 2 ^ l) ≡ Some m → m.level ≡ l → l < root_level
low_level x es s l m pieces is level =
    let most = pieces.within (s + 2 ^ l) m is in
    let wide : 2 ^ m.level ≡ 2 ^ l = ap (λ j. 2 ^ j) level in
    elim (cases_lt l root_level) [
      | inl low ↦ low
      | inr high ↦ let up : 2 ^ root_level ≤ 2 ^ l = pow_mono high in absurd (omega (arith, up, most, wide))
    ]

pub pair_of : (x : ℕ → List ℕ) (es : Subtrees) (first place : ℕ) (subtree other : Subtree) → ArePieces x es → subtree_at es first ≡ Some subtree → subtree_at es place ≡ Some other
    → other.level ≡ subtree.level → IsOtherHalf first subtree.level place → first < place
    → IsPair es first (record { left = first; right = place; level = subtree.level; left_top = subtree.top; right_top = other.top })
pair_of x es first place subtree other pieces here there level (inl left) before = record {
  is_left = here;
  is_right = there ∙ ap (λ i. Some (record { level = i; top = other.top })) level;
  next = left.1;
  one = inl refl;
  aligned = left.0;
  low = low_level x es first subtree.level other pieces (ap (subtree_at es) (sym left.1) ∙ there) level;
}
pair_of x es first place subtree other pieces here there level (inr right) before = absurd (omega (arith, right.1, before))

pub pair_to : (x : ℕ → List ℕ) (es : Subtrees) (first place : ℕ) (subtree other : Subtree) → ArePieces x es → subtree_at es first ≡ Some subtree → subtree_at es place ≡ Some other
    → other.level ≡ subtree.level → IsOtherHalf first subtree.level place → (first < place → ⊥)
    → IsPair es first (record { left = place; right = first; level = subtree.level; left_top = other.top; right_top = subtree.top })
pair_to x es first place subtree other pieces here there level (inl left) after = let some = pow_pos subtree.level in absurd (after (omega (arith, left.1, some)))
pair_to x es first place subtree other pieces here there level (inr right) after = record {
  is_left = there ∙ ap (λ i. Some (record { level = i; top = other.top })) level;
  is_right = here;
  next = right.1;
  one = inr refl;
  aligned = right.0;
  low = low_level x es place subtree.level subtree pieces (ap (subtree_at es) (sym right.1) ∙ here) refl;
}

-- no piece is wider than all chunks
pub level_most : (x : ℕ → List ℕ) (es : Subtrees) (s : ℕ) (n : Subtree) → ArePieces x es → subtree_at es s ≡ Some n → n.level ≤ root_level
level_most x es s n pieces is = elim (cases_lt root_level n.level) [
  | inl high ↦
      let most = pieces.within s n is in
      let up : 2 ^ suc root_level ≤ 2 ^ n.level = pow_mono high in
      absurd (omega (arith, up, most))
  | inr low ↦ low
]

-- where the other half of a piece begins
pub other_place : (x : ℕ → List ℕ) (es : Subtrees) (first : ℕ) (subtree : Subtree) (width place : ℕ) → ArePieces x es → subtree_at es first ≡ Some subtree
    → width ≡ 2 ^ subtree.level
    → ((l q : ℕ) → width ≡ 2 ^ l → first ≡ q * 2 ^ l → IsOtherHalf first l place) → IsOtherHalf first subtree.level place
other_place x es first subtree width place pieces here wide other =
    let aligned = (pieces.lawful first subtree here).aligned in
    other subtree.level aligned.0 wide aligned.1
