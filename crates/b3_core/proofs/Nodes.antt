-- The nodes of the tree, and where a length is cut.
use Rattle.std.proofs.Common.{◌≡◌, ℕ, zero, suc, ◌+◌, ◌-◌, ◌*◌, ◌/◌, ◌^◌, ◌<◌, ◌≤◌, ◌++◌, replicate, List, [], ◌∷◌, length, slice_index, take, drop, nat_lt, true, false, arith, refl, ap, sym, ◌∙◌, inl, inr}
use Rattle.std.proofs.lemmas.Bool.Decides.{nat_tests}
use Rattle.std.proofs.lemmas.Bool.{cases_lt}
use Rattle.std.proofs.lemmas.List.{take_all, length-take-le, length-drop, append-nil, take_at, drop_at, length-append}
use Rattle.std.proofs.lemmas.Nat.{pow_pos}
use Rattle.std.proofs.Math.Pow.{pow_mono}
use Rattle.std.proofs.Math.Nat.{two-pow-succ}
use Rattle.b3_core.specs.Compression.{compress_of}
use Rattle.b3_core.specs.Tree.{ModelMode, ModelTop, block_words_of, start_flag, chain, chunk_top, parent_top, chaining_value_of, chunk_count, power_below, left_length, tree_top_within, tree_top}

-- a list of eight words is the list of its words
pub eight : (l : List ℕ) → length l ≡ 8
    → slice_index l 0 ∷ slice_index l 1 ∷ slice_index l 2 ∷ slice_index l 3
    ∷ slice_index l 4 ∷ slice_index l 5 ∷ slice_index l 6 ∷ slice_index l 7 ∷ [] ≡ l
eight (a ∷ b ∷ c ∷ d ∷ e ∷ f ∷ g ∷ h ∷ []) len = refl
eight [] len = absurd (omega arith)
eight (a ∷ []) len = absurd (omega arith)
eight (a ∷ b ∷ []) len = absurd (omega arith)
eight (a ∷ b ∷ c ∷ []) len = absurd (omega arith)
eight (a ∷ b ∷ c ∷ d ∷ []) len = absurd (omega arith)
eight (a ∷ b ∷ c ∷ d ∷ e ∷ []) len = absurd (omega arith)
eight (a ∷ b ∷ c ∷ d ∷ e ∷ f ∷ []) len = absurd (omega arith)
eight (a ∷ b ∷ c ∷ d ∷ e ∷ f ∷ g ∷ []) len = absurd (omega arith)
eight (a ∷ b ∷ c ∷ d ∷ e ∷ f ∷ g ∷ h ∷ i ∷ xs) len = absurd (omega arith)

-- one more block of a chunk_top
pub chain_step : (x : List ℕ) (c : ℕ) (p : ModelMode) (j : ℕ) (h m : List ℕ) (f : ℕ) → h ≡ chain x c p j
    → m ≡ block_words_of (take 64 (drop (64 * j) x)) → f ≡ p.flag + start_flag j
    → take 8 (compress_of h m c 64 f) ≡ chain x c p (j + 1)
unfolding chain
chain_step x c p j h m f at block flags =
    let plus : suc j ≡ j + 1 = omega arith in
    rw (← plus, at, block, flags) refl

-- a chunk's last block
pub chunk_is : (x : List ℕ) (c : ℕ) (p : ModelMode) (j : ℕ) (h m : List ℕ) (b d : ℕ) → j ≡ (length x - 1) / 64
    → h ≡ chain x c p j → m ≡ block_words_of (drop (64 * j) x) → b ≡ length x - 64 * j → d ≡ p.flag + start_flag j + 2
    → record { chaining_value = h; block_words = m; counter = c; block_len = b; flags = d } ≡ chunk_top x c p
unfolding chunk_top
chunk_is x c p j h m b d last at block len flags =
    let short : length (drop (64 * j) x) ≤ 64 = rw (length-drop (64 * j) x) (omega arith) in
    let whole : take 64 (drop (64 * j) x) ≡ drop (64 * j) x = take_all 64 (drop (64 * j) x) short in
    rw (← last, whole, at, block, len, flags) refl

-- the chaining value of a whole chunk
pub whole_chunk_value : (x : List ℕ) (c : ℕ) (p : ModelMode) (h m : List ℕ) (d : ℕ) → length x ≡ 1024
    → h ≡ chain x c p 15 → m ≡ block_words_of (take 64 (drop 960 x)) → d ≡ p.flag + 2
    → take 8 (compress_of h m c 64 d) ≡ chaining_value_of (chunk_top x c p)
unfolding chunk_top
whole_chunk_value x c p h m d len at block flags =
    let last : (length x - 1) / 64 ≡ 15 = omega arith in
    let width : length x - 64 * 15 ≡ 64 = omega arith in
    let none : p.flag + 0 + 2 ≡ p.flag + 2 = omega arith in
    rw (last, width, none, at, block, flags) refl

-- a parent of two nodes with these chaining values
pub parent_is : (l r : ModelTop) (p : ModelMode) (h m : List ℕ) (d : ℕ) → h ≡ p.key
    → m ≡ chaining_value_of l ++ chaining_value_of r → d ≡ p.flag + 4
    → record { chaining_value = h; block_words = m; counter = 0; block_len = 64; flags = d } ≡ parent_top l r p
unfolding parent_top
parent_is l r p h m d key words flags = rw (key, words, flags) refl

-- its chaining value
pub parent_value : (l r : ModelTop) (p : ModelMode) (h m : List ℕ) (d : ℕ) → h ≡ p.key
    → m ≡ chaining_value_of l ++ chaining_value_of r → d ≡ p.flag + 4 → take 8 (compress_of h m 0 64 d) ≡ chaining_value_of (parent_top l r p)
parent_value l r p h m d key words flags = ap chaining_value_of (parent_is l r p h m d key words flags)

-- ---- where a length is cut

-- a power of two below k, with the next one not below k, is the greatest below k
pub power_is : (n k j : ℕ) → 2 ^ j < k → k ≤ 2 * 2 ^ j → j ≤ n → power_below n k ≡ 2 ^ j
unfolding power_below
power_is zero k zero below above within = refl
power_is zero k (suc j) below above within = absurd (omega arith)
power_is (suc n) k j below above within =
    elim (cases_lt (2 ^ suc n) k) [
      | inl under ↦
          let is_top : j ≡ suc n = elim (cases_lt j (suc n)) [
            | inl less ↦
                let up : 2 ^ suc j ≤ 2 ^ suc n = pow_mono (omega arith) in
                absurd (omega (arith, two-pow-succ j))
            | inr same ↦ omega arith
          ] in
          let test : nat_lt (2 ^ suc n) k ≡ true = grind (arith, nat_tests) in
          rw (test, power_below) (ap (λ i. 2 ^ i) (sym is_top))
      | inr over ↦
          let test : nat_lt (2 ^ suc n) k ≡ false = grind (arith, nat_tests) in
          let less : j ≤ n = elim (cases_lt n j) [
            | inl more ↦
                let up : 2 ^ suc n ≤ 2 ^ j = pow_mono (omega arith) in
                absurd (omega arith)
            | inr fine ↦ fine
          ] in
          rw (test, power_below) (power_is n k j below above less)
    ]

-- a power of two is at least its exponent
power_grows : (j : ℕ) → j < 2 ^ j
power_grows zero = omega arith
power_grows (suc j) = omega (arith, power_grows j, two-pow-succ j)

-- the cut of a length, by doubling
pub split_is : (n j : ℕ) → 1024 * 2 ^ j < n → n ≤ 2 * (1024 * 2 ^ j) → 1024 * 2 ^ j ≡ left_length n
unfolding left_length
split_is n j below above =
    let k = chunk_count n in
    let e : power_below k k ≡ 2 ^ j = power_is k k j (omega arith) (omega arith) (omega (arith, power_grows j)) in
    rw e refl

-- the greatest power of two below k, above 1, is in range
power_range : (n k : ℕ) → 1 < k → (0 < power_below n k) × (power_below n k < k)
unfolding power_below
power_range zero k more = (omega arith, more)
power_range (suc n) k more =
    elim (cases_lt (2 ^ suc n) k) [
      | inl under ↦
          let test : nat_lt (2 ^ suc n) k ≡ true = grind (arith, nat_tests) in
          let grows = power_grows (suc n) in
          rw (test, power_below) (omega arith, under)
      | inr over ↦
          let test : nat_lt (2 ^ suc n) k ≡ false = grind (arith, nat_tests) in
          rw (test, power_below) (power_range n k more)
    ]

pub split_range : (n : ℕ) → 1024 < n → (0 < left_length n) × (left_length n < n)
unfolding left_length
split_range n more =
    let k = chunk_count n in
    let r = power_range k k (omega arith) in
    (omega (arith, r.0), omega (arith, r.1))

-- ---- the tree_top node

-- as many cuts as bytes, or more, are enough
top_enough : (n m : ℕ) (x : List ℕ) (c : ℕ) (p : ModelMode) → length x ≤ n → length x ≤ m
    → tree_top_within n x c p ≡ tree_top_within m x c p
unfolding tree_top_within
top_enough zero zero x c p low high = refl
top_enough zero (suc m) x c p low high =
    let test : nat_lt 1024 (length x) ≡ false = grind (arith, nat_tests) in
    rw (test, tree_top_within) refl
top_enough (suc n) zero x c p low high =
    let test : nat_lt 1024 (length x) ≡ false = grind (arith, nat_tests) in
    rw (test, tree_top_within) refl
top_enough (suc n) (suc m) x c p low high =
    elim (cases_lt 1024 (length x)) [
      | inl long ↦
          let test : nat_lt 1024 (length x) ≡ true = grind (arith, nat_tests) in
          let s = left_length (length x) in
          let r = split_range (length x) long in
          let front : length (take s x) ≡ s = length-take-le s x (omega (arith, r.1)) in
          let back : length (drop s x) ≡ length x - s = length-drop s x in
          let left = top_enough n m (take s x) c p (omega (arith, front, r.1)) (omega (arith, front, r.1)) in
          let right = top_enough n m (drop s x) (c + s / 1024) p (omega (arith, back, r.0)) (omega (arith, back, r.0)) in
          rw (test, tree_top_within, left, right) refl
      | inr short ↦
          let test : nat_lt 1024 (length x) ≡ false = grind (arith, nat_tests) in
          rw (test, tree_top_within) refl
    ]

-- one chunk_top is its own tree_top
top_one : (n : ℕ) (x : List ℕ) (c : ℕ) (p : ModelMode) → length x ≤ 1024 → tree_top_within n x c p ≡ chunk_top x c p
unfolding tree_top_within
top_one zero x c p short = refl
top_one (suc n) x c p short =
    let test : nat_lt 1024 (length x) ≡ false = grind (arith, nat_tests) in
    rw (test, tree_top_within) refl

pub top_short : (x : List ℕ) (c : ℕ) (p : ModelMode) → length x ≤ 1024 → tree_top x c p ≡ chunk_top x c p
unfolding tree_top
top_short x c p short = top_one (length x) x c p short

-- more bytes are cut
top_two : (n : ℕ) (x : List ℕ) (c : ℕ) (p : ModelMode) → 1024 < length x → length x ≤ suc n
    → tree_top_within (suc n) x c p ≡ parent_top (tree_top (take (left_length (length x)) x) c p)
    (tree_top (drop (left_length (length x)) x) (c + left_length (length x) / 1024) p) p
unfolding tree_top tree_top_within
top_two n x c p long fuel =
    let test : nat_lt 1024 (length x) ≡ true = grind (arith, nat_tests) in
    let s = left_length (length x) in
    let r = split_range (length x) long in
    let front : length (take s x) ≡ s = length-take-le s x (omega (arith, r.1)) in
    let back : length (drop s x) ≡ length x - s = length-drop s x in
    let left = top_enough n (length (take s x)) (take s x) c p (omega (arith, front, r.1)) (omega arith) in
    let right = top_enough n (length (drop s x)) (drop s x) (c + s / 1024) p (omega (arith, back, r.0)) (omega arith) in
    rw (test, tree_top_within, left, right) refl

top_length : (n : ℕ) (x : List ℕ) (c : ℕ) (p : ModelMode) → length x ≡ n → 1024 < n
    → tree_top_within n x c p ≡ parent_top (tree_top (take (left_length (length x)) x) c p)
    (tree_top (drop (left_length (length x)) x) (c + left_length (length x) / 1024) p) p
top_length zero x c p is long = absurd (omega arith)
top_length (suc n) x c p is long = top_two n x c p (omega arith) (omega arith)

pub top_long : (x : List ℕ) (c : ℕ) (p : ModelMode) → 1024 < length x
    → tree_top x c p ≡ parent_top (tree_top (take (left_length (length x)) x) c p)
    (tree_top (drop (left_length (length x)) x) (c + left_length (length x) / 1024) p) p
unfolding tree_top
top_long x c p long = top_length (length x) x c p refl long

-- a parent_top of the tops of the two sides of a cut is the tree_top
pub top_cut : (x : List ℕ) (c : ℕ) (p : ModelMode) (l r : ModelTop) (s : ℕ) → 1024 < length x → s ≡ left_length (length x)
    → l ≡ tree_top (take s x) c p → r ≡ tree_top (drop s x) (c + s / 1024) p → parent_top l r p ≡ tree_top x c p
top_cut x c p l r s long cut left right =
    rw (left, right, cut) (sym (top_long x c p long))

-- a block filled with zeros has the block's words
pub block_filled : (x z : List ℕ) → length z ≡ 64 → z ≡ x ++ replicate (64 - length x) 0 → block_words_of z ≡ block_words_of x
block_filled x z len filled =
    let none : 64 - length z ≡ 0 = omega arith in
    let same : z ++ replicate (64 - length z) 0 ≡ x ++ replicate (64 - length x) 0 = rw none (append-nil z ∙ filled) in
    rw same refl

-- two neighbours: the left one a power of two of whole chunks, the right one not longer
pub top_join : (l r : List ℕ) (c k : ℕ) (p : ModelMode) → length l ≡ 1024 * 2 ^ k → 0 < length r → length r ≤ 1024 * 2 ^ k
    → parent_top (tree_top l c p) (tree_top r (c + 2 ^ k) p) p ≡ tree_top (l ++ r) c p
top_join l r c k p whole some fits =
    let len = length-append l r in
    let pos = pow_pos k in
    let cut : length l ≡ left_length (length (l ++ r)) = whole ∙ split_is (length (l ++ r)) k (omega (arith, len)) (omega (arith, len)) in
    let chunks : c + 2 ^ k ≡ c + length l / 1024 = omega arith in
    top_cut (l ++ r) c p (tree_top l c p) (tree_top r (c + 2 ^ k) p) (length l) (omega (arith, len)) cut
    (ap (λ (x : List ℕ). tree_top x c p) (sym (take_at l r (length l) refl)))
    (ap (λ (x : List ℕ). tree_top x (c + 2 ^ k) p) (sym (drop_at l r (length l) refl)) ∙ ap (λ (n : ℕ). tree_top (drop (length l) (l ++ r)) n p) chunks)
