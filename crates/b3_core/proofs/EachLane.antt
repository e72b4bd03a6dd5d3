-- Facts of each lane, of any number of them or of eight.
use Rattle.std.proofs.Common.{◌≡◌, ℕ, zero, suc, ◌<◌, ◌≤◌, ◌+◌, ◌-◌, ◌*◌, ◌/◌, ◌%◌, ◌^◌, List, [], ◌∷◌, ◌++◌, length, take, drop, replicate, get_or, slice_index, slice_index_or, bit_or, Fits, w32, nat_lt, true, arith, refl, ap, sym, ◌∙◌}
use Rattle.std.proofs.lemmas.Bool.Decides.{nat_tests}
use Rattle.std.proofs.lemmas.List.{append-nil, length-map, length-drop, length-take-le, get_or-map, get_or-take, get_or-drop}
use Rattle.std.proofs.Math.Nat.{mul-le-mul_left}
use Rattle.b3_core.specs.Lanes.{chunk_bytes}
use Rattle.b3_core.specs.inner.Lanes.{lane, across}
use Rattle.std.specs.Simd.Lanes.{Each1, zip2}
use Rattle.std.proofs.lemmas.Simd.{below_from_Fits, Each1-get_or, get_or-zip2, get_or-replicate, length-replicate, length-zip2}
use Rattle.b3_core.specs.inner.Compression.{turned}
use Rattle.b3_core.specs.Tree.{word_at, block, block_words_of}
use Rattle.b3_core.proofs.Nodes.{eight}

-- what holds of each of the eight lanes
pub below_eight : (P : ℕ → Type 0) → P 0 → P 1 → P 2 → P 3 → P 4 → P 5 → P 6 → P 7 → (j : ℕ) → j < 8 → P j
below_eight P p0 p1 p2 p3 p4 p5 p6 p7 zero h = p0
below_eight P p0 p1 p2 p3 p4 p5 p6 p7 (suc zero) h = p1
below_eight P p0 p1 p2 p3 p4 p5 p6 p7 (suc (suc zero)) h = p2
below_eight P p0 p1 p2 p3 p4 p5 p6 p7 (suc (suc (suc zero))) h = p3
below_eight P p0 p1 p2 p3 p4 p5 p6 p7 (suc (suc (suc (suc zero)))) h = p4
below_eight P p0 p1 p2 p3 p4 p5 p6 p7 (suc (suc (suc (suc (suc zero))))) h = p5
below_eight P p0 p1 p2 p3 p4 p5 p6 p7 (suc (suc (suc (suc (suc (suc zero)))))) h = p6
below_eight P p0 p1 p2 p3 p4 p5 p6 p7 (suc (suc (suc (suc (suc (suc (suc zero))))))) h = p7
below_eight P p0 p1 p2 p3 p4 p5 p6 p7 (suc (suc (suc (suc (suc (suc (suc (suc n)))))))) h = absurd (omega arith)

-- what holds of each of four
pub below_four : (P : ℕ → Type 0) → P 0 → P 1 → P 2 → P 3 → (j : ℕ) → j < 4 → P j
below_four P p0 p1 p2 p3 zero h = p0
below_four P p0 p1 p2 p3 (suc zero) h = p1
below_four P p0 p1 p2 p3 (suc (suc zero)) h = p2
below_four P p0 p1 p2 p3 (suc (suc (suc zero))) h = p3
below_four P p0 p1 p2 p3 (suc (suc (suc (suc n)))) h = absurd (omega arith)

-- what holds of each list of four elements
pub four_lanes : (P : List ℕ → Type 0) → ((a b c d : ℕ) → P (a ∷ b ∷ c ∷ d ∷ [])) → (xs : List ℕ) → length xs ≡ 4 → P xs
four_lanes P p (a ∷ b ∷ c ∷ d ∷ []) len = p a b c d
four_lanes P p [] len = absurd (omega arith)
four_lanes P p (a ∷ []) len = absurd (omega arith)
four_lanes P p (a ∷ b ∷ []) len = absurd (omega arith)
four_lanes P p (a ∷ b ∷ c ∷ []) len = absurd (omega arith)
four_lanes P p (a ∷ b ∷ c ∷ d ∷ e ∷ xs) len = absurd (omega arith)

-- what holds of each list of eight elements
pub eight_lanes : (P : List ℕ → Type 0) → ((a b c d e f g h : ℕ) → P (a ∷ b ∷ c ∷ d ∷ e ∷ f ∷ g ∷ h ∷ [])) → (xs : List ℕ) → length xs ≡ 8 → P xs
eight_lanes P p (a ∷ b ∷ c ∷ d ∷ e ∷ f ∷ g ∷ h ∷ []) len = p a b c d e f g h
eight_lanes P p [] len = absurd (omega arith)
eight_lanes P p (a ∷ []) len = absurd (omega arith)
eight_lanes P p (a ∷ b ∷ []) len = absurd (omega arith)
eight_lanes P p (a ∷ b ∷ c ∷ []) len = absurd (omega arith)
eight_lanes P p (a ∷ b ∷ c ∷ d ∷ []) len = absurd (omega arith)
eight_lanes P p (a ∷ b ∷ c ∷ d ∷ e ∷ []) len = absurd (omega arith)
eight_lanes P p (a ∷ b ∷ c ∷ d ∷ e ∷ f ∷ []) len = absurd (omega arith)
eight_lanes P p (a ∷ b ∷ c ∷ d ∷ e ∷ f ∷ g ∷ []) len = absurd (omega arith)
eight_lanes P p (a ∷ b ∷ c ∷ d ∷ e ∷ f ∷ g ∷ h ∷ i ∷ xs) len = absurd (omega arith)

-- the word of lane j in vector k of some
pub lane_word : {V : Type 0} (word : V → ℕ → ℕ) (j : ℕ) (x : List V) (n : ℕ) → length x ≡ n → (k : ℕ) (d : V) → nat_lt k n ≡ true
    → word (get_or x k d) j ≡ slice_index (lane word j x) k
lane_word word j x n len k d below = sym (get_or-map (λ v. word v j) x k d 0 (grind (arith, nat_tests)))

-- the words of a lane of eight vectors
pub eight_words : {V : Type 0} (word : V → ℕ → ℕ) (j : ℕ) (x : List V) → length x ≡ 8
    → slice_index (lane word j x) 0 ∷ slice_index (lane word j x) 1 ∷ slice_index (lane word j x) 2 ∷ slice_index (lane word j x) 3
    ∷ slice_index (lane word j x) 4 ∷ slice_index (lane word j x) 5 ∷ slice_index (lane word j x) 6 ∷ slice_index (lane word j x) 7 ∷ [] ≡ lane word j x
eight_words word j x len = eight (lane word j x) (length-map x (λ v. word v j) ∙ len)

-- each lane is a word
pub lane_below : (n : ℕ) (xs : List ℕ) → (length xs ≡ n) × Each1 (Fits w32) xs → (j : ℕ) → j < n → slice_index xs j < 2 ^ 32
lane_below n xs fits j h =
    Each1-get_or (λ x. x < 2 ^ 32) xs j 0 (omega (arith, fits.0, h)) (below_from_Fits w32 xs fits.1)

-- the lanes of even and of odd numbers of two vectors
abbrev evens : List ℕ → List ℕ → List ℕ
evens a b =
    slice_index_or (a ++ b) 0 0 ∷ slice_index_or (a ++ b) 2 0 ∷ slice_index_or (a ++ b) 4 0 ∷ slice_index_or (a ++ b) 6 0
    ∷ slice_index_or (a ++ b) 8 0 ∷ slice_index_or (a ++ b) 10 0 ∷ slice_index_or (a ++ b) 12 0 ∷ slice_index_or (a ++ b) 14 0 ∷ []

abbrev odds : List ℕ → List ℕ → List ℕ
odds a b =
    slice_index_or (a ++ b) 1 0 ∷ slice_index_or (a ++ b) 3 0 ∷ slice_index_or (a ++ b) 5 0 ∷ slice_index_or (a ++ b) 7 0
    ∷ slice_index_or (a ++ b) 9 0 ∷ slice_index_or (a ++ b) 11 0 ∷ slice_index_or (a ++ b) 13 0 ∷ slice_index_or (a ++ b) 15 0 ∷ []

abbrev Fronts : List ℕ → List ℕ → Type 0
Fronts a b = (j : ℕ) → j < 4 → (slice_index (evens a b) j ≡ slice_index a (2 * j)) × (slice_index (odds a b) j ≡ slice_index a (2 * j + 1))

abbrev Backs : List ℕ → List ℕ → Type 0
Backs a b = (j : ℕ) → j < 4 → (slice_index (evens a b) (j + 4) ≡ slice_index b (2 * j)) × (slice_index (odds a b) (j + 4) ≡ slice_index b (2 * j + 1))

-- the first four of them come from the first vector, the others from the second one
pub parted_lanes : (a : List ℕ) → length a ≡ 8 → (b : List ℕ) → length b ≡ 8 → Fronts a b × Backs a b
parted_lanes =
    eight_lanes (λ a. (b : List ℕ) → length b ≡ 8 → Fronts a b × Backs a b) (λ a0 a1 a2 a3 a4 a5 a6 a7.
    eight_lanes (λ b. Fronts (a0 ∷ a1 ∷ a2 ∷ a3 ∷ a4 ∷ a5 ∷ a6 ∷ a7 ∷ []) b × Backs (a0 ∷ a1 ∷ a2 ∷ a3 ∷ a4 ∷ a5 ∷ a6 ∷ a7 ∷ []) b) (λ b0 b1 b2 b3 b4 b5 b6 b7.
    (below_four _ (refl, refl) (refl, refl) (refl, refl) (refl, refl), below_four _ (refl, refl) (refl, refl) (refl, refl) (refl, refl))))

-- the lanes of two vectors of four, one after the other
abbrev joined : List ℕ → List ℕ → List ℕ
joined a b =
    slice_index_or (a ++ b) 0 0 ∷ slice_index_or (a ++ b) 1 0 ∷ slice_index_or (a ++ b) 2 0 ∷ slice_index_or (a ++ b) 3 0
    ∷ slice_index_or (a ++ b) 4 0 ∷ slice_index_or (a ++ b) 5 0 ∷ slice_index_or (a ++ b) 6 0 ∷ slice_index_or (a ++ b) 7 0 ∷ []

abbrev Halves : List ℕ → List ℕ → Type 0
Halves a b = (i : ℕ) → i < 4 → (slice_index (joined a b) i ≡ slice_index a i) × (slice_index (joined a b) (i + 4) ≡ slice_index b i)

pub joined_lanes : (a : List ℕ) → length a ≡ 4 → (b : List ℕ) → length b ≡ 4 → Halves a b
joined_lanes =
    four_lanes (λ a. (b : List ℕ) → length b ≡ 4 → Halves a b) (λ a0 a1 a2 a3.
    four_lanes (λ b. Halves (a0 ∷ a1 ∷ a2 ∷ a3 ∷ []) b) (λ b0 b1 b2 b3.
    below_four _ (refl, refl) (refl, refl) (refl, refl) (refl, refl)))

-- two shifts of each lane and an or are a turn
pub shifts_turn : (k n : ℕ) → 0 < k → k < 32 → (a : List ℕ) → length a ≡ n → (j : ℕ) → j < n
    → slice_index (zip2 bit_or
    (zip2 (λ x n. x / 2 ^ n) a (replicate n k))
    (zip2 (λ x n. x * 2 ^ n % 2 ^ 32) a (replicate n (32 - k)))) j
    ≡ turned k (slice_index a j)
shifts_turn k n low high a len j h =
    let right : k % 32 ≡ k = omega arith in
    let left : (32 - k) % 32 ≡ 32 - k = omega arith in
    let ks = length-replicate n k in
    let ls = length-replicate n (32 - k) in
    let r_len = length-zip2 (λ x n. x / 2 ^ n) a (replicate n k) (omega (arith, len, ks)) in
    let l_len = length-zip2 (λ x n. x * 2 ^ n % 2 ^ 32) a (replicate n (32 - k)) (omega (arith, len, ls)) in
    rw (
      get_or-zip2 bit_or (zip2 (λ x n. x / 2 ^ n) a (replicate n k)) (zip2 (λ x n. x * 2 ^ n % 2 ^ 32) a (replicate n (32 - k))) j 0 0 0 (omega (arith, r_len, len, h)) (omega (arith, l_len, len, h)),
      get_or-zip2 (λ x n. x / 2 ^ n) a (replicate n k) j 0 0 0 (omega (arith, len, h)) (omega (arith, ks, h)),
      get_or-zip2 (λ x n. x * 2 ^ n % 2 ^ 32) a (replicate n (32 - k)) j 0 0 0 (omega (arith, len, h)) (omega (arith, ls, h)),
      get_or-replicate n j k 0 h,
      get_or-replicate n j (32 - k) 0 h,
      right,
      left,
    ) refl

-- ---- the words of a block that lies within other bytes

-- a word at o of y, which is in x from n on
word_from : (x y : List ℕ) (n : ℕ) → ((o : ℕ) → o < 64 → slice_index y o ≡ slice_index x (n + o))
    → (o m : ℕ) → o + 4 ≤ 64 → m ≡ n + o → word_at y o ≡ word_at x m
word_from x y n same o m within at =
    let e0 : slice_index y o ≡ slice_index x m = same o (omega arith) ∙ ap (slice_index x) (omega arith) in
    let e1 : slice_index y (o + 1) ≡ slice_index x (m + 1) = same (o + 1) (omega arith) ∙ ap (slice_index x) (omega arith) in
    let e2 : slice_index y (o + 2) ≡ slice_index x (m + 2) = same (o + 2) (omega arith) ∙ ap (slice_index x) (omega arith) in
    let e3 : slice_index y (o + 3) ≡ slice_index x (m + 3) = same (o + 3) (omega arith) ∙ ap (slice_index x) (omega arith) in
    rw (e0, e1, e2, e3) refl

-- the words at o of the bytes x, four in a row
abbrev Row : List ℕ → List ℕ → ℕ → Type 0
Row x a o = (i : ℕ) → i < 4 → slice_index a i ≡ word_at x (o + 4 * i)

-- and those that are f bytes further on
abbrev TwoRows : List ℕ → List ℕ → ℕ → ℕ → Type 0
TwoRows x a o f = Row x a o × ((i : ℕ) → i < 4 → slice_index a (i + 4) ≡ word_at x (o + f + 4 * i))

-- such words of four chunks, s chunks apart, transposed
pub four_across : (x a b c d : List ℕ) (o s : ℕ) → Row x a o → Row x b (o + 1024 * s) → Row x c (o + 2 * (1024 * s)) → Row x d (o + 3 * (1024 * s))
    → (i m : ℕ) → i < 4 → m ≡ o + 4 * i → (j : ℕ) → j < 4 → slice_index (across i a b c d) j ≡ word_at x (1024 * (s * j) + m)
four_across x a b c d o s ra rb rc rd i m h at =
    below_four (λ j. slice_index (across i a b c d) j ≡ word_at x (1024 * (s * j) + m))
    (ra i h ∙ ap (word_at x) (omega arith))
    (rb i h ∙ ap (word_at x) (omega arith))
    (rc i h ∙ ap (word_at x) (omega arith))
    (rd i h ∙ ap (word_at x) (omega arith))

-- and those of eight
pub words_across : (x a b c d : List ℕ) (o s : ℕ)
    → TwoRows x a o (4 * (1024 * s)) → TwoRows x b (o + 1024 * s) (4 * (1024 * s))
    → TwoRows x c (o + 2 * (1024 * s)) (4 * (1024 * s)) → TwoRows x d (o + 3 * (1024 * s)) (4 * (1024 * s))
    → (i m : ℕ) → i < 4 → m ≡ o + 4 * i → (j : ℕ) → j < 8 → slice_index (across i a b c d ++ across (i + 4) a b c d) j ≡ word_at x (1024 * (s * j) + m)
words_across x a b c d o s ra rb rc rd i m h at =
    below_eight (λ j. slice_index (across i a b c d ++ across (i + 4) a b c d) j ≡ word_at x (1024 * (s * j) + m))
    (ra.0 i h ∙ ap (word_at x) (omega arith))
    (rb.0 i h ∙ ap (word_at x) (omega arith))
    (rc.0 i h ∙ ap (word_at x) (omega arith))
    (rd.0 i h ∙ ap (word_at x) (omega arith))
    (ra.1 i h ∙ ap (word_at x) (omega arith))
    (rb.1 i h ∙ ap (word_at x) (omega arith))
    (rc.1 i h ∙ ap (word_at x) (omega arith))
    (rd.1 i h ∙ ap (word_at x) (omega arith))

-- the chunk of a lane lies within bytes that hold that of the last lane
pub lane_within : (s j n l : ℕ) → j < n → 1024 + 1024 * (s * n) ≤ l + 1024 * s → 1024 * (s * j) + 1024 ≤ l
lane_within s j n l below within =
    let up : s * (j + 1) ≤ s * n = mul-le-mul_left s (omega arith) in
    omega (arith, up, within)

-- the words of a whole block y, which is in x from s + a on
block_from : (x y : List ℕ) (s a : ℕ) → length y ≡ 64 → ((o : ℕ) → o < 64 → slice_index y o ≡ slice_index x (s + a + o))
    → block_words_of y ≡ word_at x (s + a) ∷ word_at x (s + (a + 4)) ∷ word_at x (s + (a + 8)) ∷ word_at x (s + (a + 12))
    ∷ word_at x (s + (a + 16)) ∷ word_at x (s + (a + 16 + 4)) ∷ word_at x (s + (a + 16 + 8)) ∷ word_at x (s + (a + 16 + 12))
    ∷ word_at x (s + (a + 32)) ∷ word_at x (s + (a + 32 + 4)) ∷ word_at x (s + (a + 32 + 8)) ∷ word_at x (s + (a + 32 + 12))
    ∷ word_at x (s + (a + 48)) ∷ word_at x (s + (a + 48 + 4)) ∷ word_at x (s + (a + 48 + 8)) ∷ word_at x (s + (a + 48 + 12)) ∷ []
block_from x y s a len same =
    let none : 64 - length y ≡ 0 = omega arith in
    let whole : y ++ replicate (64 - length y) 0 ≡ y = rw none (append-nil y) in
    let word = word_from x y (s + a) same in
    rw (
      whole,
      word 0 (s + a) (omega arith) (omega arith),
      word 4 (s + (a + 4)) (omega arith) (omega arith),
      word 8 (s + (a + 8)) (omega arith) (omega arith),
      word 12 (s + (a + 12)) (omega arith) (omega arith),
      word 16 (s + (a + 16)) (omega arith) (omega arith),
      word 20 (s + (a + 16 + 4)) (omega arith) (omega arith),
      word 24 (s + (a + 16 + 8)) (omega arith) (omega arith),
      word 28 (s + (a + 16 + 12)) (omega arith) (omega arith),
      word 32 (s + (a + 32)) (omega arith) (omega arith),
      word 36 (s + (a + 32 + 4)) (omega arith) (omega arith),
      word 40 (s + (a + 32 + 8)) (omega arith) (omega arith),
      word 44 (s + (a + 32 + 12)) (omega arith) (omega arith),
      word 48 (s + (a + 48)) (omega arith) (omega arith),
      word 52 (s + (a + 48 + 4)) (omega arith) (omega arith),
      word 56 (s + (a + 48 + 8)) (omega arith) (omega arith),
      word 60 (s + (a + 48 + 12)) (omega arith) (omega arith),
    ) refl

-- the words of block k of chunk i
pub block_words_in : (x : List ℕ) (i k : ℕ) → 1024 * i + 1024 ≤ length x → k < 16
    → let s = 1024 * i in let a = 64 * k in block_words_of (block (chunk_bytes x i) k)
    ≡ word_at x (s + a) ∷ word_at x (s + (a + 4)) ∷ word_at x (s + (a + 8)) ∷ word_at x (s + (a + 12))
    ∷ word_at x (s + (a + 16)) ∷ word_at x (s + (a + 16 + 4)) ∷ word_at x (s + (a + 16 + 8)) ∷ word_at x (s + (a + 16 + 12))
    ∷ word_at x (s + (a + 32)) ∷ word_at x (s + (a + 32 + 4)) ∷ word_at x (s + (a + 32 + 8)) ∷ word_at x (s + (a + 32 + 12))
    ∷ word_at x (s + (a + 48)) ∷ word_at x (s + (a + 48 + 4)) ∷ word_at x (s + (a + 48 + 8)) ∷ word_at x (s + (a + 48 + 12)) ∷ []
block_words_in x i k within block =
    let rest = drop (1024 * i) x in
    let c = chunk_bytes x i in
    let rest_len : length rest ≡ length x - 1024 * i = length-drop (1024 * i) x in
    let c_len : length c ≡ 1024 = length-take-le 1024 rest (omega arith) in
    let tail_len : length (drop (64 * k) c) ≡ length c - 64 * k = length-drop (64 * k) c in
    block_from x (take 64 (drop (64 * k) c)) (1024 * i) (64 * k)
    (length-take-le 64 (drop (64 * k) c) (omega arith))
    (λ o inside.
    get_or-take 64 (drop (64 * k) c) o 0 inside
    ∙ get_or-drop (64 * k) c o 0
    ∙ get_or-take 1024 rest (64 * k + o) 0 (omega arith)
    ∙ get_or-drop (1024 * i) x (64 * k + o) 0
    ∙ ap (slice_index x) (omega arith))
