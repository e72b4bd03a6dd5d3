-- Turns of each lane by whole bytes: moves of the bytes of all lanes.
use Rattle.std.proofs.Common.{◌≡◌, ℕ, zero, suc, ◌<◌, ◌+◌, ◌*◌, ◌/◌, ◌%◌, ◌^◌, List, [], ◌∷◌, length, get_or, slice_index, map, bit_xor, Fits, w32, arith, refl, ap, ap₂, ◌∙◌}
use Rattle.std.proofs.lemmas.List.{length-map, get_or-map}
use Rattle.std.proofs.lemmas.Nat.{xor_lt}
use Rattle.std.specs.Simd.Lanes.{Each1, zip2, number_l, digits_l, chunk}
use Rattle.std.proofs.lemmas.Simd.{get_or-zip2, get_or-chunk, get_or_narrower, get_or_wider, length-chunk, below_from_Fits}
use Rattle.b3_core.specs.Compression.{xor_turn}
use Rattle.b3_core.proofs.EachLane.{four_lanes, lane_below}
use Rattle.b3_core.proofs.WordTurns.{turned_bytes_8, turned_bytes_16}

length-digits : (p n x : ℕ) → length (digits_l p n x) ≡ n
length-digits p zero x = refl
length-digits p (suc n) x = ap suc (length-digits p n (x / p))

-- the exclusive or of the bytes of the lanes of two vectors, n bytes of each
abbrev xored : ℕ → List ℕ → List ℕ → List ℕ
xored n a b = zip2 bit_xor (digits_l 256 n (number_l (2 ^ 32) a)) (digits_l 256 n (number_l (2 ^ 32) b))

-- each of them is a byte
small : (n x y k : ℕ) → get_or (zip2 bit_xor (digits_l 256 n x) (digits_l 256 n y)) k 0 < 256
small zero x y k = omega arith
small (suc n) x y zero = xor_lt 8 (x % 256) (y % 256) (omega arith) (omega arith)
small (suc n) x y (suc k) = small n (x / 256) (y / 256) k

-- those at some positions too
all_small : (xs ks : List ℕ) → ((k : ℕ) → get_or xs k 0 < 256) → Each1 (λ x. x < 256) (map (λ k. get_or xs k 0) ks)
all_small xs [] h = tt
all_small xs (k ∷ ks) h = (h k, all_small xs ks h)

-- byte i of lane j
byte_in : (n : ℕ) (a b : List ℕ) → Each1 (λ x. x < 2 ^ 32) a → Each1 (λ x. x < 2 ^ 32) b → (j i : ℕ) → i < 4 → 4 * j + i < n
    → get_or (xored n a b) (4 * j + i) 0 ≡ bit_xor (slice_index a j / 256 ^ i % 256) (slice_index b j / 256 ^ i % 256)
byte_in n a b fa fb j i part below =
    get_or-zip2 bit_xor (digits_l 256 n (number_l (2 ^ 32) a)) (digits_l 256 n (number_l (2 ^ 32) b)) (4 * j + i) 0 0 0
    (omega (arith, length-digits 256 n (number_l (2 ^ 32) a)))
    (omega (arith, length-digits 256 n (number_l (2 ^ 32) b)))
    ∙ ap₂ bit_xor (get_or_narrower (2 ^ 32) 4 256 n a j i refl fa part below) (get_or_narrower (2 ^ 32) 4 256 n b j i refl fb part below)

-- the number of four bytes
four_bytes : (xs : List ℕ) → length xs ≡ 4 → number_l 256 xs ≡ slice_index xs 0 + 256 * (slice_index xs 1 + 256 * (slice_index xs 2 + 256 * (slice_index xs 3 + 256 * 0)))
four_bytes = four_lanes (λ xs. number_l 256 xs ≡ slice_index xs 0 + 256 * (slice_index xs 1 + 256 * (slice_index xs 2 + 256 * (slice_index xs 3 + 256 * 0)))) (λ a b c d. refl)

-- lane j of the bytes at some positions
lane_at : (n : ℕ) (xs ks : List ℕ) → ((k : ℕ) → get_or xs k 0 < 256) → length ks ≡ 4 * n → (j : ℕ) → j < n
    → let at = λ (i : ℕ). get_or xs (get_or ks (4 * j + i) 0) 0 in
    slice_index (digits_l (2 ^ 32) n (number_l 256 (map (λ k. get_or xs k 0) ks))) j ≡ at 0 + 256 * (at 1 + 256 * (at 2 + 256 * (at 3 + 256 * 0)))
lane_at n xs ks bytes len j below =
    let ys = map (λ k. get_or xs k 0) ks in
    let ys_len : length ys ≡ 4 * n = length-map ks (λ k. get_or xs k 0) ∙ len in
    let one : (i : ℕ) → i < 4 → slice_index (chunk (4 * j) 4 ys) i ≡ get_or xs (get_or ks (4 * j + i) 0) 0 =
    λ i part. get_or-chunk (4 * j) 4 ys i 0 part ∙ get_or-map (λ k. get_or xs k 0) ks (4 * j + i) 0 0 (omega arith) in
    get_or_wider 256 4 (2 ^ 32) n ys j refl (all_small xs ks bytes) below
    ∙ four_bytes (chunk (4 * j) 4 ys) (length-chunk (4 * j) 4 ys (omega (arith, ys_len)))
    ∙ rw (one 0 (omega arith), one 1 (omega arith), one 2 (omega arith), one 3 (omega arith)) refl

-- the positions of the bytes of n lanes that are turned by 16 bits, from a position on
abbrev pub by_sixteen : ℕ → ℕ → List ℕ
by_sixteen at zero = []
by_sixteen at (suc n) = (at + 2) ∷ (at + 3) ∷ at ∷ (at + 1) ∷ by_sixteen (at + 4) n

-- and by 8 bits
abbrev pub by_eight : ℕ → ℕ → List ℕ
by_eight at zero = []
by_eight at (suc n) = (at + 1) ∷ (at + 2) ∷ (at + 3) ∷ at ∷ by_eight (at + 4) n

-- the positions in lane j
abbrev pub Moves : List ℕ → ℕ → ℕ → ℕ → ℕ → ℕ → Type 0
Moves ks p q r s j = (get_or ks (4 * j + 0) 0 ≡ 4 * j + p) × (get_or ks (4 * j + 1) 0 ≡ 4 * j + q) × (get_or ks (4 * j + 2) 0 ≡ 4 * j + r) × (get_or ks (4 * j + 3) 0 ≡ 4 * j + s)

abbrev pub Moves16 : ℕ → ℕ → Type 0
Moves16 n = Moves (by_sixteen 0 n) 2 3 0 1

abbrev pub Moves8 : ℕ → ℕ → Type 0
Moves8 n = Moves (by_eight 0 n) 1 2 3 0

-- a vector of n words
abbrev Words : ℕ → List ℕ → Type 0
Words n a = (length a ≡ n) × Each1 (Fits w32) a

-- so moved, the exclusive or of two vectors is turned
pub moved_16 : (n : ℕ) (a b : List ℕ) → length (by_sixteen 0 n) ≡ 4 * n → ((j : ℕ) → j < n → Moves16 n j) → Words n a → Words n b → (j : ℕ) → j < n
    → slice_index (digits_l (2 ^ 32) n (number_l 256 (map (λ k. get_or (xored (4 * n) a b) k 0) (by_sixteen 0 n)))) j ≡ xor_turn (slice_index a j) (slice_index b j) 16
moved_16 n a b len moves fa fb j below =
    let byte = byte_in (4 * n) a b (below_from_Fits w32 a fa.1) (below_from_Fits w32 b fb.1) j in
    let m = moves j below in
    lane_at n (xored (4 * n) a b) (by_sixteen 0 n) (small (4 * n) (number_l (2 ^ 32) a) (number_l (2 ^ 32) b)) len j below
    ∙ rw (m.0, m.1, m.2, m.3, byte 0 (omega arith) (omega arith), byte 1 (omega arith) (omega arith), byte 2 (omega arith) (omega arith), byte 3 (omega arith) (omega arith))
    (turned_bytes_16 (slice_index a j) (slice_index b j) (lane_below n a fa j below) (lane_below n b fb j below))

pub moved_8 : (n : ℕ) (a b : List ℕ) → length (by_eight 0 n) ≡ 4 * n → ((j : ℕ) → j < n → Moves8 n j) → Words n a → Words n b → (j : ℕ) → j < n
    → slice_index (digits_l (2 ^ 32) n (number_l 256 (map (λ k. get_or (xored (4 * n) a b) k 0) (by_eight 0 n)))) j ≡ xor_turn (slice_index a j) (slice_index b j) 8
moved_8 n a b len moves fa fb j below =
    let byte = byte_in (4 * n) a b (below_from_Fits w32 a fa.1) (below_from_Fits w32 b fb.1) j in
    let m = moves j below in
    lane_at n (xored (4 * n) a b) (by_eight 0 n) (small (4 * n) (number_l (2 ^ 32) a) (number_l (2 ^ 32) b)) len j below
    ∙ rw (m.0, m.1, m.2, m.3, byte 0 (omega arith) (omega arith), byte 1 (omega arith) (omega arith), byte 2 (omega arith) (omega arith), byte 3 (omega arith) (omega arith))
    (turned_bytes_8 (slice_index a j) (slice_index b j) (lane_below n a fa j below) (lane_below n b fb j below))
