-- Groups of whole chunks, an eighth of some bytes or one chunk each, and the subtrees that they are.
use Rattle.std.proofs.Common.{take-take, ◌≡◌, ℕ, suc, ◌+◌, ◌-◌, ◌*◌, ◌^◌, ◌<◌, ◌≤◌, ◌++◌, List, length, take, drop, arith, refl, ap, ap₂, sym, inl, inr, ◌∙◌}
use Rattle.std.proofs.lemmas.List.{take_all, length-take-le, length-take, length-drop, drop-drop, drop-take}
use Rattle.std.proofs.lemmas.Nat.{pow_pos}
use Rattle.std.proofs.lemmas.Bool.{cases_lt}
use Rattle.std.proofs.Math.Nat.{two-pow-succ}
use Rattle.std.proofs.Math.Pow.{pow_mono}
use Rattle.std.proofs.Math.Seq.{take-add}
use Rattle.b3_core.proofs.EachLane.{below_four}
use Rattle.b3_core.specs.Lanes.{chunk_at}
use Rattle.b3_core.specs.inner.Lanes.{group_top}
use Rattle.b3_core.specs.Tree.{ModelMode, ModelTop, chunk_top, parent_top, tree_top}
use Rattle.b3_core.proofs.Nodes.{top_short, top_join}

-- two halves of some bytes, each 2 ^ k whole chunks
pub join_halves : (x : List ℕ) (a b c d k n m : ℕ) (p : ModelMode) → n ≡ 1024 * 2 ^ k → m ≡ 2 * n → b ≡ a + n → d ≡ c + 2 ^ k
    → a + m ≤ length x
    → parent_top (tree_top (take n (drop a x)) c p) (tree_top (take n (drop b x)) d p) p ≡ tree_top (take m (drop a x)) c p
join_halves x a b c d k n m p width double next number within =
    let pos = pow_pos k in
    let y = take m (drop a x) in
    let rest : length (drop a x) ≡ length x - a = length-drop a x in
    let later : length (drop b x) ≡ length x - b = length-drop b x in
    let left_len : length (take n (drop a x)) ≡ n = length-take-le n (drop a x) (omega arith) in
    let right_len : length (take n (drop b x)) ≡ n = length-take-le n (drop b x) (omega arith) in
    let right : drop n (drop a x) ≡ drop b x = drop-drop n a x ∙ ap (λ i. drop i x) (omega arith) in
    let two : take n (drop a x) ++ take n (drop b x) ≡ y =
    ap (λ (r : List ℕ). take n (drop a x) ++ take n r) (sym right) ∙ sym (take-add n n (drop a x)) ∙ ap (λ i. take i (drop a x)) (omega arith) in
    rw number (top_join (take n (drop a x)) (take n (drop b x)) c k p (left_len ∙ width) (omega arith) (omega arith)
    ∙ ap (λ (z : List ℕ). tree_top z c p) two)

-- the top of one chunk
chunk_is_top : (x : List ℕ) (c i a d : ℕ) (p : ModelMode) → a ≡ 1024 * i → d ≡ c + i
    → chunk_at x c p i ≡ tree_top (take 1024 (drop a x)) d p
chunk_is_top x c i a d p place number =
    let short : length (take 1024 (drop (1024 * i) x)) ≤ 1024 = omega (arith, length-take 1024 (drop (1024 * i) x)) in
    rw (place, number) (sym (top_short (take 1024 (drop (1024 * i) x)) (c + i) p short))

-- bytes within the first m
inside : (a n m : ℕ) (x : List ℕ) → a + n ≤ m → take n (drop a (take m x)) ≡ take n (drop a x)
inside a n m x within =
    let rest : a + (m - a) ≡ m = omega arith in
    let cut : drop a (take m x) ≡ take (m - a) (drop a x) = ap (λ i. drop a (take i x)) (sym rest) ∙ drop-take a (m - a) x in
    ap (take n) cut ∙ take-take n (m - a) (drop a x) (omega arith)

-- ---- groups of 2 ^ k chunks each, and eighths

-- two neighbouring groups
pair_joins : (y : List ℕ) (c k i : ℕ) (p : ModelMode) → 1024 * 2 ^ k * i + 2048 * 2 ^ k ≤ length y
    → parent_top (group_top (2 ^ k) y c p i) (group_top (2 ^ k) y c p (i + 1)) p
    ≡ tree_top (take (2048 * 2 ^ k) (drop (1024 * 2 ^ k * i) y)) (c + 2 ^ k * i) p
pair_joins y c k i p within =
    join_halves y (1024 * 2 ^ k * i) (1024 * 2 ^ k * (i + 1)) (c + 2 ^ k * i) (c + 2 ^ k * (i + 1)) k (1024 * 2 ^ k) (2048 * 2 ^ k) p
    refl (omega arith) (omega arith) (omega arith) within

-- equal bytes, and equal numbers of the first chunk
same_top : (u v : List ℕ) (n m c d : ℕ) (p : ModelMode) → take n u ≡ take m v → c ≡ d → tree_top (take n u) c p ≡ tree_top (take m v) d p
same_top u v n m c d p bytes number = rw (bytes, number) refl

-- a group of one chunk
pub eighth_one : (x : List ℕ) (c j : ℕ) (p : ModelMode) → chunk_at x c p j ≡ group_top 1 x c p j
eighth_one x c j p = chunk_is_top x c j (1024 * 1 * j) (c + 1 * j) p (omega arith) (omega arith)

-- two eighths of the first half of some bytes are one of their eighths
pub front_pair : (x : List ℕ) (c k j : ℕ) (p : ModelMode) → length x ≡ 16384 * 2 ^ k → j < 4
    → parent_top (group_top (2 ^ k) (take (8192 * 2 ^ k) x) c p (2 * j)) (group_top (2 ^ k) (take (8192 * 2 ^ k) x) c p (2 * j + 1)) p
    ≡ group_top (2 * 2 ^ k) x c p j
front_pair x c k j p len below =
    let y = take (8192 * 2 ^ k) x in
    let half : length y ≡ 8192 * 2 ^ k = length-take-le (8192 * 2 ^ k) x (omega arith) in
    below_four (λ j. parent_top (group_top (2 ^ k) y c p (2 * j)) (group_top (2 ^ k) y c p (2 * j + 1)) p ≡ group_top (2 * 2 ^ k) x c p j)
    (pair_joins y c k 0 p (omega (arith, half))
    ∙ same_top (drop (1024 * 2 ^ k * 0) y) (drop (1024 * (2 * 2 ^ k) * 0) x) _ _ _ _ p
    (inside (1024 * 2 ^ k * 0) (2048 * 2 ^ k) (8192 * 2 ^ k) x (omega arith) ∙ ap₂ (λ n a. take n (drop a x)) (omega arith) (omega arith)) (omega arith))
    (pair_joins y c k 2 p (omega (arith, half))
    ∙ same_top (drop (1024 * 2 ^ k * 2) y) (drop (1024 * (2 * 2 ^ k) * 1) x) _ _ _ _ p
    (inside (1024 * 2 ^ k * 2) (2048 * 2 ^ k) (8192 * 2 ^ k) x (omega arith) ∙ ap₂ (λ n a. take n (drop a x)) (omega arith) (omega arith)) (omega arith))
    (pair_joins y c k 4 p (omega (arith, half))
    ∙ same_top (drop (1024 * 2 ^ k * 4) y) (drop (1024 * (2 * 2 ^ k) * 2) x) _ _ _ _ p
    (inside (1024 * 2 ^ k * 4) (2048 * 2 ^ k) (8192 * 2 ^ k) x (omega arith) ∙ ap₂ (λ n a. take n (drop a x)) (omega arith) (omega arith)) (omega arith))
    (pair_joins y c k 6 p (omega (arith, half))
    ∙ same_top (drop (1024 * 2 ^ k * 6) y) (drop (1024 * (2 * 2 ^ k) * 3) x) _ _ _ _ p
    (inside (1024 * 2 ^ k * 6) (2048 * 2 ^ k) (8192 * 2 ^ k) x (omega arith) ∙ ap₂ (λ n a. take n (drop a x)) (omega arith) (omega arith)) (omega arith))
    j below

-- and two of the second half
pub back_pair : (x : List ℕ) (c k j : ℕ) (p : ModelMode) → length x ≡ 16384 * 2 ^ k → j < 4
    → parent_top (group_top (2 ^ k) (drop (8192 * 2 ^ k) x) (c + 8 * 2 ^ k) p (2 * j)) (group_top (2 ^ k) (drop (8192 * 2 ^ k) x) (c + 8 * 2 ^ k) p (2 * j + 1)) p
    ≡ group_top (2 * 2 ^ k) x c p (j + 4)
back_pair x c k j p len below =
    let y = drop (8192 * 2 ^ k) x in
    let d = c + 8 * 2 ^ k in
    let rest : length y ≡ length x - 8192 * 2 ^ k = length-drop (8192 * 2 ^ k) x in
    let half : length y ≡ 8192 * 2 ^ k = omega (arith, rest, len) in
    below_four (λ j. parent_top (group_top (2 ^ k) y d p (2 * j)) (group_top (2 ^ k) y d p (2 * j + 1)) p ≡ group_top (2 * 2 ^ k) x c p (j + 4))
    (pair_joins y d k 0 p (omega (arith, half))
    ∙ same_top (drop (1024 * 2 ^ k * 0) y) (drop (1024 * (2 * 2 ^ k) * 4) x) _ _ _ _ p
    (ap (take (2048 * 2 ^ k)) (drop-drop (1024 * 2 ^ k * 0) (8192 * 2 ^ k) x) ∙ ap₂ (λ n a. take n (drop a x)) (omega arith) (omega arith)) (omega arith))
    (pair_joins y d k 2 p (omega (arith, half))
    ∙ same_top (drop (1024 * 2 ^ k * 2) y) (drop (1024 * (2 * 2 ^ k) * 5) x) _ _ _ _ p
    (ap (take (2048 * 2 ^ k)) (drop-drop (1024 * 2 ^ k * 2) (8192 * 2 ^ k) x) ∙ ap₂ (λ n a. take n (drop a x)) (omega arith) (omega arith)) (omega arith))
    (pair_joins y d k 4 p (omega (arith, half))
    ∙ same_top (drop (1024 * 2 ^ k * 4) y) (drop (1024 * (2 * 2 ^ k) * 6) x) _ _ _ _ p
    (ap (take (2048 * 2 ^ k)) (drop-drop (1024 * 2 ^ k * 4) (8192 * 2 ^ k) x) ∙ ap₂ (λ n a. take n (drop a x)) (omega arith) (omega arith)) (omega arith))
    (pair_joins y d k 6 p (omega (arith, half))
    ∙ same_top (drop (1024 * 2 ^ k * 6) y) (drop (1024 * (2 * 2 ^ k) * 7) x) _ _ _ _ p
    (ap (take (2048 * 2 ^ k)) (drop-drop (1024 * 2 ^ k * 6) (8192 * 2 ^ k) x) ∙ ap₂ (λ n a. take n (drop a x)) (omega arith) (omega arith)) (omega arith))
    j below

-- four neighbouring groups under their three parents
four_join : (x : List ℕ) (c k i : ℕ) (p : ModelMode) → 1024 * 2 ^ k * i + 4096 * 2 ^ k ≤ length x
    → let g = group_top (2 ^ k) x c p in
    parent_top (parent_top (g i) (g (i + 1)) p) (parent_top (g (i + 2)) (g (i + 3)) p) p
    ≡ tree_top (take (4096 * 2 ^ k) (drop (1024 * 2 ^ k * i) x)) (c + 2 ^ k * i) p
four_join x c k i p within =
    let w = 1024 * 2 ^ k in
    let twice = two-pow-succ k in
    let up = λ (l r : ModelTop). parent_top l r p in
    let next : i + 2 + 1 ≡ i + 3 = omega arith in
    let last = rw next at (pair_joins x c k (i + 2) p (omega (arith, within))) in
    ap₂ up (pair_joins x c k i p (omega (arith, within))) last
    ∙ join_halves x (w * i) (w * (i + 2)) (c + 2 ^ k * i) (c + 2 ^ k * (i + 2)) (suc k) (2048 * 2 ^ k) (4096 * 2 ^ k) p
    (omega (arith, twice)) (omega arith) (omega arith) (omega (arith, twice)) within

-- all of some bytes, the first chunk having the number c
all_top : (x : List ℕ) (c w k n : ℕ) (p : ModelMode) → length x ≡ n → tree_top (take n (drop (w * 0) x)) (c + k * 0) p ≡ tree_top x c p
all_top x c w k n p len =
    let none : w * 0 ≡ 0 = omega arith in
    let first : c + k * 0 ≡ c = omega arith in
    rw (none, first) (ap (λ (y : List ℕ). tree_top y c p) (take_all n x (omega (arith, len))))

-- chunk i of the bytes after the first t chunks
later_chunk : (x : List ℕ) (c t i : ℕ) (p : ModelMode) → chunk_at (drop (1024 * t) x) (c + t) p i ≡ chunk_at x c p (i + t)
later_chunk x c t i p =
    ap₂ (λ (y : List ℕ) (n : ℕ). chunk_top (take 1024 y) n p)
    (drop-drop (1024 * i) (1024 * t) x ∙ ap (λ k. drop k x) (omega arith)) (omega arith)

-- four chunks in a row, the first of which is chunk 4 j, under their three parents
pub four_in_a_row : (x : List ℕ) (c j : ℕ) (p : ModelMode) → 4096 * j + 4096 ≤ length x
    → let chunk = λ (t : ℕ). chunk_at (drop (1024 * t) x) (c + t) p (4 * j) in
    parent_top (parent_top (chunk_at x c p (4 * j)) (chunk 1) p) (parent_top (chunk 2) (chunk 3) p) p ≡ group_top 4 x c p j
four_in_a_row x c j p within =
    let i = 4 * j in
    let up = λ (l r : ModelTop). parent_top l r p in
    let chunk = λ (t : ℕ). later_chunk x c t i p ∙ eighth_one x c (i + t) p in
    ap₂ up (ap₂ up (eighth_one x c i p) (chunk 1)) (ap₂ up (chunk 2) (chunk 3))
    ∙ four_join x c 0 i p (omega (arith, within))
    ∙ same_top (drop (1024 * 1 * i) x) (drop (1024 * 4 * j) x) 4096 4096 (c + 1 * i) (c + 4 * j) p (ap (λ k. take 4096 (drop k x)) (omega arith)) (omega arith)

-- four chunks under their three parents
pub four_chunks_join : (x : List ℕ) (c : ℕ) (p : ModelMode) → length x ≡ 4096
    → parent_top (parent_top (chunk_at x c p 0) (chunk_at x c p 1) p) (parent_top (chunk_at x c p 2) (chunk_at x c p 3) p) p ≡ tree_top x c p
four_chunks_join x c p len =
    rw (eighth_one x c 0 p, eighth_one x c 1 p, eighth_one x c 2 p, eighth_one x c 3 p)
    (four_join x c 0 0 p (omega (arith, len)) ∙ all_top x c 1024 1 4096 p len)

-- two chunks under their parent
pub two_chunks_join : (x : List ℕ) (c : ℕ) (p : ModelMode) → length x ≡ 2048 → parent_top (chunk_at x c p 0) (chunk_at x c p 1) p ≡ tree_top x c p
two_chunks_join x c p len =
    rw (eighth_one x c 0 p, eighth_one x c 1 p)
    (pair_joins x c 0 0 p (omega (arith, len)) ∙ all_top x c 1024 1 2048 p len)

-- eight eighths under their seven parents
pub eighths_join : (x : List ℕ) (c k : ℕ) (p : ModelMode) → length x ≡ 8192 * 2 ^ k
    → let e = group_top (2 ^ k) x c p in
    parent_top
    (parent_top (parent_top (e 0) (e 1) p) (parent_top (e 2) (e 3) p) p)
    (parent_top (parent_top (e 4) (e 5) p) (parent_top (e 6) (e 7) p) p) p
    ≡ tree_top x c p
eighths_join x c k p len =
    let w = 1024 * 2 ^ k in
    let twice = two-pow-succ k in
    let again = two-pow-succ (suc k) in
    ap₂ (λ (l r : ModelTop). parent_top l r p) (four_join x c k 0 p (omega (arith, len))) (four_join x c k 4 p (omega (arith, len)))
    ∙ join_halves x (w * 0) (w * 4) (c + 2 ^ k * 0) (c + 2 ^ k * 4) (suc (suc k)) (4096 * 2 ^ k) (8192 * 2 ^ k) p
    (omega (arith, twice, again)) (omega arith) (omega arith) (omega (arith, twice, again)) (omega (arith, len))
    ∙ all_top x c w (2 ^ k) (8192 * 2 ^ k) p len

-- one level more is twice as many chunks
pub level_up : (level : ℕ) → (level ≡ 0 → ⊥) → 2 ^ level ≡ 2 * 2 ^ (level - 1)
level_up level some =
    let next : level ≡ suc (level - 1) = omega (arith, some) in
    let power : 2 ^ level ≡ 2 ^ suc (level - 1) = ap (λ k. 2 ^ k) next in
    omega (arith, power, two-pow-succ (level - 1))

-- of whole chunks that 64 bits count, the level fits 32 bits
pub level_fits : (level n : ℕ) → n ≡ 8192 * 2 ^ level → n < 2 ^ 64 → level + 1 < 2 ^ 32
level_fits level n at most =
    elim (cases_lt level 64) [
      | inl small ↦ omega (arith, small)
      | inr large ↦
          let up : 2 ^ 64 ≤ 2 ^ level = pow_mono large in
          absurd (omega (arith, at, most, up))
    ]
