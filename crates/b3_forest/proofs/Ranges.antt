-- What one part holds of an aligned range of chunks: all, nothing, or some.
use Rattle.std.proofs.Common.{◌≡◌, ℕ, zero, suc, ◌+◌, ◌-◌, ◌*◌, ◌/◌, ◌^◌, ◌<◌, ◌≤◌, ◌⊎◌, ◌++◌, List, [], ◌∷◌, length, take, drop, nat_lt, true, false, arith, refl, ap, ap₂, sym, ◌∙◌, inl, inr}
use Rattle.std.specs.Prelude.{Bool, nat_le, ◌&&◌, min, max}
use Rattle.std.proofs.lemmas.Bool.Decides.{nat_tests}
use Rattle.std.proofs.lemmas.Bool.{cases_lt}
use Rattle.std.proofs.lemmas.List.{append-nil, length-drop, length-take, drop-drop, length-append}
use Rattle.std.proofs.Math.Seq.{take-add}
use Rattle.std.proofs.Math.Nat.{two-pow-succ}
use Rattle.std.proofs.lemmas.Nat.{pow_pos}
use Rattle.b3_core.specs.Work.{counted}
use Rattle.b3_forest.specs.Parts.{Part, chunk_in, chunks_of}
use Rattle.b3_forest.specs.Pieces.{content_at, is_full, pieces_of, piece_at, part_work}
use Rattle.b3_forest.specs.declared.piece.Piece.{Piece}

-- the part of the bytes b that begins at chunk a
abbrev pub part_from : ℕ → List ℕ → Part
part_from a b = record { offset = 1024 * a; bytes = b }

-- the chunk past the last one of n bytes from chunk a on
abbrev pub end_from : ℕ → ℕ → ℕ
end_from a n = a + (n + 1023) / 1024

pub chunk_held : (a : ℕ) (b : List ℕ) (i : ℕ) → a ≤ i → i < end_from a (length b)
    → chunks_of (part_from a b) i ≡ take 1024 (drop (1024 * (i - a)) b)
unfolding chunk_in
chunk_held a b i after before =
    let low : nat_le (1024 * a) (1024 * i) ≡ true = grind (arith, nat_tests) in
    let high : nat_lt (1024 * i) (1024 * a + length b) ≡ true = grind (arith, nat_tests) in
    let place : 1024 * i - 1024 * a ≡ 1024 * (i - a) = omega arith in
    rw (low, high, chunk_in, place) refl

chunk_before : (a : ℕ) (b : List ℕ) (i : ℕ) → i < a → chunks_of (part_from a b) i ≡ []
unfolding chunk_in
chunk_before a b i before =
    let low : nat_le (1024 * a) (1024 * i) ≡ false = grind (arith, nat_tests) in
    rw (low, chunk_in) refl

chunk_after : (a : ℕ) (b : List ℕ) (i : ℕ) → end_from a (length b) ≤ i → chunks_of (part_from a b) i ≡ []
unfolding chunk_in
chunk_after a b i after =
    let low : nat_le (1024 * a) (1024 * i) ≡ true = grind (arith, nat_tests) in
    let high : nat_lt (1024 * i) (1024 * a + length b) ≡ false = grind (arith, nat_tests) in
    rw (low, high, chunk_in) refl

pub chunk_left_out : (a : ℕ) (b : List ℕ) (i : ℕ) → (i < a) ⊎ (end_from a (length b) ≤ i) → chunks_of (part_from a b) i ≡ []
chunk_left_out a b i (inl before) = chunk_before a b i before
chunk_left_out a b i (inr after) = chunk_after a b i after

and_false : (p : Bool) → (p && false) ≡ false
and_false true = refl
and_false false = refl

-- all chunks of the range are held
pub full_within : (a : ℕ) (b : List ℕ) (k s : ℕ) → a ≤ s → s + 2 ^ k ≤ end_from a (length b)
    → is_full (chunks_of (part_from a b)) k s ≡ true
unfolding is_full
full_within a b zero s after before =
    let held = chunk_held a b s after (omega arith) in
    let some : 0 < length (take 1024 (drop (1024 * (s - a)) b)) =
    omega (arith, length-take 1024 (drop (1024 * (s - a)) b), length-drop (1024 * (s - a)) b) in
    let test : nat_lt 0 (length (take 1024 (drop (1024 * (s - a)) b))) ≡ true = grind (arith, nat_tests) in
    rw (held, test) refl
full_within a b (suc k) s after before =
    let two = two-pow-succ k in
    let left = full_within a b k s after (omega (arith, two)) in
    let right = full_within a b k (s + 2 ^ k) (omega arith) (omega (arith, two)) in
    rw (left, right) refl

-- some chunk of the range is not held
pub not_full : (a : ℕ) (b : List ℕ) (k s : ℕ) → (s < a) ⊎ (end_from a (length b) < s + 2 ^ k)
    → is_full (chunks_of (part_from a b)) k s ≡ false
unfolding is_full
not_full a b zero s (inl before) =
    let out = chunk_left_out a b s (inl before) in rw out refl
not_full a b zero s (inr after) =
    let out = chunk_left_out a b s (inr (omega arith)) in rw out refl
not_full a b (suc k) s (inl before) =
    let left = not_full a b k s (inl before) in
    rw left refl
not_full a b (suc k) s (inr after) =
    let two = two-pow-succ k in
    let right = not_full a b k (s + 2 ^ k) (inr (omega (arith, two))) in
    rw right (and_false _)

-- the range is one piece
pub pieces_of-full : (x : ℕ → List ℕ) (k s : ℕ) → is_full x k s ≡ true → pieces_of x k s ≡ piece_at x k s ∷ []
unfolding pieces_of
pieces_of-full x zero s full = rw (full, pieces_of) refl
pieces_of-full x (suc k) s full = rw (full, pieces_of) refl

-- the range is halved
pub pieces_of-halves : (x : ℕ → List ℕ) (k s : ℕ) → is_full x (suc k) s ≡ false
    → pieces_of x (suc k) s ≡ pieces_of x k s ++ pieces_of x k (s + 2 ^ k)
unfolding pieces_of
pieces_of-halves x k s part = rw (part, pieces_of) refl

-- no chunk of the range is held
pub pieces_of-none : (a : ℕ) (b : List ℕ) (k s : ℕ) → (s + 2 ^ k ≤ a) ⊎ (end_from a (length b) ≤ s)
    → pieces_of (chunks_of (part_from a b)) k s ≡ []
unfolding pieces_of
pieces_of-none a b zero s out =
    let missing : (s < a) ⊎ (end_from a (length b) ≤ s) = elim out [ inl l ↦ inl (omega arith) | inr r ↦ inr r ] in
    let empty = not_full a b zero s (elim missing [ inl l ↦ inl l | inr r ↦ inr (omega arith) ]) in
    rw (empty, pieces_of) refl
pieces_of-none a b (suc k) s out =
    let two = two-pow-succ k in
    let some = pow_pos k in
    let empty = not_full a b (suc k) s (elim out [ inl l ↦ inl (omega (arith, two)) | inr r ↦ inr (omega (arith, two)) ]) in
    let left = pieces_of-none a b k s (elim out [ inl l ↦ inl (omega (arith, two)) | inr r ↦ inr r ]) in
    let right = pieces_of-none a b k (s + 2 ^ k) (elim out [ inl l ↦ inl (omega (arith, two)) | inr r ↦ inr (omega arith) ]) in
    pieces_of-halves (chunks_of (part_from a b)) k s empty ∙ ap₂ (λ (l r : List Piece). l ++ r) left right

-- the bytes of a range that is held
pub content_within : (a : ℕ) (b : List ℕ) (k s : ℕ) → a ≤ s → s + 2 ^ k ≤ end_from a (length b)
    → content_at (chunks_of (part_from a b)) k s ≡ take (1024 * 2 ^ k) (drop (1024 * (s - a)) b)
unfolding content_at
content_within a b zero s after before = chunk_held a b s after (omega arith)
content_within a b (suc k) s after before =
    let two = two-pow-succ k in
    let n = 1024 * 2 ^ k in
    let left = content_within a b k s after (omega (arith, two)) in
    let right = content_within a b k (s + 2 ^ k) (omega arith) (omega (arith, two)) in
    let width : 1024 * 2 ^ suc k ≡ n + n = omega (arith, two) in
    let place : 1024 * (s - a) + n ≡ 1024 * (s + 2 ^ k - a) = omega arith in
    ap₂ (λ (l r : List ℕ). l ++ r) left right
    ∙ ap (λ i. take n (drop (1024 * (s - a)) b) ++ take n (drop i b)) (sym place)
    ∙ ap (λ (r : List ℕ). take n (drop (1024 * (s - a)) b) ++ take n r) (sym (drop-drop n (1024 * (s - a)) b))
    ∙ sym (take-add n n (drop (1024 * (s - a)) b))
    ∙ ap (λ i. take i (drop (1024 * (s - a)) b)) (sym width)

-- a range that the part meets and does not cover has halves
pub has_halves : (a e k w s : ℕ) → w ≡ 2 ^ k → s < e → a < s + w → (s < a) ⊎ (e < s + w)
    → (j : ℕ) × (k ≡ suc j) × (w ≡ 2 ^ j + 2 ^ j)
has_halves a e zero w s width before after some = absurd (elim some [ inl l ↦ omega arith | inr r ↦ omega arith ])
has_halves a e (suc j) w s width before after some = (j, refl, width ∙ two-pow-succ j)

-- what halving such a range leaves: a lower level and half the width
pub record Halved (k w : ℕ) : Type 0 where
  pub level : k ≡ suc (k - 1)
  pub width : w / 2 ≡ 2 ^ (k - 1)
  pub twice : w ≡ w / 2 + w / 2
  pub some : 0 < w / 2

pub halved : (a e k w s : ℕ) → w ≡ 2 ^ k → s < e → a < s + w → (s < a) ⊎ (e < s + w) → Halved k w
halved a e k w s width before after some =
    let h = has_halves a e k w s width before after some in
    let positive = pow_pos h.0 in
    let below : k - 1 ≡ h.0 = omega (arith, h.1) in
    let half : w / 2 ≡ 2 ^ h.0 = omega (arith, h.2) in
    record {
      level = omega (arith, h.1);
      width = half ∙ ap (λ i. 2 ^ i) (sym below);
      twice = omega (arith, h.2);
      some = omega (arith, h.2, positive);
    }

swapped : (q a : ℕ) → q * (2 * a) ≡ 2 * q * a
swapped q a = grind arith

one_more : (q a : ℕ) → (q + 1) * a ≡ q * a + a
one_more q a = grind arith

-- a half of an aligned range is aligned
pub left_aligned : (k w s i : ℕ) → Halved k w → w ≡ 2 ^ k → (q : ℕ) × (s ≡ q * 2 ^ k) → i ≡ s → (q : ℕ) × (i ≡ q * 2 ^ (k - 1))
left_aligned k w s i h width (q, at) same =
    let twice : 2 ^ k ≡ 2 * 2 ^ (k - 1) = omega (arith, width, h.width, h.twice) in
    (2 * q, same ∙ at ∙ ap (λ j. q * j) twice ∙ swapped q (2 ^ (k - 1)))

pub right_aligned : (k w s i : ℕ) → Halved k w → w ≡ 2 ^ k → (q : ℕ) × (s ≡ q * 2 ^ k) → i ≡ s + w / 2 → (q : ℕ) × (i ≡ q * 2 ^ (k - 1))
right_aligned k w s i h width at next =
    let (q, left) = left_aligned k w s s h width at refl in
    (q + 1, omega (arith, next, left, h.width, one_more q (2 ^ (k - 1))))

-- the pieces of a range that the part meets and does not cover are those of its halves
pub pieces_of-halved : (a : ℕ) (b : List ℕ) (k w s : ℕ) → w ≡ 2 ^ k → Halved k w → (s < a) ⊎ (end_from a (length b) < s + w)
    → pieces_of (chunks_of (part_from a b)) k s
    ≡ pieces_of (chunks_of (part_from a b)) (k - 1) s ++ pieces_of (chunks_of (part_from a b)) (k - 1) (s + w / 2)
pieces_of-halved a b k w s width h some =
    let x = chunks_of (part_from a b) in
    let up : 2 ^ k ≡ 2 ^ suc (k - 1) = ap (λ i. 2 ^ i) h.level in
    let out : (s < a) ⊎ (end_from a (length b) < s + 2 ^ suc (k - 1)) = elim some [ inl l ↦ inl l | inr r ↦ inr (omega (arith, up)) ] in
    ap (λ i. pieces_of x i s) h.level ∙ pieces_of-halves x (k - 1) s (not_full a b (suc (k - 1)) s out)
    ∙ ap (λ i. pieces_of x (k - 1) s ++ pieces_of x (k - 1) (s + i)) (sym h.width)

-- a range of more than one chunk has halves
pub lower : (k w : ℕ) → 0 < k → w ≡ 2 ^ k → Halved k w
lower k w some width =
    let next : k ≡ suc (k - 1) = omega arith in
    let power : 2 ^ k ≡ 2 ^ suc (k - 1) = ap (λ i. 2 ^ i) next in
    let two = two-pow-succ (k - 1) in
    let positive = pow_pos (k - 1) in
    record {
      level = next;
      width = omega (arith, width, power, two);
      twice = omega (arith, width, power, two);
      some = omega (arith, width, power, two, positive);
    }

-- the pieces of a range are those of its left half, where the part ends there
pub pieces_left : (a : ℕ) (b : List ℕ) (k w s : ℕ) → w ≡ 2 ^ k → Halved k w → end_from a (length b) ≤ s + w / 2
    → pieces_of (chunks_of (part_from a b)) (k - 1) s ≡ pieces_of (chunks_of (part_from a b)) k s
pieces_left a b k w s width h ends =
    let left = pieces_of (chunks_of (part_from a b)) (k - 1) s in
    sym (pieces_of-halved a b k w s width h (inr (omega (arith, ends, h.twice, h.some)))
    ∙ ap (λ (r : List Piece). left ++ r) (pieces_of-none a b (k - 1) (s + w / 2) (inr ends)) ∙ append-nil left)

-- and those of its right half, where the part begins there
pub pieces_right : (a : ℕ) (b : List ℕ) (k w s : ℕ) → w ≡ 2 ^ k → Halved k w → s + w / 2 ≤ a
    → pieces_of (chunks_of (part_from a b)) (k - 1) (s + w / 2) ≡ pieces_of (chunks_of (part_from a b)) k s
pieces_right a b k w s width h begins =
    let right = pieces_of (chunks_of (part_from a b)) (k - 1) (s + w / 2) in
    sym (pieces_of-halved a b k w s width h (inl (omega (arith, begins, h.some)))
    ∙ ap (λ (l : List Piece). l ++ right) (pieces_of-none a b (k - 1) s (inl (omega (arith, begins, h.width)))))

-- a part has no more pieces in a range than chunks
pub pieces_bound : (a : ℕ) (b : List ℕ) (k s : ℕ)
    → length (pieces_of (chunks_of (part_from a b)) k s) ≤ min (end_from a (length b)) (s + 2 ^ k) - max a s
pieces_bound a b zero s =
    elim (cases_lt s (end_from a (length b))) [
      | inr out ↦ rw (pieces_of-none a b zero s (inr out)) (omega arith)
      | inl before ↦ elim (cases_lt s a) [
        | inl out ↦ rw (pieces_of-none a b zero s (inl (omega arith))) (omega arith)
        | inr after ↦ rw (pieces_of-full (chunks_of (part_from a b)) zero s (full_within a b zero s after (omega arith))) (omega arith)
      ]
    ]
pieces_bound a b (suc k) s =
    let two = two-pow-succ k in
    let some = pow_pos k in
    let x = chunks_of (part_from a b) in
    let halved : (s < a) ⊎ (end_from a (length b) < s + 2 ^ suc k)
    → length (pieces_of x (suc k) s) ≤ min (end_from a (length b)) (s + 2 ^ suc k) - max a s = λ part.
    let left = pieces_bound a b k s in
    let right = pieces_bound a b k (s + 2 ^ k) in
    rw (pieces_of-halves x k s (not_full a b (suc k) s part), length-append (pieces_of x k s) (pieces_of x k (s + 2 ^ k)))
    (omega (arith, two, left, right)) in
    elim (cases_lt s a) [
      | inl before ↦ halved (inl before)
      | inr after ↦ elim (cases_lt (end_from a (length b)) (s + 2 ^ suc k)) [
        | inl past ↦ halved (inr past)
        | inr within ↦ rw (pieces_of-full x (suc k) s (full_within a b (suc k) s after within)) (omega (arith, two))
      ]
    ]

-- ---- compressions

-- the bytes that n bytes from chunk a on have in a range of w chunks from chunk s on
abbrev pub bytes_within : ℕ → ℕ → ℕ → ℕ → ℕ
bytes_within a n s w = min (1024 * a + n) (1024 * (s + w)) - max (1024 * a) (1024 * s)

-- the chunks of a number of bytes have at least one of them each
chunks_within : (a n s w : ℕ) → min (end_from a n) (s + w) - max a s ≤ (bytes_within a n s w + 1023) / 1024
chunks_within a n s w =
    elim (cases_lt (1024 * a + n) (1024 * (s + w))) [
      | inl short ↦ elim (cases_lt a s) [ inl l ↦ omega arith | inr r ↦ omega arith ]
      | inr long ↦ elim (cases_lt a s) [ inl l ↦ omega arith | inr r ↦ omega arith ]
    ]

-- the right half has no bytes, or the left half's are whole chunks
HalvesOf : ℕ → ℕ → ℕ → Type 0
HalvesOf m l r = ((r ≡ 0) × (m ≡ l)) ⊎ ((q : ℕ) × (l ≡ 1024 * q) × (m ≡ l + r))

halves_of : (a n s w : ℕ) → HalvesOf (bytes_within a n s (w + w)) (bytes_within a n s w) (bytes_within a n (s + w) w)
unfolding HalvesOf
halves_of a n s w =
    elim (cases_lt (1024 * a + n) (1024 * (s + w))) [
      | inl short ↦ inl (omega arith, omega arith)
      | inr long ↦ inr (s + w - max a s, omega arith, omega arith)
    ]

work_sum : (m l r c d : ℕ) → HalvesOf m l r → c ≤ (l + 1023) / 1024 → d ≤ (r + 1023) / 1024
    → part_work l c + part_work r d ≡ part_work m (c + d)
unfolding HalvesOf
work_sum m l r c d (inl (none, same)) left right = omega arith
work_sum m l r c d (inr (q, whole, both)) left right = omega arith

-- a count after j more and then k more
pub counted_twice : (n j k : ℕ) → counted (counted n j) k ≡ counted n (j + k)
counted_twice n j k = omega arith

-- the work of two halves
pub work_halves : (a : ℕ) (b : List ℕ) (k s c d : ℕ)
    → c ≡ length (pieces_of (chunks_of (part_from a b)) k s) → d ≡ length (pieces_of (chunks_of (part_from a b)) k (s + 2 ^ k))
    → part_work (bytes_within a (length b) s (2 ^ k)) c + part_work (bytes_within a (length b) (s + 2 ^ k) (2 ^ k)) d
    ≡ part_work (bytes_within a (length b) s (2 ^ k + 2 ^ k)) (c + d)
work_halves a b k s c d left right =
    let low = pieces_bound a b k s in
    let high = pieces_bound a b k (s + 2 ^ k) in
    let low_chunks = chunks_within a (length b) s (2 ^ k) in
    let high_chunks = chunks_within a (length b) (s + 2 ^ k) (2 ^ k) in
    work_sum _ _ _ c d (halves_of a (length b) s (2 ^ k))
    (omega (arith, left, low, low_chunks)) (omega (arith, right, high, high_chunks))
