-- Blocks that threads hash, and the hasher before them.
use Rattle.std.proofs.Common.{◌≡◌, ℕ, ◌+◌, ◌*◌, ◌/◌, ◌^◌, ◌<◌, ◌≤◌, ◌++◌, List, [], ◌∷◌, length, arith, refl, ap, ap₂, sym, ◌∙◌, subst, append_assoc, length-append}
use Rattle.std.proofs.lemmas.List.{append-nil}
use Rattle.b3_core.specs.Tree.{ModelTop, ModelMode, tree_top}
use Rattle.b3_core.proofs.Hashings.{whole_chunks}
use Rattle.b3_parallel.specs.inner.Blocks.{IsHashed, IsReady}
use Rattle.b3_parallel.specs.inner.Lines.{AreCarried, AreHashing, Thread}
use Rattle.b3_parallel.specs.declared.counted_hasher.CountedHasher.{CountedHasher}
use Rattle.b3_parallel.proofs.Standing.{bare_length}

-- the bytes of a thread's block
abbrev pub bytes_of : Thread → List ℕ
bytes_of t = t.promise.bytes.value.items

-- a block with another name of its place and mode
pub hashed_as : (p q : ModelMode) (mine : List ℕ) (c d : ℕ) (top : ModelTop) (own : ℕ) → IsHashed q mine d top own → d ≡ c → q ≡ p → IsHashed p mine c top own
hashed_as p q mine c d top own (node, made) place mode = (node ∙ ap₂ (λ n m. tree_top mine n m) place mode, made)

-- a block's bytes end below 2^64
pub few_bytes : (x place size len : ℕ) → x ≡ 1024 * (place * size) → len ≡ 1024 * size → (place + 1) * size ≤ 2 ^ 53 → x + len < 2 ^ 64
few_bytes x place size len before mine most = let sum : (place + 1) * size ≡ place * size + size = omega arith in omega (arith, before, mine, most, sum)

-- the first thread's block is appended
pub first_settled : (p : ModelMode) (k : ℕ) (front new : CountedHasher) (t : Thread) (hs : List Thread) (x : List ℕ) (top : ModelTop) (own : ℕ) → length x < 2 ^ 64
    → IsHashed t.promise.mode (bytes_of t) t.promise.number top own
    → ((y : List ℕ) → IsReady p k front y → length (bytes_of t) ≡ 1024 * 2 ^ k → IsHashed p (bytes_of t) (length y / 1024) top own → length y + length (bytes_of t) < 2 ^ 64
    → IsReady p k new (y ++ bytes_of t))
    → AreCarried p k front (t ∷ hs) x → AreCarried p k new hs x
first_settled p k front new t hs x top own few hashed append (before, z, cut, ready, (rest, parts, len, number, moded, others)) =
    let mine = hashed_as p t.promise.mode (bytes_of t) (length before / 1024) t.promise.number top own hashed number moded in
    let short : length before + length (bytes_of t) < 2 ^ 64 = omega (arith, few, ap length cut, length-append before z, ap length parts, length-append (bytes_of t) rest) in
    let next : length before / 1024 + 2 ^ k ≡ length (before ++ bytes_of t) / 1024 = omega (arith, length-append before (bytes_of t), len) in (
      before ++ bytes_of t,
      rest,
      cut ∙ ap (λ y. before ++ y) parts ∙ sym (append_assoc before (bytes_of t) rest),
      append before ready len mine short,
      subst (λ n. AreHashing p k n hs rest) next others,
    )

-- with no thread the hasher was given all bytes
pub carries_ready : (p : ModelMode) (k : ℕ) (front : CountedHasher) (x : List ℕ) → AreCarried p k front [] x → IsReady p k front x
carries_ready p k front x (before, z, cut, ready, none) = subst (IsReady p k front) (sym (cut ∙ ap (λ y. before ++ y) none ∙ append-nil before)) ready

pub ready_carries : (p : ModelMode) (k : ℕ) (front : CountedHasher) (x : List ℕ) → IsReady p k front x → AreCarried p k front [] x
ready_carries p k front x ready = (x, [], sym (append-nil x), ready, refl)

-- a thread more
one_more : (p : ModelMode) (k c : ℕ) (hs : List Thread) (z : List ℕ) (t : Thread) → AreHashing p k c hs z → length (bytes_of t) ≡ 1024 * 2 ^ k → 1024 * c + length z ≡ 1024 * t.promise.number
    → t.promise.mode ≡ p → AreHashing p k c (hs ++ t ∷ []) (z ++ bytes_of t)
one_more p k c [] z t none len number mode =
    ([], ap (λ y. y ++ bytes_of t) none ∙ sym (append-nil (bytes_of t)), len, omega (arith, number, ap length none), mode, refl)
one_more p k c (h ∷ hs) z t (rest, parts, size, first, moded, others) len number mode = (
  rest ++ bytes_of t,
  ap (λ y. y ++ bytes_of t) parts ∙ append_assoc (bytes_of h) rest (bytes_of t),
  size,
  first,
  moded,
  one_more p k (c + 2 ^ k) hs rest t others len (omega (arith, number, size, ap length parts, length-append (bytes_of h) rest)) mode,
)

pub thread_carries : (p : ModelMode) (k : ℕ) (front : CountedHasher) (hs : List Thread) (x mine : List ℕ) (number : ℕ) (t : Thread) → AreCarried p k front hs x → length mine ≡ 1024 * 2 ^ k
    → length x ≡ 1024 * number → bytes_of t ≡ mine → t.promise.number ≡ number → t.promise.mode ≡ front.hasher.mode → AreCarried p k front (hs ++ t ∷ []) (x ++ mine)
thread_carries p k front hs x mine number t (before, z, cut, (mode, (held, count), fits), are) len size bytes placed moded =
    let whole = whole_chunks front.hasher.mode front.hasher.subtrees held.0 held.2 in
    let first = bare_length front.hasher before fits.0 held in
    let even : 1024 * (length before / 1024) ≡ length before = omega (arith, whole.1, held.3, first) in
    let more = one_more p k (length before / 1024) hs z t are (ap length bytes ∙ len) (omega (arith, even, size, placed, ap length cut, length-append before z)) (moded ∙ mode) in (
      before,
      z ++ mine,
      ap (λ y. y ++ mine) cut ∙ append_assoc before z mine,
      (mode, (held, count), fits),
      subst (λ (y : List ℕ). AreHashing p k (length before / 1024) (hs ++ t ∷ []) (z ++ y)) bytes more,
    )
