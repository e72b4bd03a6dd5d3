-- A part after those before it.
use Rattle.std.proofs.Common.{◌≡◌, ℕ, ◌+◌, ◌-◌, ◌*◌, ◌/◌, ◌%◌, ◌^◌, ◌<◌, ◌≤◌, ◌++◌, List, [], ◌∷◌, inl, inr, add-one, rules, length, take, drop, drop-cons, arith, refl, ap, ap₂, sym, ◌∙◌, subst, append_assoc, length-append, slice_index_or}
use Rattle.std.proofs.lemmas.Bool.{cases_lt}
use Rattle.std.proofs.lemmas.List.{append-nil, length-drop, length-take-le, take_all}
use Rattle.std.proofs.lemmas.Nat.{pow-add, pow_pos}
use Rattle.std.proofs.Math.Pow.{pow_mono}
use Rattle.std.proofs.Math.Nat.{div-add-mod, mul-le-mul_left, mul-mod_right}
use Rattle.std.proofs.Math.Seq.{take-add}
use Rattle.b3_core.specs.Hashers.{HasRoomFor, ModelHasher, HasInput, IsAfter, CountsRest, kept_work}
use Rattle.b3_core.specs.Tree.{IsSubtree, tree_top}
use Rattle.b3_core.specs.Work.{counted, hash_work}
use Rattle.b3_core.proofs.Hashings.{makes_more, makes_then}
use Rattle.b3_parallel.specs.inner.Parts.{AreAfter, stretch_at}
use Rattle.b3_parallel.specs.declared.parts.Part.{Part}

-- part i of n lies within them
within : (s n i : ℕ) → i < n → i * s + s ≤ s * n
within s n i below = let most : s * (i + 1) ≤ s * n = mul-le-mul_left s (omega (arith, below)) in omega (arith, most)

-- a hasher that began no chunk was given whole ones alone
pub bare_length : (h : ModelHasher) (x : List ℕ) → h.tail ≡ [] → HasInput h x → length x ≡ h.whole
bare_length h x none (before, cut, are, size, few) = omega (arith, ap length cut, length-append before h.tail, ap length none, size)

-- the bytes before part i
abbrev pub before_part : List ℕ → ℕ → ℕ → List ℕ
before_part x k i = take (i * (1024 * 2 ^ k)) x

pub part_length : (x : List ℕ) (k n i : ℕ) → length x ≡ 1024 * 2 ^ k * n → i < n → length (stretch_at x k i) ≡ 1024 * 2 ^ k
part_length x k n i len below =
    let inside = within (1024 * 2 ^ k) n i below in
    length-take-le (1024 * 2 ^ k) (drop (i * (1024 * 2 ^ k)) x) (omega (arith, inside, len, length-drop (i * (1024 * 2 ^ k)) x))

front_length : (x : List ℕ) (k n i : ℕ) → length x ≡ 1024 * 2 ^ k * n → i < n → length (before_part x k i) ≡ i * (1024 * 2 ^ k)
front_length x k n i len below =
    let inside = within (1024 * 2 ^ k) n i below in
    length-take-le (i * (1024 * 2 ^ k)) x (omega (arith, inside, len))

-- with the part the bytes before the next one
pub next_part : (x bytes : List ℕ) (k i : ℕ) → (x ++ before_part bytes k i) ++ stretch_at bytes k i ≡ x ++ before_part bytes k (i + 1)
next_part x bytes k i =
    let more : (i + 1) * (1024 * 2 ^ k) ≡ i * (1024 * 2 ^ k) + 1024 * 2 ^ k = omega arith in
    append_assoc x (before_part bytes k i) (stretch_at bytes k i)
    ∙ ap (λ y. x ++ y) (sym (take-add (i * (1024 * 2 ^ k)) (1024 * 2 ^ k) bytes) ∙ ap (λ n. take n bytes) (sym more))

-- the number of a part's first chunk
number_of : (w v i p : ℕ) → v ≡ w + i * (1024 * p) → w / 1024 + p * i ≡ v / 1024
number_of w v i p is = let all : i * (1024 * p) ≡ 1024 * (p * i) = omega arith in omega (arith, is, all)

pub part_is_after : (old h : ModelHasher) (k i : ℕ) (parts : List Part) (part : Part) (x bytes : List ℕ) → AreAfter old k parts x bytes → i < length parts
    → part ≡ slice_index_or parts i part → h.mode ≡ old.mode → HasInput h (x ++ before_part bytes k i) → HasRoomFor k h
    → IsAfter h k part.top (x ++ before_part bytes k i) (stretch_at bytes k i)
part_is_after old h k i parts part x bytes (held, fits, few, (len, each)) below is mode now now_fits =
    let size = part_length bytes k (length parts) i len below in
    let front = front_length bytes k (length parts) i len below in
    let inside = within (1024 * 2 ^ k) (length parts) i below in
    let first = bare_length old x fits.0 held in
    let all = bare_length h (x ++ before_part bytes k i) now_fits.0 now in
    let sum = length-append x (before_part bytes k i) in
    let number = number_of old.whole h.whole i (2 ^ k) (omega (arith, first, all, sum, front)) in
    let node : part.top ≡ tree_top (stretch_at bytes k i) (old.whole / 1024 + 2 ^ k * i) old.mode = subst (λ (q : Part). q.top ≡ tree_top (stretch_at bytes k i) (old.whole / 1024 + 2 ^ k * i) old.mode) (sym is) (each i part below).0 in (
      now,
      now_fits,
      size,
      node ∙ ap₂ (λ n p. tree_top (stretch_at bytes k i) n p) number (sym mode),
      omega (arith, few, len, size, sum, front, inside),
    )

-- a worker's count, taken over, is that of its compressions
pub same_count : (w n : ℕ) → counted w (counted 0 n) ≡ counted w n
same_count w n = omega arith

pub part_made : (old h new : ModelHasher) (k i : ℕ) (parts : List Part) (part : Part) (x bytes : List ℕ) (n w v u : ℕ) → AreAfter old k parts x bytes → i < length parts
    → part ≡ slice_index_or parts i part → v ≡ counted w part.work → CountsRest (kept_work old.subtrees) (kept_work h.subtrees) n w
    → CountsRest (kept_work h.subtrees + (hash_work (1024 * 2 ^ k) - 1)) (kept_work new.subtrees) v u → CountsRest (kept_work old.subtrees) (kept_work new.subtrees) n u
part_made old h new k i parts part x bytes n w v u (held, fits, few, (len, each)) below is added makes then =
    let work : part.work ≡ counted 0 (hash_work (1024 * 2 ^ k) - 1) = subst (λ (q : Part). q.work ≡ counted 0 (hash_work (length (stretch_at bytes k i)) - 1)) (sym is) (each i part below).1 ∙ ap (λ m. counted 0 (hash_work m - 1)) (part_length bytes k (length parts) i len below) in
    let here : v ≡ counted w (hash_work (1024 * 2 ^ k) - 1) = added ∙ ap (counted w) work ∙ same_count w (hash_work (1024 * 2 ^ k) - 1) in
    makes_then _ _ _ _ _ _ (makes_more _ _ (kept_work h.subtrees + (hash_work (1024 * 2 ^ k) - 1)) _ _ _ (hash_work (1024 * 2 ^ k) - 1) makes refl here) then

-- all parts are all bytes
pub all_parts : (x bytes : List ℕ) (k n i : ℕ) → length bytes ≡ 1024 * 2 ^ k * n → n ≤ i → x ++ before_part bytes k i ≡ x ++ bytes
all_parts x bytes k n i len most =
    let more : 1024 * 2 ^ k * n ≤ 1024 * 2 ^ k * i = mul-le-mul_left (1024 * 2 ^ k) most in
    ap (λ y. x ++ y) (take_all (i * (1024 * 2 ^ k)) bytes (omega (arith, len, more)))

-- what is left of some bytes without the rest of a division is whole
pub whole_front : (n m : ℕ) → (n - n % m) % m ≡ 0
whole_front n m =
    let sum : m * (n / m) + n % m ≡ n = div-add-mod n m in
    let front : n - n % m ≡ m * (n / m) = omega (arith, sum) in
    ap (λ k. k % m) front ∙ mul-mod_right m (n / m)

-- the subtree of 2^k chunks that has i of them between it and a place where one may be
pub subtree_after : (k c i : ℕ) → IsSubtree (1024 * 2 ^ k) c → IsSubtree (1024 * 2 ^ k) (c + 2 ^ k * i)
subtree_after k c i (empty, j, q, fits, at) =
    let some = pow_pos k in
    let from : k ≤ j = no_less (omega (arith, fits)) in
    let sum : k + (j - k) ≡ j = omega (arith, from) in
    let power : 2 ^ j ≡ 2 ^ k * 2 ^ (j - k) = ap (λ n. 2 ^ n) (sym sum) ∙ pow-add 2 k (j - k) in
    ((λ none. absurd (search (rules, none))), k, q * 2 ^ (j - k) + i, omega (arith, some), place (2 ^ (j - k)) (2 ^ k) power)
  where
    no_less : 2 ^ k ≤ 2 ^ j → k ≤ j
    no_less most = elim (cases_lt j k) [
      | inr from ↦ from
      | inl below ↦
          let up : 2 ^ (j + 1) ≤ 2 ^ k = pow_mono {i = j + 1} {j = k} (omega (arith, below)) in
          let double : 2 ^ (j + 1) ≡ 2 * 2 ^ j = pow-add 2 j 1 ∙ omega arith in
          absurd (omega (arith, up, double, most, pow_pos j))
    ]

    place : (e s : ℕ) → 2 ^ j ≡ s * e → c + s * i ≡ (q * e + i) * s
    place e s power = let here : c ≡ q * (s * e) = at ∙ ap (λ n. q * n) power in omega (arith, here)

-- a place after i subtrees of 2^k chunks
pub subtree_at : (k i : ℕ) → IsSubtree (1024 * 2 ^ k) (i * 2 ^ k)
subtree_at k i = let some = pow_pos k in ((λ none. absurd (nothing none some)), k, i, omega (arith, some), refl)
  where
    nothing : 1024 * 2 ^ k ≡ 0 → 0 < 2 ^ k → ⊥
    nothing none some = omega (arith, none, some)

-- the first of the parts that are left after i others
pub next_of : (parts : List Part) (i : ℕ) (part : Part) (rest : List Part) → drop i parts ≡ part ∷ rest
    → (i < length parts) × (part ≡ slice_index_or parts i part) × (drop (i + 1) parts ≡ rest)
next_of parts i part rest left = elim (cases_lt i (length parts)) [
  | inl below ↦
      let step : drop i parts ≡ slice_index_or parts i part ∷ drop (i + 1) parts = rw (add-one) (drop-cons parts i part below) in
      let both : slice_index_or parts i part ∷ drop (i + 1) parts ≡ part ∷ rest = sym step ∙ left in
      (below, cc, cc)
  | inr past ↦
      let size : length parts - i ≡ length (part ∷ rest) = sym (length-drop i parts) ∙ ap length left in
      absurd (omega (arith, size, past))
]

-- where none is left, they all were
pub none_left : (parts : List Part) (i : ℕ) → drop i parts ≡ [] → length parts ≤ i
none_left parts i none = let size : length parts - i ≡ 0 = sym (length-drop i parts) ∙ ap length none in omega (arith, size)

-- before the first part are no bytes
pub before_first : (x bytes : List ℕ) (k : ℕ) → x ++ before_part bytes k 0 ≡ x
before_first x bytes k = let none : 0 * (1024 * 2 ^ k) ≡ 0 = omega arith in ap (λ n. x ++ take n bytes) none ∙ append-nil x

-- no compression was made yet
pub none_made : (k n : ℕ) → CountsRest k k n n
none_made k n = (0, omega arith, omega arith)
