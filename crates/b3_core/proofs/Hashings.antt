-- Whole subtrees, each greater than those after it, and the bytes after them make the tree's top.
use Rattle.std.proofs.Common.{◌≡◌, ℕ, ◌+◌, ◌-◌, ◌*◌, ◌/◌, ◌^◌, ◌<◌, ◌≤◌, ◌++◌, List, [], ◌∷◌, length, arith, refl, ap, sym, ◌∙◌, subst, add-one, append_assoc, length-append, inl, inr, reverse, take, Some, None, min, ◌≢◌, ◌⊎◌, rules}
use Rattle.std.specs.List.{slice_get}
use Rattle.std.proofs.lemmas.Option.{get_or_from_slice_get, slice_get-get_or, slice_get_within}
use Rattle.std.proofs.lemmas.List.{append-nil, length-reverse, reverse-append, take_all}
use Rattle.std.proofs.lemmas.Grind.{take_at_read}
use Rattle.std.proofs.Math.Pow.{pow_mono}
use Rattle.std.proofs.Math.Nat.{two-pow-succ}
use Rattle.std.proofs.lemmas.Bool.{cases_lt}
use Rattle.std.proofs.lemmas.Nat.{pow_pos}
use Rattle.b3_core.specs.Hashers.{AreAbove, AreFrom, AreSubtrees, ModelHasher, HasInput, CountsRest, Subtrees, kept_work}
use Rattle.b3_core.specs.inner.Hashers.{IsNext, joined}
use Rattle.b3_core.specs.Tree.{ModelTop, ModelMode, chunk_top, parent_top, tree_top}
use Rattle.b3_core.specs.Work.{block_count, counted, hash_work}
use Rattle.b3_core.proofs.Nodes.{top_join, top_short}

-- they have whole chunks
pub whole_chunks : (p : ModelMode) (subtrees : Subtrees) (x : List ℕ) → AreSubtrees p subtrees x → (n : ℕ) × (length x ≡ 1024 * n)
whole_chunks p [] x is = (0, ap length is)
whole_chunks p (s ∷ subtrees) x (before, mine, cut, len, node, above, rest) =
    let n = whole_chunks p subtrees before rest in
    (n.0 + 2 ^ s.0, let a = ap length cut in let b = length-append before mine in let c = n.1 in omega (arith, a, b, c, len))

-- the node of a subtree and that of no more bytes after it are halves of one
joins : (p : ModelMode) (k n : ℕ) (t right : ModelTop) (before mine r : List ℕ) → length before ≡ 1024 * n → length mine ≡ 1024 * 2 ^ k → t ≡ tree_top mine (length before / 1024) p
    → 0 < length r → length r ≤ 1024 * 2 ^ k → right ≡ tree_top r (length (before ++ mine) / 1024) p → parent_top t right p ≡ tree_top (mine ++ r) (length before / 1024) p
joins p k n t right before mine r whole len left some few is =
    let next : length (before ++ mine) / 1024 ≡ length before / 1024 + 2 ^ k = omega (arith, length-append before mine, whole, len) in
    rw (left, is, next) (top_join mine r (length before / 1024) k p len some few)

-- no more bytes than the last subtree has
pub AreNoMore : Subtrees → ℕ → Type 0
AreNoMore [] n = Unit {0}
AreNoMore (s ∷ subtrees) n = n ≤ 1024 * 2 ^ s.0

wider : (subtrees : Subtrees) (k n : ℕ) → AreAbove k subtrees → n ≤ 1024 * 2 ^ (k + 1) → AreNoMore subtrees n
unfolding AreNoMore
wider [] k n above few = tt
wider (s ∷ subtrees) k n above few = let most : 2 ^ (k + 1) ≤ 2 ^ s.0 = pow_mono (omega (arith, above)) in omega (arith, most, few)

-- what follows all subtrees is joined with them, the last first
pub all_joined : (p : ModelMode) (subtrees : Subtrees) (x r : List ℕ) (right : ModelTop) → AreSubtrees p subtrees x → AreNoMore subtrees (length r) → 0 < length r → right ≡ tree_top r (length x / 1024) p
    → joined p subtrees right ≡ tree_top (x ++ r) 0 p
unfolding AreNoMore
all_joined p [] x r right is few some node = rw (is) (node ∙ rw (is) refl)
all_joined p (s ∷ subtrees) x r right (before, mine, cut, len, left, above, rest) few some node =
    let n = whole_chunks p subtrees before rest in
    let following : right ≡ tree_top r (length (before ++ mine) / 1024) p = subst (λ y. right ≡ tree_top r (length y / 1024) p) cut node in
    let both = joins p s.0 n.0 s.1 right before mine r n.1 len left some few following in
    let long : length (mine ++ r) ≤ 1024 * 2 ^ (s.0 + 1) = let double : 2 ^ (s.0 + 1) ≡ 2 ^ s.0 + 2 ^ s.0 = rw add-one (two-pow-succ s.0) in omega (arith, double, length-append mine r, len, few) in
    let more : 0 < length (mine ++ r) = omega (arith, length-append mine r, some) in
    all_joined p subtrees before (mine ++ r) (parent_top s.1 right p) rest (wider subtrees s.0 (length (mine ++ r)) above long) more both
    ∙ ap (λ y. tree_top y 0 p) (sym (append_assoc before mine r) ∙ ap (λ y. y ++ r) (sym cut))

-- ---- the next subtree

-- beside one of its level: both are one of the next level
pub merged : (p : ModelMode) (subtrees : Subtrees) (s next : ℕ × ModelTop) (x : List ℕ) → s.0 ≡ next.0 → IsNext p (s ∷ subtrees) next x
    → IsNext p subtrees (next.0 + 1, parent_top s.1 next.1 p) x
merged p subtrees s next x same (both, y, cut, len, node, from, (before, mine, cut_before, len_mine, node_mine, above, rest)) =
    let n = whole_chunks p subtrees before rest in
    let level : 1024 * 2 ^ s.0 ≡ 1024 * 2 ^ next.0 = ap (λ k. 1024 * 2 ^ k) same in
    let some = pow_pos s.0 in
    let double : 2 ^ (next.0 + 1) ≡ 2 ^ next.0 + 2 ^ next.0 = rw add-one (two-pow-succ next.0) in
    let right : next.1 ≡ tree_top y (length (before ++ mine) / 1024) p = subst (λ z. next.1 ≡ tree_top y (length z / 1024) p) cut_before node in (
      before,
      mine ++ y,
      cut ∙ ap (λ z. z ++ y) cut_before ∙ append_assoc before mine y,
      omega (arith, length-append mine y, len, len_mine, level, double),
      joins p s.0 n.0 s.1 next.1 before mine y n.1 len_mine node_mine (omega (arith, len, level, some)) (omega (arith, len, level)) right,
      from_above subtrees s.0 (next.0 + 1) above (omega (arith, same)),
      rest,
    )
  where
    from_above : (subtrees : Subtrees) (k l : ℕ) → AreAbove k subtrees → l ≤ k + 1 → AreFrom l subtrees
    from_above [] k l above next = tt
    from_above (t ∷ subtrees) k l above next = omega (arith, above, next)

-- after none of its level
pub put_last : (p : ModelMode) (subtrees : Subtrees) (next : ℕ × ModelTop) (x : List ℕ) → AreAbove next.0 subtrees → IsNext p subtrees next x → AreSubtrees p (next ∷ subtrees) x
put_last p subtrees next x above (before, mine, cut, len, node, from, rest) = (before, mine, cut, len, node, above, rest)

-- the levels of less than 2^64 bytes
pub small : (k : ℕ) → 1024 * 2 ^ k < 2 ^ 64 → k < 54
small k few =
    elim (cases_lt k 54) [
      | inl below ↦ below
      | inr large ↦ let up : 2 ^ 54 ≤ 2 ^ k = pow_mono large in absurd (omega (arith, up, few))
    ]

-- its level
pub level_fits : (p : ModelMode) (subtrees : Subtrees) (next : ℕ × ModelTop) (x : List ℕ) → IsNext p subtrees next x → length x < 2 ^ 64 → next.0 < 54
level_fits p subtrees next x (before, mine, cut, len, node, from, rest) few =
    small next.0 (omega (arith, len, few, ap length cut, length-append before mine))

-- there are no more subtrees than levels
pub few_above : (p : ModelMode) (subtrees : Subtrees) (k : ℕ) (x : List ℕ) → k < 54 → AreSubtrees p subtrees x → AreAbove k subtrees → length x < 2 ^ 64 → length subtrees + k < 54
few_above p [] k x low is above few = omega (arith, low)
few_above p (s ∷ subtrees) k x low (before, mine, cut, len, node, next, rest) above few =
    let size = length-append before mine in
    let same = ap length cut in
    let fits = small s.0 (omega (arith, len, few, same, size)) in
    let following = few_above p subtrees s.0 before fits rest next (omega (arith, few, same, size)) in
    omega (arith, following, above)

-- the last of some elements is the first of them the other way round
pub last_first : {A : Type 0} (xs : List A) (y : A) → slice_get xs (length xs - 1) ≡ Some y → (rest : List A) × (reverse xs ≡ y ∷ rest)
last_first xs y is =
    let some = slice_get_within xs (length xs - 1) y is in
    let at = get_or_from_slice_get xs (length xs - 1) y y is in
    let front = take (length xs - 1) xs in
    let all : take (length xs - 1 + 1) xs ≡ xs = take_all (length xs - 1 + 1) xs (omega (arith, some)) in
    let split : xs ≡ front ++ y ∷ [] = sym all ∙ (take_at_read xs (length xs - 1) y some).1 ∙ ap (λ z. front ++ z ∷ []) at in
    (reverse front, ap reverse split ∙ reverse-append front (y ∷ []))

-- any level is one of 0 or above
pub from_zero : (subtrees : Subtrees) → AreFrom 0 subtrees
from_zero [] = tt
from_zero (s ∷ subtrees) = omega arith

-- ---- their work

-- the hash of whole chunks and some bytes after them makes those of both and one more
pub hash_sum : (n m : ℕ) → 0 < n → 0 < m → hash_work (1024 * n + m) ≡ hash_work (1024 * n) + hash_work m + 1
hash_sum n m some more = omega (arith, some, more)

pub merged_work : (k : ℕ) → hash_work (1024 * 2 ^ (k + 1)) - 1 ≡ (hash_work (1024 * 2 ^ k) - 1) + (hash_work (1024 * 2 ^ k) - 1) + 2
merged_work k =
    let some = pow_pos k in
    let double : 2 ^ (k + 1) ≡ 2 ^ k + 2 ^ k = rw add-one (two-pow-succ k) in
    let both = hash_sum (2 ^ k) (1024 * 2 ^ k) some (omega (arith, some)) in
    let size : 1024 * 2 ^ (k + 1) ≡ 1024 * 2 ^ k + 1024 * 2 ^ k = omega (arith, double) in
    let at = ap hash_work size in
    omega (arith, both, at, some)

-- that of what follows all subtrees, and of its parents
pub joined_work : (p : ModelMode) (subtrees : Subtrees) (x : List ℕ) (n : ℕ) → AreSubtrees p subtrees x → 0 < n
    → hash_work (length x + n) - 1 ≡ kept_work subtrees + (hash_work n - 1) + 2 * length subtrees
joined_work p [] x n is some = rw is (omega arith)
joined_work p (s ∷ subtrees) x n (before, mine, cut, len, node, above, rest) some =
    let pos = pow_pos s.0 in
    let whole = whole_chunks p subtrees before rest in
    let both = hash_sum (2 ^ s.0) n pos some in
    let below = joined_work p subtrees before (1024 * 2 ^ s.0 + n) rest (omega (arith, some)) in
    let size : length x + n ≡ length before + (1024 * 2 ^ s.0 + n) = omega (arith, ap length cut, length-append before mine, len) in
    let at = ap hash_work size in
    omega (arith, both, below, at, pos)

-- more work
pub makes_more : (k l m n w v made : ℕ) → CountsRest k l n w → m ≡ l + made → v ≡ counted w made → CountsRest k m n v
makes_more k l m n w v made (first, up, at) more then = (first + made, omega (arith, up, more), omega (arith, then, at))

-- a subtree that merges with the last of those before it
pub merge_step : (p : ModelMode) (all rest : Subtrees) (last next : ℕ × ModelTop) (x : List ℕ) (level : ℕ) (top : ModelTop) (k n w v : ℕ)
    → all ≡ last ∷ rest → last.0 ≡ next.0 → level ≡ min (next.0 + 1) (2 ^ 32 - 1) → top ≡ parent_top last.1 next.1 p → v ≡ counted w 2 → length x < 2 ^ 64
    → IsNext p all next x → CountsRest k (kept_work (next ∷ all)) n w
    → IsNext p rest (level, top) x × CountsRest k (kept_work ((level, top) ∷ rest)) n v
merge_step p all rest last next x level top k n w v cut same up node work few is makes =
    let low = level_fits p all next x is few in
    let above : level ≡ next.0 + 1 = omega (arith, up, low) in
    let both = rw cut at is in
    let before = rw cut at makes in
    let whole = merged_work next.0 in
    let equal : hash_work (1024 * 2 ^ last.0) ≡ hash_work (1024 * 2 ^ next.0) = ap (λ k. hash_work (1024 * 2 ^ k)) same in
    rw (above, node) (
      merged p rest last next x same both,
      makes_more k (kept_work (next ∷ last ∷ rest)) (kept_work ((next.0 + 1, parent_top last.1 next.1 p) ∷ rest)) n w v 2 before (omega (arith, whole, equal)) work,
    )

-- the last of the subtrees is above the next one, or there is none
pub above_next : (items : Subtrees) (next s : ℕ × ModelTop) → slice_get items (length items - 1) ≡ Some s → s.0 ≢ next.0 → AreFrom next.0 (reverse items) → AreAbove next.0 (reverse items)
above_next items next s at other from =
    let last = last_first items s at in
    let below = rw last.1 at from in
    rw last.1 (omega (arith, other, below))

pub none_above : (items : Subtrees) (k : ℕ) → slice_get items (length items - 1) ≡ None → AreAbove k (reverse items)
none_above [] k none = tt
none_above (s ∷ items) k none =
    let some = slice_get-get_or (s ∷ items) (length (s ∷ items) - 1) s (omega arith) in
    absurd (search (rules, some, none))

-- there is room for the next one
pub has_room : (p : ModelMode) (items : Subtrees) (next : ℕ × ModelTop) (x : List ℕ) → AreAbove next.0 (reverse items) → IsNext p (reverse items) next x → length x < 2 ^ 64 → length items < 54
has_room p items next x above is few =
    let low = level_fits p (reverse items) next x is few in
    let size = length-append is.0 is.1 in
    let fits = few_above p (reverse items) next.0 is.0 low is.6 above (omega (arith, few, ap length is.2, size)) in
    omega (arith, fits, length-reverse items)

-- ---- what a hasher was given

pub makes_then : (k l m n w v : ℕ) → CountsRest k l n w → CountsRest l m w v → CountsRest k m n v
makes_then k l m n w v first (made, up, at) = makes_more k l m n w v made first up at

-- the next subtree of a hasher that has no bytes after the others
pub next_of : (h : ModelHasher) (next : ℕ × ModelTop) (x mine : List ℕ) → h.tail ≡ [] → HasInput h x → AreFrom next.0 h.subtrees → length mine ≡ 1024 * 2 ^ next.0
    → next.1 ≡ tree_top mine (h.whole / 1024) h.mode → IsNext h.mode h.subtrees next (x ++ mine)
next_of h next x mine none (before, cut, are, size, few) from len node =
    let same : x ≡ before = cut ∙ ap (λ t. before ++ t) none ∙ append-nil before in
    (before, mine, ap (λ z. z ++ mine) same, len, node ∙ ap (λ n. tree_top mine (n / 1024) h.mode) (sym size), from, are)

-- after it
pub holds_next : (h new : ModelHasher) (next : ℕ × ModelTop) (x mine : List ℕ) → h.tail ≡ [] → HasInput h x → length mine ≡ 1024 * 2 ^ next.0
    → new.mode ≡ h.mode → new.tail ≡ h.tail → new.whole ≡ h.whole + 1024 * 2 ^ next.0 → AreSubtrees h.mode new.subtrees (x ++ mine) → HasInput new (x ++ mine)
holds_next h new next x mine none (before, cut, are, size, few) len mode tail whole more =
    let same : length x ≡ h.whole + length h.tail = ap length cut ∙ length-append before h.tail ∙ ap (λ n. n + length h.tail) size in
    let empty : length h.tail ≡ 0 = ap length none in (
      x ++ mine,
      sym (ap (λ t. (x ++ mine) ++ t) (tail ∙ none) ∙ append-nil (x ++ mine)),
      subst (λ p. AreSubtrees p new.subtrees (x ++ mine)) (sym mode) more,
      omega (arith, length-append x mine, len, same, empty, whole),
      rw tail few,
    )

no_more : (subtrees : Subtrees) (k : ℕ) → AreAbove k subtrees → AreNoMore subtrees (1024 * 2 ^ k)
no_more subtrees k above = wider subtrees k (1024 * 2 ^ k) above (omega (arith, pow_mono {i = k} {j = k + 1} (omega arith)))

-- the node over whole subtrees alone
pub whole_joined : (p : ModelMode) (s : ℕ × ModelTop) (subtrees : Subtrees) (x : List ℕ) → AreSubtrees p (s ∷ subtrees) x → joined p subtrees s.1 ≡ tree_top x 0 p
whole_joined p s subtrees x (before, mine, cut, len, node, above, rest) =
    all_joined p subtrees before mine s.1 rest (rw len (no_more subtrees s.0 above)) (omega (arith, len, pow_pos s.0)) node
    ∙ ap (λ y. tree_top y 0 p) (sym cut)

pub whole_work : (p : ModelMode) (s : ℕ × ModelTop) (subtrees : Subtrees) (x : List ℕ) → AreSubtrees p (s ∷ subtrees) x
    → hash_work (length x) - 1 ≡ kept_work (s ∷ subtrees) + 2 * length subtrees
whole_work p s subtrees x (before, mine, cut, len, node, above, rest) =
    let size : length x ≡ length before + 1024 * 2 ^ s.0 = ap length cut ∙ length-append before mine ∙ ap (λ n. length before + n) len in
    let at = ap hash_work size in
    let work = joined_work p subtrees before (1024 * 2 ^ s.0) rest (omega (arith, pow_pos s.0)) in
    omega (arith, at, work)

short_no_more : (subtrees : Subtrees) (n : ℕ) → n < 1024 → AreNoMore subtrees n
unfolding AreNoMore
short_no_more [] n few = tt
short_no_more (s ∷ subtrees) n few = omega (arith, few, pow_pos s.0)

-- the node over subtrees and the bytes after them, of which there are some, or there is no subtree
pub tail_joined : (p : ModelMode) (subtrees : Subtrees) (before tail : List ℕ) (right : ModelTop) → AreSubtrees p subtrees before → length tail < 1024
    → (0 < length tail) ⊎ (subtrees ≡ []) → right ≡ chunk_top tail (length before / 1024) p → joined p subtrees right ≡ tree_top (before ++ tail) 0 p
tail_joined p subtrees before tail right are few (inl some) node =
    all_joined p subtrees before tail right are (short_no_more subtrees (length tail) few) some
    (node ∙ sym (top_short tail (length before / 1024) p (omega (arith, few))))
tail_joined p [] before tail right are few (inr none) node = rw are (rw are at node ∙ sym (top_short tail 0 p (omega (arith, few))))
tail_joined p (s ∷ subtrees) before tail right are few (inr none) node = absurd (search (rules, none))

pub tail_work : (p : ModelMode) (subtrees : Subtrees) (before tail : List ℕ) → AreSubtrees p subtrees before → length tail < 1024 → (0 < length tail) ⊎ (subtrees ≡ [])
    → hash_work (length (before ++ tail)) - 1 ≡ kept_work subtrees + (block_count (length tail) - 1) + 2 * length subtrees
tail_work p subtrees before tail are few (inl some) =
    let size = ap hash_work (length-append before tail) in
    let work = joined_work p subtrees before (length tail) are some in
    omega (arith, size, work, few, some)
tail_work p [] before tail are few (inr none) = rw are (omega (arith, few))
tail_work p (s ∷ subtrees) before tail are few (inr none) = absurd (search (rules, none))

-- a chunk that was begun, once it is whole
abbrev pub bare : ModelHasher → ModelHasher
bare h = record { mode = h.mode; subtrees = h.subtrees; whole = h.whole; tail = [] }

holds_bare : (h : ModelHasher) (x : List ℕ) → (is : HasInput h x) → HasInput (bare h) is.0
holds_bare h x (before, cut, are, size, few) = (before, sym (append-nil before), are, size, omega arith)

filled_cut : (h : ModelHasher) (x front : List ℕ) → (is : HasInput h x) → is.0 ++ (h.tail ++ front) ≡ x ++ front
filled_cut h x front (before, cut, are, size, few) = sym (append_assoc before h.tail front) ∙ ap (λ z. z ++ front) (sym cut)

pub next_filled : (h : ModelHasher) (top : ModelTop) (x front : List ℕ) → HasInput h x → length (h.tail ++ front) ≡ 1024 → top ≡ chunk_top (h.tail ++ front) (h.whole / 1024) h.mode
    → IsNext h.mode h.subtrees (0, top) (x ++ front)
next_filled h top x front is len node =
    subst (λ y. IsNext h.mode h.subtrees (0, top) y) (filled_cut h x front is)
    (next_of (bare h) (0, top) is.0 (h.tail ++ front) refl (holds_bare h x is) (from_zero h.subtrees) len
    (node ∙ sym (top_short (h.tail ++ front) (h.whole / 1024) h.mode (omega (arith, len)))))

pub holds_filled : (h new : ModelHasher) (top : ModelTop) (x front : List ℕ) → HasInput h x → length (h.tail ++ front) ≡ 1024
    → new.mode ≡ h.mode → new.tail ≡ [] → (h.whole + 1024 * 2 ^ 0 < 2 ^ 64 → new.whole ≡ h.whole + 1024 * 2 ^ 0) → length (x ++ front) < 2 ^ 64
    → AreSubtrees h.mode new.subtrees (x ++ front) → HasInput new (x ++ front)
holds_filled h new top x front is len mode tail whole few are =
    let cut = filled_cut h x front is in
    let size : length (x ++ front) ≡ h.whole + 1024 = ap length (sym cut) ∙ length-append is.0 (h.tail ++ front) ∙ omega (arith, len, is.3) in
    subst (HasInput new) cut (holds_next (bare h) new (0, top) is.0 (h.tail ++ front) refl (holds_bare h x is) len mode tail (whole (omega (arith, few, size)))
    (subst (AreSubtrees h.mode new.subtrees) (sym cut) are))
