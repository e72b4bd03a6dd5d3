-- What a hasher was given of what was read.
use Rattle.std.proofs.Common.{◌≡◌, ℕ, ◌+◌, ◌-◌, ◌^◌, ◌<◌, ◌≤◌, ◌++◌, List, [], Option, None, Some, length, arith, refl, ap, sym, ◌∙◌, subst, append_assoc, length-append}
use Rattle.std.proofs.lemmas.List.{append-nil}
use Rattle.std.specs.Io.KnownBytes.{Consumes, Keeps}
use Rattle.std.proofs.KnownBytes.{Consumes-trans, Consumes-kept}
use Rattle.b3_core.specs.Hashers.{ModelHasher, HasInput, count_of}
use Rattle.b3_core.specs.Tree.{ModelTop, ModelMode, tree_top}
use Rattle.b3_core.specs.Work.{counted, hash_work}
use Rattle.b3_parallel.specs.inner.Blocks.{HasRead, IsGiven}
use Rattle.b3_parallel.specs.declared.counted_hasher.CountedHasher.{CountedHasher}

pub nothing : (known : Option (List ℕ)) → Consumes known known []
nothing None = tt
nothing (Some xs) = refl

-- what the hasher was given in all
pub max_of : (most : ℕ) (h : CountedHasher) (x : List ℕ) (old new : Option (List ℕ)) → (is : HasRead most h x old new) → length (x ++ is.0) ≤ most
max_of most h x old new (y, given, consumed, few) = omega (arith, few, length-append x y)

-- nothing was read yet
pub none_read : (most : ℕ) (h : CountedHasher) (x : List ℕ) (known : Option (List ℕ)) → IsGiven h x → length x ≤ most → HasRead most h x known known
none_read most h x known given few = ([], subst (IsGiven h) (sym (append-nil x)) given, nothing known, omega (arith, few))

-- bytes that were read after the others and given to the hasher
pub read_more : (most : ℕ) (h new : CountedHasher) (x bytes : List ℕ) (old mid now : Option (List ℕ)) → (is : HasRead most h x old mid)
    → IsGiven new ((x ++ is.0) ++ bytes) → Consumes mid now bytes → length (x ++ is.0) + length bytes ≤ most → HasRead most new x old now
read_more most h new x bytes old mid now (y, before, consumed, few) given then fits = (
  y ++ bytes,
  subst (IsGiven new) (append_assoc x y bytes) given,
  Consumes-trans old mid now y bytes consumed then,
  omega (arith, fits, length-append x y, length-append y bytes),
)

-- a read that gave nothing
pub read_none : (most : ℕ) (h : CountedHasher) (x : List ℕ) (old mid now : Option (List ℕ)) → HasRead most h x old mid → Keeps mid now → HasRead most h x old now
read_none most h x old mid now (y, given, consumed, few) kept = (y, given, Consumes-kept old mid now y consumed kept, few)

-- a hasher counts the bytes that it was given
counts_all : (h : ModelHasher) (x : List ℕ) → HasInput h x → length x < 2 ^ 64 → count_of h ≡ length x
counts_all h x (before, cut, are, size, short) few = omega (arith, few, size, ap length cut, length-append before h.tail)

-- what was read before and after
pub both_read : (most more : ℕ) (h new : CountedHasher) (old mid now : Option (List ℕ)) → (first : HasRead most h [] old mid) → HasRead more new first.0 mid now → HasRead more new [] old now
both_read most more h new old mid now (x, given, consumed, few) (y, held, then, fits) = (x ++ y, held, Consumes-trans old mid now x y consumed then, omega (arith, fits, length-append x y))

-- the node of all that was read, and its compressions
pub top_of_read : (most : ℕ) (h : CountedHasher) (p : ModelMode) (top : ModelTop) (work : ℕ) (old now : Option (List ℕ)) → HasRead most h [] old now → h.hasher.mode ≡ p
    → ((z : List ℕ) → IsGiven h z → top ≡ tree_top z 0 h.hasher.mode) → ((z : List ℕ) → IsGiven h z → work ≡ counted 0 (hash_work (length z) - 1))
    → (x : List ℕ) × (top ≡ tree_top x 0 p) × Consumes old now x × (work ≡ counted 0 (hash_work (length x) - 1))
top_of_read most h p top work old now (x, given, consumed, few) mode node count = (x, node x given ∙ ap (tree_top x 0) mode, consumed, count x given)

-- a hasher that holds no fewer bytes than it was to get
pub all_of_them : (most : ℕ) (h : CountedHasher) (old now : Option (List ℕ)) → (is : HasRead most h [] old now) → most < 2 ^ 64 → most ≤ count_of h.hasher → length is.0 ≡ most
all_of_them most h old now (x, (held, count), consumed, few) small full =
    let counted_all = counts_all h.hasher x held (omega (arith, few, small)) in
    omega (arith, few, full, counted_all)
