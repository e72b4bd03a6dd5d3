-- Blocks of a source, after those that a hasher was given.
use Rattle.std.proofs.Common.{suc, zero, ◌≡◌, ℕ, ◌+◌, ◌*◌, ◌/◌, ◌^◌, ◌<◌, ◌≤◌, ◌++◌, List, [], ◌∷◌, Option, Some, None, IfSome, length, take, drop, set, arith, refl, ap, ap₂, sym, ◌∙◌, subst, length-append, slice_index_or}
use Rattle.std.specs.Prelude.{flat_map}
use Rattle.std.proofs.lemmas.Grind.{flat_map-append}
use Rattle.std.proofs.lemmas.List.{append-nil, take-append-drop, take_more}
use Rattle.std.proofs.Math.Nat.{mul-le-mul_left}
use Rattle.std.proofs.Math.Seq.{take-add, take-append_seam}
use Rattle.std.specs.Global.{Vec}
use Rattle.std.specs.Io.KnownBytes.{Consumes, IsAtEnd}
use Rattle.b3_core.specs.Tree.{ModelMode}
use Rattle.b3_parallel.specs.inner.Blocks.{IsHashed, IsReady}
use Rattle.b3_parallel.specs.Rounds.{AreAll}
use Rattle.b3_parallel.specs.inner.Rounds.{ArePlaced, AreSlots, AreTaken, HasFront, IsPlaced, StandsAt}
use Rattle.b3_parallel.specs.Sources.{known_from}
use Rattle.b3_parallel.specs.declared.counted_hasher.CountedHasher.{CountedHasher}
use Rattle.b3_parallel.specs.declared.taking.Placed.{Placed}
use Rattle.b3_parallel.proofs.Carrying.{few_bytes, hashed_as}

-- what a reader gives from a place on is there
pub read_stands : (known new : Option (List ℕ)) (start : ℕ) (x : List ℕ) → Consumes (known_from known start) new x → StandsAt known start x
read_stands None new start x gave = tt
read_stands (Some all) None start x gave = absurd gave
read_stands (Some all) (Some rest) start x gave = ap (take (length x)) gave ∙ take-append_seam x rest

-- the first bytes, and those that follow them
pub front_more : (known : Option (List ℕ)) (x y : List ℕ) → StandsAt known 0 x → StandsAt known (length x) y → StandsAt known 0 (x ++ y)
front_more None x y first then = tt
front_more (Some all) x y first then =
    ap (λ n. take n all) (length-append x y) ∙ take-add (length x) (length y) all ∙ ap₂ (λ a b. a ++ b) first then

-- the first bytes, and all that a reader gives after them
pub front_all : (known new : Option (List ℕ)) (x y : List ℕ) → StandsAt known 0 x → Consumes (known_from known (length x)) new y → IsAtEnd new → AreAll known (x ++ y)
front_all None new x y first gave end = tt
front_all (Some all) None x y first gave end = absurd gave
front_all (Some all) (Some rest) x y first gave end =
    let following : drop (length x) all ≡ y = gave ∙ ap (λ z. y ++ z) end ∙ append-nil y in
    ap₂ (λ a b. a ++ b) (sym first) (sym following) ∙ take-append-drop (length x) all

-- bytes at the start, after which there are none
pub front_whole : (known : Option (List ℕ)) (x : List ℕ) → StandsAt known 0 x → IsAtEnd (known_from known (length x)) → AreAll known x
front_whole None x first end = tt
front_whole (Some all) x first end =
    sym (ap₂ (λ a b. a ++ b) first end ∙ append-nil x) ∙ take-append-drop (length x) all

-- the bytes of the first i blocks, followed by those of the next one
pub blocks_join : (blocks : List (Vec ℕ)) (i : ℕ) (d : Vec ℕ) → i < length blocks
    → flat_map (λ b. b.items) (take (i + 1) blocks) ≡ flat_map (λ b. b.items) (take i blocks) ++ (slice_index_or blocks i d).items
blocks_join blocks i d below =
    ap (flat_map (λ b. b.items)) (take_more blocks i d below) ∙ flat_map-append (λ b. b.items) (take i blocks) (slice_index_or blocks i d ∷ [])
    ∙ ap (λ x. flat_map (λ b. b.items) (take i blocks) ++ x) (append-nil (slice_index_or blocks i d).items)

-- the first i blocks, and the next one
pub blocks_more : (known : Option (List ℕ)) (blocks : List (Vec ℕ)) (i start : ℕ) (d : Vec ℕ) → i < length blocks
    → length (flat_map (λ b. b.items) (take i blocks)) ≡ start → StandsAt known 0 (flat_map (λ b. b.items) (take i blocks))
    → StandsAt known start (slice_index_or blocks i d).items → StandsAt known 0 (flat_map (λ b. b.items) (take (i + 1) blocks))
blocks_more known blocks i start d below size first then =
    let next : StandsAt known (length (flat_map (λ b. b.items) (take i blocks))) (slice_index_or blocks i d).items = subst (λ n. StandsAt known n (slice_index_or blocks i d).items) (sym size) then in
    subst (StandsAt known 0) (sym (blocks_join blocks i d below)) (front_more known _ _ first next)

-- blocks that end within 2^53 chunks
pub room_within : (place end size : ℕ) → place < end → end * size ≤ 2 ^ 53 → (place + 1) * size ≤ 2 ^ 53
room_within place end size below most =
    let up : size * (place + 1) ≤ size * end = mul-le-mul_left size (omega (arith, below)) in
    omega (arith, up, most)

-- the first blocks, and the next one, which was appended
pub front_grows : (p : ModelMode) (known : Option (List ℕ)) (k place : ℕ) (front new : CountedHasher) (s : Placed) → (place + 1) * 2 ^ k ≤ 2 ^ 53 → s.place ≡ place
    → ((x mine : List ℕ) → IsReady p k front x → length mine ≡ 1024 * 2 ^ k → IsHashed p mine (length x / 1024) s.top s.work → length x + length mine < 2 ^ 64 → IsReady p k new (x ++ mine))
    → IsPlaced p known k s → HasFront p known k front place → HasFront p known k new (place + 1)
front_grows p known k place front new s most same append (mine, len, hashed, at) (x, ready, size, first) =
    let sum : (place + 1) * 2 ^ k ≡ place * 2 ^ k + 2 ^ k = omega arith in
    let start : 1024 * (s.place * 2 ^ k) ≡ length x = ap (λ n. 1024 * (n * 2 ^ k)) same ∙ sym size in
    let following = hashed_as p p mine (length x / 1024) (s.place * 2 ^ k) s.top s.work hashed (omega (arith, start)) refl in (
      x ++ mine,
      append x mine ready len following (few_bytes (length x) place (2 ^ k) (length mine) size len most),
      omega (arith, length-append x mine, size, len, sum),
      front_more known x mine first (subst (λ n. StandsAt known n mine) start at),
    )

-- a list with one more block after the others
pub placed_more : (p : ModelMode) (known : Option (List ℕ)) (k : ℕ) (list : List Placed) (s : Placed) → ArePlaced p known k list → IsPlaced p known k s → ArePlaced p known k (list ++ s ∷ [])
placed_more p known k [] s are is = (is, tt)
placed_more p known k (first ∷ list) s (one, are) is = (one, placed_more p known k list s are is)

-- slots of which one is another
pub slots_set : (p : ModelMode) (known : Option (List ℕ)) (k i : ℕ) (slots : List (Option Placed)) (s : Option Placed) → AreSlots p known k slots → IfSome s (IsPlaced p known k) → AreSlots p known k (set slots i s)
slots_set p known k i [] s are is = tt
slots_set p known k zero (first ∷ slots) s (one, are) is = (is, are)
slots_set p known k (suc i) (first ∷ slots) s (one, are) is = (one, slots_set p known k i slots s are is)

pub slots_more : (p : ModelMode) (known : Option (List ℕ)) (k : ℕ) (slots : List (Option Placed)) (s : Option Placed) → AreSlots p known k slots → IfSome s (IsPlaced p known k) → AreSlots p known k (slots ++ s ∷ [])
slots_more p known k [] s are is = (is, tt)
slots_more p known k (first ∷ slots) s (one, are) is = (one, slots_more p known k slots s are is)

-- what one thread made, after what others did
pub taken_more : (p : ModelMode) (known : Option (List ℕ)) (k : ℕ) (lists : List (Vec Placed)) (list : Vec Placed) → AreTaken p known k lists → ArePlaced p known k list.items → AreTaken p known k (lists ++ list ∷ [])
taken_more p known k [] list are is = (is, tt)
taken_more p known k (first ∷ lists) list (one, are) is = (one, taken_more p known k lists list are is)

nothing_stands : (known : Option (List ℕ)) → StandsAt known 0 []
nothing_stands None = tt
nothing_stands (Some all) = refl

-- a hasher that was given nothing
pub front_begins : (p : ModelMode) (known : Option (List ℕ)) (k : ℕ) (front : CountedHasher) → IsReady p k front [] → HasFront p known k front 0
front_begins p known k front ready = ([], ready, omega arith, nothing_stands known)

-- a number of blocks, of which the last ends within 2^53 chunks
pub all_within : (blocks limit size : ℕ) → blocks ≤ limit → ((n : ℕ) → n < limit → (n + 1) * size ≤ 2 ^ 53) → blocks * size ≤ 2 ^ 53
all_within zero limit size few within = omega arith
all_within (suc n) limit size few within = let last : (n + 1) * size ≤ 2 ^ 53 = within n (omega (arith, few)) in omega (arith, last)
