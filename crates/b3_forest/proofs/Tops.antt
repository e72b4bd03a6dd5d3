-- The top over pieces from the right.
use Rattle.std.proofs.Common.{◌≡◌, ℕ, ◌+◌, ◌*◌, ◌++◌, List, [], ◌∷◌, length, Option, Some, None, arith, refl, ap, sym, ◌∙◌}
use Rattle.std.proofs.lemmas.List.{length-append}
use Rattle.b3_core.specs.Tree.{ModelTop}
use Rattle.b3_core.specs.Work.{counted}
use Rattle.b3_forest.specs.inner.Subtrees.{over, parents_left, top_before}
use Rattle.b3_forest.specs.declared.piece.Subtree.{Subtree}

pub top_push : (ns : List Subtree) (n : Subtree) (right : Option ModelTop) → top_before (ns ++ n ∷ []) right ≡ top_before ns (over n right)
unfolding top_before
top_push [] n right = refl
top_push (m ∷ ns) n right = ap (over m) (top_push ns n right)

-- ---- counts

pub first_count : (w v : ℕ) (ns ms : List Subtree) (n : Subtree) (top : Option ModelTop) → top ≡ None → ns ≡ ms ++ n ∷ [] → counted w (2 * parents_left ns top) ≡ v → counted w (2 * length ms) ≡ v
first_count w v ns ms n top none cut work =
    let len : length ns ≡ length ms + 1 = ap length cut ∙ length-append ms (n ∷ []) in
    let left : parents_left ns top ≡ length ms = ap (parents_left ns) none ∙ omega (arith, len) in
    ap (λ i. counted w (2 * i)) (sym left) ∙ work

pub more_count : (w u v : ℕ) (ns ms : List Subtree) (n : Subtree) (right : ModelTop) (top : Option ModelTop) → top ≡ Some right → ns ≡ ms ++ n ∷ [] → u ≡ counted w 2
    → counted w (2 * parents_left ns top) ≡ v → counted u (2 * length ms) ≡ v
more_count w u v ns ms n right top some cut one work =
    let len : length ns ≡ length ms + 1 = ap length cut ∙ length-append ms (n ∷ []) in
    let left : parents_left ns top ≡ length ms + 1 = ap (parents_left ns) some ∙ len in
    let twice : counted u (2 * length ms) ≡ counted w (2 * (length ms + 1)) = omega (arith, one) in
    twice ∙ ap (λ i. counted w (2 * i)) (sym left) ∙ work

pub none_count : (w v : ℕ) (ns : List Subtree) (top : Option ModelTop) → ns ≡ [] → counted w (2 * parents_left ns top) ≡ v → w ≡ v
none_count w v ns None empty work = let none : length ns ≡ 0 = ap length empty in omega (arith, none, work)
none_count w v ns (Some right) empty work = let none : length ns ≡ 0 = ap length empty in omega (arith, none, work)
