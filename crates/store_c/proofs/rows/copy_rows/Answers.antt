use Rattle.std.proofs.Common.{◌≡◌, ◌++◌, ◌+◌, ◌<◌, ◌∙◌, ℕ, List, [], ◌∷◌, ap, arith, length, refl, zero, suc}
use Rattle.std.specs.Prelude.{drop, get_or, map, set, take}
use Rattle.store_c.proofs.rows.copy_rows.Goals as goal

-- one more row is copied
copied_one : {T C : Type 0} (f : T → C) (items : List T) (rows : List C) (i : ℕ) (d : T) → i < length items → i < length rows
    → set (map f (take i items) ++ drop i rows) i (f (get_or items i d)) ≡ map f (take (suc i) items) ++ drop (suc i) rows
copied_one f [] rows i d s t = absurd (omega (arith, s))
copied_one f (x ∷ items) [] i d s t = absurd (omega (arith, t))
copied_one f (x ∷ items) (y ∷ rows) zero d s t = refl
copied_one f (x ∷ items) (y ∷ rows) (suc i) d s t = ap (λ r. f x ∷ r) (copied_one f items rows i d (omega (arith, s)) (omega (arith, t)))

copied_next : {T C : Type 0} (f : T → C) (items : List T) (rows done : List C) (i : ℕ) (row : C) (d : T) → done ≡ map f (take i items) ++ drop i rows
    → row ≡ f (get_or items i d) → i < length items → i < length rows → set done i row ≡ map f (take (i + 1) items) ++ drop (i + 1) rows
copied_next f items rows done i row d before is s t =
    let next : suc i ≡ i + 1 = omega arith in
    ap (λ r. set done i r) is ∙ (ap (λ r. set r i (f (get_or items i d))) before ∙ (copied_one f items rows i d s t ∙ ap (λ n. map f (take n items) ++ drop n rows) next))

pub loop-i-preserved : goal.loop-i-preserved
loop-i-preserved g c =
    copied_next g.C.RowOf.shown _ c.args.rows.now _ _ _ _ c.loop-i.invariant (c.of.ensures ∙ ap g.C.RowOf.shown c.index-later-i.is) (search arith) (search arith)
