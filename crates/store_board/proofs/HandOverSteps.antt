-- Each step of a hand-over keeps its rule.
use Rattle.std.proofs.Common.{◌≡◌, ◌≢◌, ℕ, zero, suc, ◌+◌, ◌-◌, ◌^◌, ◌<◌, List, [], ◌∷◌, ◌++◌, sum_by, length, nat_eq, set, sym, refl, ap, ◌∙◌, subst, ⊎_elim, arith, append_assoc, length-append}
use mathlib.Core.Option.{some, some-ne-none, some-injective}
use lib.ListN.{get_elem?}
use Rattle.std.proofs.lemmas.List.{append-nil}
use Rattle.std.proofs.lemmas.List.Sums.{sum_by-append, sum_by_push}
use Rattle.std.proofs.lemmas.List.Elements.{filter-append}
use Rattle.std.proofs.lemmas.Bool.Decides.{nat_tests}
use Rattle.crossbeam_queue.specs.Fifo.{Pushes, Pops, Forks, Merges, Learns, Held}
use Rattle.crossbeam_queue.proofs.Lists.{at_set, at_snoc}
use Rattle.store_board.specs.declared.passes.Taken.{Taken}
use Rattle.store_board.specs.declared.passes.PassView.{PassView}
use Rattle.store_board.specs.HandOverRule.{of_giver, taker_view, first_view, giver_view, parting_view, spent_view, giving_view, taking_view, sum_view, for_later, passes_of, HandOverRule, With, Starts, KeepsGiving, KeepsTaking, KeepsJoining, IsSeenWith}
use Rattle.store_board.specs.inner.HandOverRule.{Ended}
use Rattle.store_ledger.proofs.Sums.{pos_or_zero, hit, hit_self, sum_at, two_le, alone}

-- where a fact holds of one new view and of all others, it holds of all
all_set : (F : ℕ → PassView → Type 0) (views : List PassView) (id : ℕ) (w : PassView) → F id w → ((j : ℕ) (u : PassView) → j ≢ id → get_elem? views j ≡ some u → F j u)
    → (j : ℕ) (u : PassView) → get_elem? (set views id w) j ≡ some u → F j u
all_set F views id w mine others j u e = ⊎_elim (λ (x : (j ≡ id) × (w ≡ u)). subst (λ (y : ℕ × PassView). F y.0 y.1) (λ i. (sym x.0 i, x.1 i)) mine)
    (λ (x : (j ≢ id) × (get_elem? views j ≡ some u)). others j u x.0 x.1) (at_set views id j w u e)

-- an item of another giver adds nothing
pub of_snoc_other : (g : ℕ) (xs : List Taken) (x : Taken) → x.giver ≢ g → of_giver g (xs ++ x ∷ []) ≡ of_giver g xs
of_snoc_other g xs x n =
    let one : of_giver g (x ∷ []) ≡ [] = grind (arith, nat_tests) in
    filter-append (λ (y : Taken). nat_eq y.giver g) xs (x ∷ []) ∙ (ap (λ l. of_giver g xs ++ l) one ∙ append-nil (of_giver g xs))

-- where one view only can be that of a giver
apart : (items : List Taken) (views : List PassView) (id j g : ℕ) (v u : PassView) → HandOverRule items views → j ≢ id → get_elem? views id ≡ some v → get_elem? views j ≡ some u → 0 < passes_of g v → passes_of g u ≡ 0
apart items views id j g v u h n at e p = omega (arith, h.one_pass g, p, two_le (passes_of g) views j id u v n e at)

-- a giver gives an item
pub pushes : (n id : ℕ) (v : PassView) (x : Taken) → 0 < v.rights → v.taker ≡ 0 → v.givers ≡ x.giver ∷ [] → Pushes HandOverRule n id v x (λ w. w ≡ giving_view v x)
pushes n id v x right no_root mine items views room h at =
    let w : PassView = giving_view v x in
    let sum = λ (f : PassView → ℕ). sum_at f views id v w at in
    let here : 0 < passes_of x.giver v = let one : hit x.giver x.giver ≡ 1 = hit_self x.giver in let s : sum_by (hit x.giver) v.givers ≡ 0 + hit x.giver x.giver = ap (sum_by (hit x.giver)) mine in omega (arith, one, s) in
    let history : (g : ℕ) → of_giver g (h.taken ++ (items ++ x ∷ [])) ≡ of_giver g (h.taken ++ items) ++ of_giver g (x ∷ []) = λ g. ap (of_giver g) (sym (append_assoc h.taken items (x ∷ []))) ∙ filter-append (λ (y : Taken). nat_eq y.giver g) (h.taken ++ items) (x ∷ []) in
    let alike : (g : ℕ) → x.giver ≢ g → of_giver g (h.taken ++ (items ++ x ∷ [])) ≡ of_giver g (h.taken ++ items) = λ g no. ap (of_giver g) (sym (append_assoc h.taken items (x ∷ []))) ∙ of_snoc_other g (h.taken ++ items) x no in (
      w,
      record {
        taken = h.taken;
        rights = let q = sum (λ v. v.rights) in omega (arith, q, h.rights);
        takers = let q = sum (λ v. v.taker) in omega (arith, q, h.takers);
        count = let q = sum (λ v. length v.given) in omega (arith, q, h.count, length-append v.given (x ∷ []), length-append items (x ∷ []));
        one_pass = λ g. let q = sum (passes_of g) in omega (arith, q, h.one_pass g);
        gives = λ j u g e p. all_set (λ j u. 0 < passes_of g u → of_giver g u.given ≡ of_giver g (h.taken ++ (items ++ x ∷ []))) views id w
            (λ q. filter-append (λ (y : Taken). nat_eq y.giver g) v.given (x ∷ []) ∙ (ap (λ l. l ++ of_giver g (x ∷ [])) (h.gives id v g at q) ∙ sym (history g)))
            (λ j u apart' d q. h.gives j u g d q ∙ sym (alike g (λ same. absurd (let z = apart items views id j x.giver v u h apart' at d here in let q' : 0 < passes_of x.giver u = subst (λ k. 0 < passes_of k u) (sym same) q in omega (arith, z, q')))))
            j u e p;
        rest = λ j u g e z. all_set (λ j u. passes_of g u ≡ 0 → of_giver g u.given ≡ []) views id w
            (λ q. of_snoc_other g v.given x (λ same. absurd (let q' : passes_of x.giver v ≡ 0 = subst (λ k. passes_of k v ≡ 0) (sym same) q in omega (arith, q', here))) ∙ h.rest id v g at q)
            (λ j u _ d q. h.rest j u g d q) j u e z;
        takes = all_set (λ j u. 0 < u.taker → u.taken ≡ h.taken) views id w (h.takes id v at) (λ j u _ d. h.takes j u d);
        idle = all_set (λ j u. u.rights ≡ 0 → (u.taker ≡ 0) × (u.givers ≡ []) × (u.given ≡ [])) views id w (λ z. absurd (omega (arith, z, right))) (λ j u _ d. h.idle j u d);
      },
      refl,
    )

-- what a pass learns of a full or an empty queue
pub seen_with : (seen : List Taken → List PassView → Type 0) (id : ℕ) (v : PassView) → Learns (With seen) id v (IsSeenWith seen v)
seen_with seen id v items views h at = (views, id, h, at)

-- what is learned of the rule is learned of both
pub learns_with : (seen : List Taken → List PassView → Type 0) (id : ℕ) (v : PassView) (fact : List Taken → Type 0) → Learns HandOverRule id v fact → Learns (With seen) id v fact
learns_with seen id v fact l items views h at = l items views h.0 at

-- the taker takes the first item
pub pops : (id : ℕ) (v : PassView) → 0 < v.rights → v.taker ≡ 1 → Pops HandOverRule id v (λ x w. w ≡ taking_view v x)
pops id v right root x items views h at =
    let w : PassView = taking_view v x in
    let sum = λ (f : PassView → ℕ). sum_at f views id v w at in
    let now : List Taken = h.taken ++ x ∷ [] in
    let same : (now ++ items) ≡ (h.taken ++ x ∷ items) = append_assoc h.taken (x ∷ []) items in
    let history : (g : ℕ) → of_giver g (h.taken ++ x ∷ items) ≡ of_giver g (now ++ items) = λ g. ap (of_giver g) (sym same) in (
      w,
      record {
        taken = now;
        rights = let q = sum (λ v. v.rights) in omega (arith, q, h.rights);
        takers = let q = sum (λ v. v.taker) in omega (arith, q, h.takers);
        count = let q = sum (λ v. length v.given) in omega (arith, q, h.count, length-append h.taken (x ∷ []));
        one_pass = λ g. let q = sum (passes_of g) in omega (arith, q, h.one_pass g);
        gives = λ j u g e p. all_set (λ j u. 0 < passes_of g u → of_giver g u.given ≡ of_giver g (now ++ items)) views id w (λ q. h.gives id v g at q ∙ history g) (λ j u _ d q. h.gives j u g d q ∙ history g) j u e p;
        rest = λ j u g e z. all_set (λ j u. passes_of g u ≡ 0 → of_giver g u.given ≡ []) views id w (λ q. h.rest id v g at q) (λ j u _ d q. h.rest j u g d q) j u e z;
        takes = all_set (λ j u. 0 < u.taker → u.taken ≡ now) views id w (λ _. ap (λ l. l ++ x ∷ []) (h.takes id v at (omega (arith, root))))
            (λ j u apart' d p. absurd (let z = two_le (λ v. v.taker) views j id u v apart' d at in omega (arith, h.takers, root, p, z)));
        idle = all_set (λ j u. u.rights ≡ 0 → (u.taker ≡ 0) × (u.givers ≡ []) × (u.given ≡ [])) views id w (λ z. absurd (omega (arith, z, right))) (λ j u _ d. h.idle j u d);
      },
      refl,
    )

-- the next giver is one of those that have no pass yet
begun : (g n r : ℕ) → r ≡ 1 → for_later n r g ≡ for_later (n + 1) r g + hit g n
begun g n r is = grind (arith, nat_tests)

-- a pass that is not the taker's stands for no other giver
nothing_on : (g n r : ℕ) → r ≡ 0 → for_later n r g ≡ 0
nothing_on g n r is = grind (arith, nat_tests)

-- the taker makes the pass of the next giver
pub forks : (id rights from : ℕ) → 1 < rights → Forks HandOverRule id (taker_view rights from) (taker_view (rights - 1) (from + 1)) (giver_view from)
forks id rights from some_left items views h at =
    let v : PassView = taker_view rights from in
    let l : PassView = taker_view (rights - 1) (from + 1) in
    let n : PassView = giver_view from in
    let vs : List PassView = set views id l ++ n ∷ [] in
    let sum : (f : PassView → ℕ) → sum_by f vs + f v ≡ sum_by f views + (f l + f n) = λ f. omega (arith, sum_by_push f (set views id l) n, sum_at f views id v l at) in
    let both : (F : ℕ → PassView → Type 0) → ((j : ℕ) → F j l) → ((j : ℕ) → F j n) → ((j : ℕ) (u : PassView) → get_elem? views j ≡ some u → F j u) → (j : ℕ) (u : PassView) → get_elem? vs j ≡ some u → F j u =
    λ F a b old j u e. ⊎_elim (λ x. all_set F views id l (a id) (λ j u _ d. old j u d) j u x) (λ (x : n ≡ u). subst (F j) x (b j)) (at_snoc (set views id l) n u j e) in
    record {
      taken = h.taken;
      rights = let q = sum (λ v. v.rights) in omega (arith, q, h.rights, some_left);
      takers = let q = sum (λ v. v.taker) in omega (arith, q, h.takers);
      count = let q = sum (λ v. length v.given) in omega (arith, q, h.count);
      one_pass = λ g. let q = sum (passes_of g) in let b = begun g from 1 refl in let z = nothing_on g 0 0 refl in omega (arith, q, b, z, h.one_pass g);
      gives = λ j u g e p. both (λ j u. 0 < passes_of g u → of_giver g u.given ≡ of_giver g (h.taken ++ items)) (λ j q. h.gives id v g at (let b = begun g from 1 refl in omega (arith, b, q)))
          (λ j q. h.gives id v g at (let b = begun g from 1 refl in let z = nothing_on g 0 0 refl in omega (arith, b, q, z))) (λ j u d. h.gives j u g d) j u e p;
      rest = λ j u g e z. both (λ j u. passes_of g u ≡ 0 → of_giver g u.given ≡ []) (λ j q. refl) (λ j q. refl) (λ j u d. h.rest j u g d) j u e z;
      takes = both (λ j u. 0 < u.taker → u.taken ≡ h.taken) (λ j p. h.takes id v at p) (λ j p. absurd (omega (arith, p))) (λ j u d. h.takes j u d);
      idle = both (λ j u. u.rights ≡ 0 → (u.taker ≡ 0) × (u.givers ≡ []) × (u.given ≡ [])) (λ j z. absurd (omega (arith, z, some_left))) (λ j z. absurd (omega (arith, z))) (λ j u d. h.idle j u d);
    }

-- a fact of the only view
only : (F : ℕ → PassView → Type 0) (v : PassView) → F 0 v → (j : ℕ) (u : PassView) → get_elem? (v ∷ []) j ≡ some u → F j u
only F v mine zero u e = subst (F 0) (some-injective v u e) mine
only F v mine (suc j) u e = absurd (some-ne-none u (sym e))

-- at first the taker stands for every giver
from_none : (g r : ℕ) → for_later 0 r g ≡ r
from_none g r = grind (arith, nat_tests)

-- an empty queue, of which nobody has given or taken, keeps the rule
pub begins : HandOverRule [] (first_view ∷ [])
begins = let v : PassView = first_view in record {
  taken = [];
  rights = refl;
  takers = refl;
  count = refl;
  one_pass = λ g. let z = from_none g 1 in omega (arith, z);
  gives = λ j u g e p. only (λ j u. of_giver g u.given ≡ []) v refl j u e;
  rest = λ j u g e z. only (λ j u. of_giver g u.given ≡ []) v refl j u e;
  takes = only (λ j u. 0 < u.taker → u.taken ≡ []) v (λ _. refl);
  idle = only (λ j u. u.rights ≡ 0 → (u.taker ≡ 0) × (u.givers ≡ []) × (u.given ≡ [])) v (λ z. absurd (omega (arith, z)));
}

-- the taker takes in the pass of a giver
pub merges : (id : ℕ) (v : PassView) (other : ℕ) (w : PassView) → v.taker ≡ 1 → 0 < v.rights → w.taker ≡ 0
    → Merges HandOverRule id v other w (sum_view v w) spent_view
merges id v other w root right plain items views h at two at' =
    let b : PassView = sum_view v w in
    let s : PassView = spent_view in
    let vs : List PassView = set (set views id b) other s in
    let was : get_elem? views other ≡ some w = ⊎_elim (λ x. absurd (two x.0)) (λ x. x.1) (at_set views id other b w at') in
    let sum : (f : PassView → ℕ) → sum_by f vs + (f v + f w) ≡ sum_by f views + (f b + f s) = λ f. omega (arith, sum_at f views id v b at, sum_at f (set views id b) other w s at') in
    let blank : (g : ℕ) → passes_of g s ≡ 0 = λ g. let z = nothing_on g 0 0 refl in omega (arith, z) in
    let covered : (g : ℕ) → passes_of g b ≡ passes_of g v + passes_of g w = λ g. let z = nothing_on g w.next_giver w.taker plain in let t = sum_by-append (hit g) w.givers v.givers in omega (arith, z, t) in
    let parts : (g : ℕ) → of_giver g (w.given ++ v.given) ≡ of_giver g w.given ++ of_giver g v.given = λ g. filter-append (λ (y : Taken). nat_eq y.giver g) w.given v.given in
    let only_v : (g : ℕ) → passes_of g w ≡ 0 → of_giver g (w.given ++ v.given) ≡ of_giver g v.given = λ g z. parts g ∙ ap (λ l. l ++ of_giver g v.given) (h.rest other w g was z) in
    let only_w : (g : ℕ) → passes_of g v ≡ 0 → of_giver g (w.given ++ v.given) ≡ of_giver g w.given = λ g z. parts g ∙ (ap (λ l. of_giver g w.given ++ l) (h.rest id v g at z) ∙ append-nil (of_giver g w.given)) in
    let each : (F : ℕ → PassView → Type 0) → F id b → F other s → ((j : ℕ) (u : PassView) → get_elem? views j ≡ some u → F j u) → (j : ℕ) (u : PassView) → get_elem? vs j ≡ some u → F j u =
    λ F mine theirs old. all_set F (set views id b) other s theirs (λ j u _ d. all_set F views id b mine (λ j u _ d. old j u d) j u d) in
    record {
      taken = h.taken;
      rights = let q = sum (λ v. v.rights) in omega (arith, q, h.rights);
      takers = let q = sum (λ v. v.taker) in omega (arith, q, h.takers, plain);
      count = let q = sum (λ v. length v.given) in let l = length-append w.given v.given in omega (arith, q, l, h.count);
      one_pass = λ g. let q = sum (passes_of g) in omega (arith, q, blank g, covered g, h.one_pass g);
      gives = λ j u g e p. each (λ j u. 0 < passes_of g u → of_giver g u.given ≡ of_giver g (h.taken ++ items))
          (λ q. ⊎_elim (λ (z : passes_of g v ≡ 0). only_w g z ∙ h.gives other w g was (omega (arith, z, q, covered g))) (λ (k : 0 < passes_of g v). only_v g (apart items views id other g v w h two at was k) ∙ h.gives id v g at k) (pos_or_zero (passes_of g v)))
          (λ q. absurd (omega (arith, q, blank g))) (λ j u d. h.gives j u g d) j u e p;
      rest = λ j u g e z. each (λ j u. passes_of g u ≡ 0 → of_giver g u.given ≡ []) (λ q. only_v g (omega (arith, q, covered g)) ∙ h.rest id v g at (omega (arith, q, covered g))) (λ _. refl) (λ j u d. h.rest j u g d) j u e z;
      takes = each (λ j u. 0 < u.taker → u.taken ≡ h.taken) (h.takes id v at) (λ p. absurd (omega (arith, p))) (λ j u d. h.takes j u d);
      idle = each (λ j u. u.rights ≡ 0 → (u.taker ≡ 0) × (u.givers ≡ []) × (u.given ≡ [])) (λ z. absurd (omega (arith, z, right))) (λ _. (refl, refl, refl)) (λ j u d. h.idle j u d);
    }

-- what the pass with every right learns
pub ends : (id : ℕ) (v : PassView) → v.rights ≡ 2 ^ 64 → v.taker ≡ 1 → Learns HandOverRule id v (Ended v)
ends id v whole root items views h at =
    let all : sum_by (λ v. v.rights) views ≡ v.rights = h.rights ∙ sym whole in
    let mine = h.takes id v at (omega (arith, root)) in
    let one_pass : (g : ℕ) → passes_of g v ≡ 1 = λ g. sym (alone (λ (v : PassView). v.rights) (passes_of g) views id v at all (λ i u e z.
    let k = h.idle i u e z in let n = nothing_on g u.next_giver u.taker k.0 in let m : sum_by (hit g) u.givers ≡ 0 = ap (sum_by (hit g)) k.1 in omega (arith, n, m))) ∙ h.one_pass g in
    let count = alone (λ (v : PassView). v.rights) (λ v. length v.given) views id v at all (λ i u e z. ap length (h.idle i u e z).2) in (
      (λ g. (one_pass g, h.gives id v g at (let c = one_pass g in omega (arith, c)) ∙ ap (λ l. of_giver g (l ++ items)) (sym mine))),
      omega (arith, h.count, count, ap length mine),
    )

-- a giver's pass is split off a view that is known to be the taker's
pub forks_at : (id rights from : ℕ) (v : PassView) → v ≡ taker_view rights from → 1 < rights → Forks HandOverRule id v (parting_view v) (giver_view v.next_giver)
forks_at id rights from v is some_left = subst (λ u. Forks HandOverRule id u (parting_view u) (giver_view u.next_giver)) (sym is) (forks id rights from some_left)

-- ---- steps that keep a caller's rule too

pub pushes_with : (seen : List Taken → List PassView → Type 0) (n id : ℕ) (v : PassView) (x : Taken) → 0 < v.rights → v.taker ≡ 0 → v.givers ≡ x.giver ∷ [] → KeepsGiving seen id v x → Pushes (With seen) n id v x (λ w. w ≡ giving_view v x)
pushes_with seen n id v x right no_root mine keeps items views room h at =
    let p = pushes n id v x right no_root mine items views room h.0 at in
    (giving_view v x, (subst (λ u. HandOverRule (items ++ x ∷ []) (set views id u)) p.2 p.1, keeps items views h.0 h.1 at), refl)

pub pops_with : (seen : List Taken → List PassView → Type 0) (id : ℕ) (v : PassView) → 0 < v.rights → v.taker ≡ 1 → KeepsTaking seen id v → Pops (With seen) id v (λ x w. w ≡ taking_view v x)
pops_with seen id v right root keeps x items views h at =
    let p = pops id v right root x items views h.0 at in
    (taking_view v x, (subst (λ u. HandOverRule items (set views id u)) p.2 p.1, keeps x items views h.0 h.1 at), refl)

pub merges_with : (seen : List Taken → List PassView → Type 0) (id : ℕ) (v : PassView) (other : ℕ) (w : PassView) → v.taker ≡ 1 → 0 < v.rights → w.taker ≡ 0 → KeepsJoining seen
    → Merges (With seen) id v other w (sum_view v w) spent_view
merges_with seen id v other w root right plain keeps items views h at two at' =
    (merges id v other w root right plain items views h.0 at two at', keeps id other v w items views h.1 at at')

pub forks_with : (seen : List Taken → List PassView → Type 0) (givers id from : ℕ) (v : PassView) → v ≡ taker_view (2 ^ 64 - from) from → 1 < 2 ^ 64 - from → from < givers → Starts seen givers
    → Forks (With seen) id v (parting_view v) (giver_view v.next_giver)
forks_with seen givers id from v is some_left below starts items views h at =
    (forks_at id (2 ^ 64 - from) from v is some_left items views h.0 at, starts.next id from v items views below is h.1 at)

pub begins_with_first : (seen : List Taken → List PassView → Type 0) (givers : ℕ) → Starts seen givers → With seen [] (first_view ∷ [])
begins_with_first seen givers starts = (begins, starts.first)

-- ---- what a refusal without a look owes

-- while a pass has this view, the queue is empty
abbrev pub shy : PassView → List Taken → List PassView → Type 0
shy v items views = (id : ℕ) → get_elem? views id ≡ some v → length items ≡ 0

-- a caller may keep it: the giver's own step ends it
pub shy_kept : (id : ℕ) (v : PassView) (x : Taken) → v.givers ≡ x.giver ∷ [] → KeepsGiving (shy v) id v x
shy_kept id v x mine items views rule before at j now = ⊎_elim
    (λ (a : (j ≡ id) × (giving_view v x ≡ v)). absurd (let e = ap (λ (u : PassView). length u.given) a.1 in omega (arith, e, length-append v.given (x ∷ []))))
    (λ (b : (j ≢ id) × (get_elem? views j ≡ some v)).
    let here : 0 < passes_of x.giver v = let one : hit x.giver x.giver ≡ 1 = hit_self x.giver in let s : sum_by (hit x.giver) v.givers ≡ 0 + hit x.giver x.giver = ap (sum_by (hit x.giver)) mine in omega (arith, one, s) in
    absurd (let z = apart items views id j x.giver v v rule b.0 at b.1 here in omega (arith, z, here)))
    (at_set views id j (giving_view v x) v now)

-- under it the queue was not full
pub shy_not_full : (n : ℕ) (v : PassView) → 0 < n → Held n (IsSeenWith (shy v) v) → ⊥
shy_not_full n v room held = absurd (omega (arith, room, held.1, held.2.2.1 held.2.1 held.2.3))
