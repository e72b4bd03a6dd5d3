-- Parts that were handed over and have passed, and what workers report of them.
use Rattle.std.proofs.Common.{◌≡◌, ℕ, ◌*◌, ◌<◌, List, [], ◌∷◌, ◌++◌, Option, Some, None, Result, Ok, Err, All, map, nat_eq, subst, sym, refl, ap, inl, inr, arith, ◌∙◌}
use Rattle.std.specs.Prelude.{IfNone, IfOk, IfSome, OnOk}
use Rattle.std.specs.Option.{option_or}
use Rattle.std.proofs.lemmas.Bool.{cases_eq, eq-eqb, ne_eqb}
use Rattle.std.proofs.lemmas.List.Elements.{All-append, All-cons, All-filter, All-head, All-map, All-nil, All-tail, All-weaker}
use Rattle.b3_core.specs.Modes.{hash_of}
use Rattle.b3_forest.specs.Followed.{AllNoted, ModelFollow}
use Rattle.b3_forest.specs.Parts.{Part}
use Rattle.store_ledger.specs.Counts.{times}
use Rattle.store_board.specs.HandOverRule.{of_giver}
use Rattle.store_board.specs.Passes.{all_given, given_of}
use Rattle.store_board.specs.declared.passes.GivePass.{GivePass}
use Rattle.store_board.specs.declared.passes.Taken.{Taken}
use Rattle.store_ledger.specs.declared.amounts.ShareAmounts.{ShareAmounts}
use Rattle.store_shared.specs.Cuts.{part_at, parts_at}
use Rattle.store_shared.specs.Gates.{GateRule}
use Rattle.store_shared.specs.inner.Gates.{IsFaultOf}
use Rattle.store_shared.specs.Uploading.{ModelCut, cut_count}
use Rattle.store_shared.specs.inner.Uploading.{HasCollected, IsCollecting, parts_in}
use Rattle.store_shared.specs.inner.Workers.{AllPassed, IsPassedPart, IsReportOf, fault_of_first}
use Rattle.store_shared.specs.declared.fault.UploadFaultKind.{UploadFaultKind}
use Rattle.store_shared.specs.declared.job.Exchange.{Exchange}
use Rattle.store_shared.specs.declared.worker.Report.{Report}
use Rattle.store_shared.proofs.Numbers.{once_in, times_cons, hit_other}
use Rattle.store_shared.proofs.Noting.{each_once}
use Rattle.store_shared.proofs.PartPlaces.{begins_alike}

-- ---- what was taken

of_own : (x : Taken) (xs : List Taken) → of_giver x.giver (x ∷ xs) ≡ x ∷ of_giver x.giver xs
of_own x xs = rw (eq-eqb x.giver x.giver refl) refl

of_other : (g : ℕ) (x : Taken) (xs : List Taken) → (x.giver ≡ g → ⊥) → of_giver g (x ∷ xs) ≡ of_giver g xs
of_other g x xs apart = rw (ne_eqb x.giver g apart) refl

of_rest : (P : Taken → Type 0) (g : ℕ) (x : Taken) (xs : List Taken) → All P (of_giver g (x ∷ xs)) → All P (of_giver g xs)
of_rest P g x xs all = elim (cases_eq x.giver g) [
  | inl same ↦
      let own = subst (λ k. All P (of_giver k (x ∷ xs))) (sym same) all in
      subst (λ k. All P (of_giver k xs)) same (All-tail P x (of_giver x.giver xs) (subst (All P) (of_own x xs) own))
  | inr apart ↦ subst (All P) (of_other g x xs apart) all
]

-- what holds of the items of each giver holds of all
all_of : (P : Taken → Type 0) (xs : List Taken) → ((g : ℕ) → All P (of_giver g xs)) → All P xs
all_of P [] each = All-nil P
all_of P (x ∷ xs) each =
    All-cons P x xs (All-head P x (of_giver x.giver xs) (subst (All P) (of_own x xs) (each x.giver))) (all_of P xs (λ g. of_rest P g x xs (each g)))

-- what holds of all that was given holds of what was taken, where that is the same of each giver
taken_as_given : (P : Taken → Type 0) (taken given : List Taken) → ((g : ℕ) → of_giver g taken ≡ of_giver g given) → All P given → All P taken
taken_as_given P taken given same all = all_of P taken (λ g. subst (All P) (sym (same g)) (All-filter (λ (x : Taken). nat_eq x.giver g) P given all))

first_is : {X : Type 0} (x y : X) (xs ys : List X) → x ∷ xs ≡ y ∷ ys → x ≡ y
first_is x y xs ys same = ap (λ (l : List _). elim l [ [] ↦ x | z ∷ zs ↦ z ]) same

rest_is : {X : Type 0} (x y : X) (xs ys : List X) → x ∷ xs ≡ y ∷ ys → xs ≡ ys
rest_is x y xs ys same = ap (λ (l : List _). elim l [ [] ↦ xs | z ∷ zs ↦ zs ]) same

-- a number whose part was taken has passed
passed_at : (rule : GateRule) (c : ModelCut) (k : ℕ) (ks : List ℕ) (taken : List Taken) → 0 < c.part_chunks → parts_in taken ≡ parts_at c.bytes c.part_chunks ks → All (IsPassedPart rule c) taken → 0 < times k ks → rule.has_passed k
passed_at rule c k [] taken some same all there = absurd (omega (arith, there))
passed_at rule c k (x ∷ xs) [] some same all there = absurd (let no : ⊥ = cc in no)
passed_at rule c k (x ∷ xs) (t ∷ ts) some same all there = elim (cases_eq x k) [
  | inl is ↦
      let one = All-head (IsPassedPart rule c) t ts all in
      let alike : part_at c.bytes c.part_chunks one.number ≡ part_at c.bytes c.part_chunks x = sym one.part ∙ first_is t.part.part (part_at c.bytes c.part_chunks x) (parts_in ts) (parts_at c.bytes c.part_chunks xs) same in
      subst rule.has_passed (begins_alike (1024 * c.part_chunks) one.number x (omega (arith, some)) (ap (λ (p : Part). p.offset) alike) ∙ is) one.passed
  | inr apart ↦ passed_at rule c k xs ts some (rest_is t.part.part (part_at c.bytes c.part_chunks x) (parts_in ts) (parts_at c.bytes c.part_chunks xs) same) (All-tail (IsPassedPart rule c) t ts all)
      (omega (arith, times_cons k x xs, hit_other k x apart, there))
]

-- all that the givers gave has passed
given_passed : (P : Taken → Type 0) (passes : List GivePass) → All (λ p. All P (given_of p)) passes → All P (all_given passes)
given_passed P [] all = All-nil P
given_passed P (p ∷ ps) all =
    All-append P (given_of p) (all_given ps) (All-head (λ q. All P (given_of q)) p ps all) (given_passed P ps (All-tail (λ q. All P (given_of q)) p ps all))

-- where nothing failed and all was noted, all parts have passed
pub collected_passed : (rule : GateRule) (c : ModelCut) (start share : ShareAmounts) (f : ModelFollow) (fault : Option UploadFaultKind) (passes : List GivePass) (result : Result (List ℕ) UploadFaultKind) → 0 < c.part_chunks
    → HasCollected c start f share fault (all_given passes) → All (AllPassed rule c) passes → IfOk result (λ a. (fault ≡ None) × (a ≡ hash_of f.bytes) × AllNoted f) → OnOk result ((k : ℕ) → k < cut_count c → rule.has_passed k)
collected_passed rule c start share f fault passes (Err kind) some has all ok = tt
collected_passed rule c start share f fault passes (Ok a) some has all ok = λ k below.
    let same = subst (λ o. IfNone o ((g : ℕ) → of_giver g has.taken ≡ of_giver g (all_given passes))) ok.0 has.all in
    let is = subst (λ o. IsCollecting c start f share (parts_in has.taken) o) ok.0 has.collecting in
    let once = each_once c f is.0 some is.1 ok.2 k in
    passed_at rule c k is.0 has.taken some is.3 (taken_as_given (IsPassedPart rule c) has.taken (all_given passes) same (given_passed (IsPassedPart rule c) passes all)) (omega (arith, once, once_in k (cut_count c) below))

-- ---- reports

or_nothing : (o : Option UploadFaultKind) → option_or o None ≡ o
or_nothing None = refl
or_nothing (Some kind) = refl

or_or : (a b c : Option UploadFaultKind) → option_or a (option_or b c) ≡ option_or (option_or a b) c
or_or None b c = refl
or_or (Some kind) b c = refl

or_is : (F : UploadFaultKind → Type 0) (a b : Option UploadFaultKind) → IfSome a F → IfSome b F → IfSome (option_or a b) F
or_is F None b one more = more
or_is F (Some kind) b one more = one

-- the first fault of one report more
pub fault_push : (rs : List Report) (r : Report) → fault_of_first (rs ++ r ∷ []) ≡ option_or (fault_of_first rs) r.fault
unfolding fault_of_first
fault_push [] r = or_nothing r.fault
fault_push (q ∷ qs) r = ap (option_or q.fault) (fault_push qs r) ∙ or_or q.fault (fault_of_first qs) r.fault

-- what holds of each fault holds of the first
fault_is : (F : UploadFaultKind → Type 0) (rs : List Report) → All (λ r. IfSome r.fault F) rs → IfSome (fault_of_first rs) F
unfolding fault_of_first
fault_is F [] all = tt
fault_is F (r ∷ rs) all = or_is F r.fault (fault_of_first rs) (All-head (λ r. IfSome r.fault F) r rs all) (fault_is F rs (All-tail (λ r. IfSome r.fault F) r rs all))

-- the first fault is one of the upload
pub reports_fault : (e : Exchange) (rule : GateRule) (c : ModelCut) (rs : List Report) → All (λ r. IsReportOf e rule c r) rs
    → IfSome (fault_of_first rs) (IsFaultOf rule (cut_count c))
reports_fault e rule c rs all =
    fault_is (IsFaultOf rule (cut_count c)) rs (All-weaker (λ r. IsReportOf e rule c r) (λ r. IfSome r.fault (IsFaultOf rule (cut_count c))) (λ r x. x.0) rs all)

-- all that the workers gave has passed
pub reports_passed : (e : Exchange) (rule : GateRule) (c : ModelCut) (rs : List Report) → All (λ r. IsReportOf e rule c r) rs
    → All (AllPassed rule c) (map (λ (r : Report). r.worker.pass) rs)
reports_passed e rule c rs all =
    All-map (AllPassed rule c) (λ (r : Report). r.worker.pass) rs (All-weaker (λ r. IsReportOf e rule c r) (λ r. AllPassed rule c r.worker.pass) (λ r x. x.2) rs all)
