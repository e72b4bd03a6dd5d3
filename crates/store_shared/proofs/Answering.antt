-- What an upload answers.
use Rattle.std.proofs.Common.{◌∙◌, ℕ, ◌<◌, ◌≤◌, Result, Ok, Err, ap, subst, sym, inl, inr, arith}
use Rattle.std.specs.Prelude.{OnOk}
use Rattle.store_core.specs.declared.store.Sealed.{Sealed}
use Rattle.store_ledger.specs.declared.amounts.ShareAmounts.{ShareAmounts}
use Rattle.store_shared.specs.Cuts.{IsBadCut}
use Rattle.store_shared.specs.Gates.{GateRule, MayStop}
use Rattle.store_shared.specs.inner.Gates.{IsFaultOf}
use Rattle.store_shared.specs.Uploading.{ModelCut, cut_count}
use Rattle.store_shared.specs.inner.Uploading.{IsUploaded}
use Rattle.store_shared.specs.Uploads.{IsAnswered}
use Rattle.store_shared.specs.declared.fault.UploadFault.{UploadFault}
use Rattle.store_shared.proofs.Noting.{count_is, with_cut}
use Rattle.store_upload.specs.Uploads.{max_part_chunks}

good_cut : (part_chunks workers most : ℕ) → (0 < part_chunks) × (part_chunks ≤ max_part_chunks) × (0 < workers) × (workers ≤ most) → IsBadCut part_chunks workers most → ⊥
good_cut part_chunks workers most good bad =
    let some = good.0 in
    let few = good.1 in
    let one = good.2 in
    let within = good.3 in
    elim bad [
      | inl none ↦ omega (arith, some, none)
      | inr other ↦ elim other [
        | inl many ↦ omega (arith, few, many)
        | inr third ↦ elim third [
          | inl no_worker ↦ omega (arith, one, no_worker)
          | inr above ↦ omega (arith, within, above)
        ]
      ]
    ]

-- an upload of a good cut
pub answered : (rule : GateRule) (c : ModelCut) (workers most : ℕ) (old new : ShareAmounts) (result : Result Sealed UploadFault)
    → (0 < c.part_chunks) × (c.part_chunks ≤ max_part_chunks) × (0 < workers) × (workers ≤ most) → OnOk result ((k : ℕ) → k < cut_count c → rule.has_passed k) → IsUploaded rule c old new result
    → IsAnswered rule c workers most old new result
answered rule c workers most old new (Ok sealed) good passed is = record {
  parts = ap (λ h. h.parts) is.2;
  ok = (is.0, is.1);
  passed = λ k below. passed k (omega (arith, below, count_is c));
  share = is.2 ∙ with_cut c old good.0;
  fault = tt;
  bad_cut = λ bad. absurd (good_cut c.part_chunks workers most good bad);
  good_cut = tt;
  stopped = tt;
  gate_fault = tt;
}
answered rule c workers most old new (Err f) good passed is = record {
  parts = ap (λ h. h.parts) is.1.2;
  ok = tt;
  passed = tt;
  share = tt;
  fault = is.1;
  bad_cut = λ bad. absurd (good_cut c.part_chunks workers most good bad);
  good_cut = λ e. absurd (subst (λ kind. IsFaultOf rule (cut_count c) kind) e is.0);
  stopped = λ e. subst (λ n. MayStop rule n) (sym (count_is c)) (subst (λ kind. IsFaultOf rule (cut_count c) kind) e is.0);
  gate_fault = λ part code e. subst (λ n. (part < n) × rule.may_fault part code) (sym (count_is c)) (subst (λ kind. IsFaultOf rule (cut_count c) kind) e is.0);
}
