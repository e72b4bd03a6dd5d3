-- The least offset that is missing, and the least that is held.
use Rattle.std.proofs.Common.{◌≡◌, ◌+◌, ◌<◌, ◌≤◌, ℕ, List, [], ◌∷◌, Option, Some, None, arith, refl, subst, sym, inl, inr}
use Rattle.std.specs.Prelude.{IfNone, IfSome}
use Rattle.std.proofs.lemmas.Bool.{and_parts, cases_Bool, cases_eq, cases_lt, le-ltb, lt-ltb, ltb-true}
use Rattle.store_upload.specs.Laws.{IsFirstMissing, IsFirstOverlap, IsHeldAt, ReportsMissing, ReportsOverlap}
use Rattle.store_upload.specs.Uploads.{ArePlaced, IsUpload, ModelUpload, end_of, first_gap, first_missing, length_of, overlap_at, overlaps}
use Rattle.store_upload.proofs.Complete.{gap_here, gap_stops}
use Rattle.store_upload.proofs.Places.{clear-step, over-step, over_from}

module _ {P : Type 0} (len : P → ℕ) where
  held_after : (n a i : ℕ) (ps : List (ℕ × P)) → ArePlaced len n a ps → IsHeldAt len ps i → (a ≤ i) × (i < n)
  held_after n a i [] placed held = absurd held
  held_after n a i (p ∷ ps) placed (inl inside) = (omega (arith, placed.0, inside.0), omega (arith, inside.1, placed.1.within))
  held_after n a i (p ∷ ps) placed (inr later) =
      let rest = held_after n (end_of len p) i ps placed.2 later in
      (omega (arith, placed.0, rest.0), rest.1)

  -- ---- the first gap

  record IsGap (n a : ℕ) (ps : List (ℕ × P)) : Type 0 where
    after : a ≤ first_gap len a ps
    most : first_gap len a ps ≤ n
    missing : IsHeldAt len ps (first_gap len a ps) → ⊥
    least : (i : ℕ) → a ≤ i → i < first_gap len a ps → IsHeldAt len ps i

  gap_offset : (n a : ℕ) (ps : List (ℕ × P)) → a ≤ n → ArePlaced len n a ps → IsGap n a ps
  unfolding first_gap
  gap_offset n a [] most placed = record { after = omega arith; most = most; missing = λ held. held; least = λ i after before. absurd (omega (arith, after, before)) }
  gap_offset n a (p ∷ ps) most placed = elim (cases_eq p.0 a) [
    | inr other ↦
        let here = gap_stops len a p ps other in
        record {
          after = omega (arith, here);
          most = omega (arith, here, most);
          missing = λ held. let late = held_after n p.0 (first_gap len a (p ∷ ps)) (p ∷ ps) (omega arith, placed.1, placed.2) held in other (omega (arith, late.0, here, placed.0));
          least = λ i after before. absurd (omega (arith, here, after, before));
        }
    | inl same ↦
        let on = gap_here len a p ps same in
        let rest = gap_offset n (end_of len p) ps placed.1.within placed.2 in
        record {
          after = omega (arith, on, rest.after, same);
          most = omega (arith, on, rest.most);
          missing = λ held. rest.missing (elim (subst (λ i. IsHeldAt len (p ∷ ps) i) on held) [
            | inl inside ↦ absurd (omega (arith, inside.1, rest.after))
            | inr later ↦ later
          ]);
          least = λ i after before. elim (cases_lt i (end_of len p)) [
            | inl inside ↦ inl (omega (arith, same, after), inside)
            | inr following ↦ inr (rest.least i following (omega (arith, before, on)))
          ];
        }
  ]

  pub least_missing : (u : ModelUpload P) → IsUpload len u → ReportsMissing len u
  least_missing u lawful =
      let gap = gap_offset (length_of u) 0 u.parts (omega arith) lawful.placed in
      elim (cases_lt (first_gap len 0 u.parts) (length_of u)) [
        | inl below ↦
            let is : first_missing len u ≡ Some (first_gap len 0 u.parts) = rw (lt-ltb (first_gap len 0 u.parts) (length_of u) below) refl in
            record {
              some = subst (λ o. IfSome o (IsFirstMissing len u)) (sym is) (record { below = below; missing = gap.missing; least = λ i before. gap.least i (omega arith) before });
              none = subst (λ o. IfNone o ((i : ℕ) → i < length_of u → IsHeldAt len u.parts i)) (sym is) tt;
            }
        | inr all ↦
            let is : first_missing len u ≡ None = rw (le-ltb (first_gap len 0 u.parts) (length_of u) all) refl in
            record {
              some = subst (λ o. IfSome o (IsFirstMissing len u)) (sym is) tt;
              none = subst (λ o. IfNone o ((i : ℕ) → i < length_of u → IsHeldAt len u.parts i)) (sym is) (λ i before. gap.least i (omega arith) (omega (arith, before, all)));
            }
      ]

  -- ---- the first overlap

  record ReportsFrom (offset n : ℕ) (ps : List (ℕ × P)) (o : Option ℕ) : Type 0 where
    some : IfSome o (IsFirstOverlap len offset n ps)
    none : IfNone o ((i : ℕ) → offset ≤ i → i < offset + n → IsHeldAt len ps i → ⊥)

  overlap_from : (m a offset n : ℕ) (ps : List (ℕ × P)) → ArePlaced len m a ps → 0 < n → ReportsFrom offset n ps (overlap_at len offset n ps)
  unfolding overlap_at
  overlap_from m a offset n [] placed some = record { some = tt; none = λ i after before held. held }
  overlap_from m a offset n (p ∷ ps) placed some = elim (cases_Bool (overlaps len offset n p)) [
    | inl both ↦
        let tests = and_parts _ _ both in
        let begins : p.0 < offset + n = ltb-true p.0 (offset + n) tests.0 in
        let ends : offset < end_of len p = ltb-true offset (end_of len p) tests.1 in
        subst (ReportsFrom offset n (p ∷ ps)) (sym (over-step len offset n p ps both)) (record {
          some = record {
            after = omega arith;
            before = omega (arith, begins, some);
            held = inl (omega arith, omega (arith, ends, placed.1.some));
            least = λ i after before held. elim held [
              | inl inside ↦ omega (arith, inside.0, after, before)
              | inr later ↦ let late = (held_after m (end_of len p) i ps placed.2 later).0 in omega (arith, late, before, after, ends)
            ];
          };
          none = tt;
        })
    | inr apart ↦
        let rest = overlap_from m (end_of len p) offset n ps placed.2 some in
        let out : (i : ℕ) → offset ≤ i → i < offset + n → IsHeldAt len (p ∷ ps) i → IsHeldAt len ps i = λ i after before held. elim held [
          | inr later ↦ later
          | inl inside ↦ let both = over_from len offset n p (omega (arith, inside.0, before)) (omega (arith, inside.1, after)) in cc
        ] in
        subst (ReportsFrom offset n (p ∷ ps)) (sym (clear-step len offset n p ps apart)) (widen offset n p ps (overlap_at len offset n ps) out rest)
  ]
    where
      widen : (offset n : ℕ) (p : ℕ × P) (ps : List (ℕ × P)) (o : Option ℕ) → ((i : ℕ) → offset ≤ i → i < offset + n → IsHeldAt len (p ∷ ps) i → IsHeldAt len ps i) → ReportsFrom offset n ps o → ReportsFrom offset n (p ∷ ps) o
      widen offset n p ps None out rest = record { some = tt; none = λ i after before held. rest.none i after before (out i after before held) }
      widen offset n p ps (Some at) out rest = record {
        some = let s = rest.some in record {
          after = s.after;
          before = s.before;
          held = inr s.held;
          least = λ i after before held. s.least i after before (out i after (omega (arith, before, s.before)) held);
        };
        none = tt;
      }

  pub least_overlap : (u : ModelUpload P) (offset n : ℕ) → IsUpload len u → 0 < n → ReportsOverlap len offset n u.parts
  least_overlap u offset n lawful some =
      let reported = overlap_from (length_of u) 0 offset n u.parts lawful.placed some in
      record { some = reported.some; none = reported.none }
