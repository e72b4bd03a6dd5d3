-- Where an upload ends: what a part more and a fixed end leave of it.
use Rattle.std.proofs.Common.{◌≡◌, ◌∙◌, ◌+◌, ◌%◌, ◌^◌, ◌<◌, ◌≤◌, ℕ, Bool, true, false, List, [], ◌∷◌, Option, Some, None, nat_lt, refl, sym, subst, arith, inl, inr, length}
use Rattle.std.specs.Prelude.{◌==◌, ◌&&◌, ◌||◌, if◌then◌else◌, option_map, unwrap_or}
use Rattle.std.specs.BTreeMap.{insert_entry}
use Rattle.std.specs.List.{AllByRecursion}
use Rattle.std.specs.Option.{option_or}
use Rattle.std.specs.Ordering.{nat_cmp}
use Rattle.std.proofs.lemmas.Bool.{cases_Bool, cases_eq, cases_lt, eq-eqb, le-ltb, lt-ltb, ne_eqb}
use Rattle.std.proofs.lemmas.Bool.Decides.{nat_tests}
use Rattle.store_upload.specs.declared.refusal.AddFault.TheVariants.{Overlap, PastLast}
use Rattle.store_upload.specs.declared.refusal.FixFault.TheVariants as fix
use Rattle.store_upload.specs.inner.Places.{AreApart}
use Rattle.store_upload.specs.Uploads.{ArePartsOfSome, ArePlaced, Fits, IsUpload, MayTake, ModelUpload, UploadPlan, closed_plan, end_of, end_with, ends_elsewhere, first_end, fix_fault, fixed_at, held_bytes, is_ragged, last_end, length_of, max_bytes, overlap_at, past_last, place_fault, reached, with_more}
use Rattle.store_upload.proofs.Places.{IsWith, at, begins_after, bytes_within, clear_parts, end-cons, ends_before, is_with, none_at, put-following, put-front}

-- ---- tests

neither : (a b : Bool) → (a || b) ≡ false → (a ≡ false) × (b ≡ false)
neither true b test = cc
neither false b test = (refl, test)

not_second : (a b : Bool) → (a && b) ≡ false → a ≡ true → b ≡ false
not_second true b test is = test
not_second false b test is = cc

no_value : {A : Type 0} (b : Bool) (x : A) → (if b then Some x else None) ≡ None → b ≡ false
no_value true x none = cc
no_value false x none = refl

whole_length : (n : ℕ) → is_ragged n ≡ false → n % 1024 ≡ 0
whole_length n whole = elim (cases_lt 0 (n % 1024)) [
  | inr none ↦ omega (arith, none)
  | inl some ↦
      let test : (n % 1024 == 0) ≡ false = grind (arith, nat_tests, some) in
      let bad : is_ragged n ≡ true = rw test refl in
      cc
]

-- ---- bytes under another end

-- whole chunks fit an upload of any length that they are within
fits_whole : (plan : UploadPlan) (n offset len : ℕ) → Fits plan offset len → is_ragged len ≡ false → offset + len ≤ n → Fits (closed_plan n) offset len
fits_whole plan n offset len fits whole within =
    let chunks = whole_length len whole in
    record { some = fits.some; aligned = fits.aligned; within = within; whole = λ _ ragged. absurd (ragged chunks); small = fits.small }

-- bytes fit an upload that they end
fits_last : (plan : UploadPlan) (n offset len : ℕ) → Fits plan offset len → offset + len ≡ n → Fits (closed_plan n) offset len
fits_last plan n offset len fits ends = record { some = fits.some; aligned = fits.aligned; within = omega (arith, ends); whole = λ _ _. ends; small = fits.small }

module _ {P : Type 0} (len : P → ℕ) where
  abbrev pub AreWhole : List (ℕ × P) → Type 0
  AreWhole ps = AllByRecursion (λ p. is_ragged (len p.1) ≡ false) ps

  -- ---- where parts lie

  pub placed_apart : (n a : ℕ) (ps : List (ℕ × P)) → a ≤ n → ArePlaced len n a ps → AreApart len a n ps
  placed_apart n a [] first placed = first
  placed_apart n a (p ∷ ps) first placed = (placed.0, placed.1.some, placed_apart n (end_of len p) ps placed.1.within placed.2)

  pub apart_of : (ps : List (ℕ × P)) → ArePartsOfSome len ps → (n : ℕ) × (n < 2 ^ 64) × AreApart len 0 n ps
  apart_of ps some = let most = some.1 in (some.0, omega (arith, most), placed_apart some.0 0 ps (omega arith) some.2)

  pub last_within : (n a : ℕ) (ps : List (ℕ × P)) → ArePlaced len n a ps → last_end len ps ≤ n
  unfolding last_end
  last_within n a [] placed = omega arith
  last_within n a (p ∷ ps) placed =
      let rest = last_within n (end_of len p) ps placed.2 in
      let one = end-cons len p ps in
      omega (arith, rest, one, placed.1.within)

  -- whole chunks fit an upload of any length that they are within
  refit : (n m a : ℕ) (ps : List (ℕ × P)) → AreWhole ps → last_end len ps ≤ m → ArePlaced len n a ps → ArePlaced len m a ps
  refit n m a [] whole last placed = tt
  refit n m a (p ∷ ps) whole last placed =
      let one = end-cons len p ps in
      (placed.0, fits_whole (closed_plan n) m p.0 (len p.1) placed.1 whole.0 (omega (arith, one, last)), refit n m (end_of len p) ps whole.1 (omega (arith, one, last)) placed.2)

  placed_with : (n a offset : ℕ) (part : P) (ps : List (ℕ × P)) → ArePlaced len n a ps → a ≤ offset → Fits (closed_plan n) offset (len part) → overlap_at len offset (len part) ps ≡ None
      → ArePlaced len n a (insert_entry nat_cmp ps offset part)
  placed_with n a offset part [] placed first fits clear = (first, fits, tt)
  placed_with n a offset part (p ∷ ps) placed first fits clear =
      let apart = clear_parts len offset (len part) p ps clear in
      elim (cases_lt offset p.0) [
        | inl front ↦ rw (put-front offset part p ps front) (first, fits, (ends_before len offset (len part) p front placed.1.some apart.0, placed.1, placed.2))
        | inr following ↦
            let after = begins_after len offset (len part) p following fits.some apart.0 in
            rw (put-following offset part p ps (omega (arith, after, placed.1.some))) (placed.0, placed.1, placed_with n (end_of len p) offset part ps placed.2 after fits apart.1)
      ]

  whole_with : (offset : ℕ) (part : P) (ps : List (ℕ × P)) → is_ragged (len part) ≡ false → AreWhole ps → AreWhole (insert_entry nat_cmp ps offset part)
  whole_with offset part [] own all = (own, tt)
  whole_with offset part (p ∷ ps) own all = elim (cases_lt offset p.0) [
    | inl before ↦ rw (lt-ltb offset p.0 before) (own, all)
    | inr after ↦ elim (cases_eq offset p.0) [
      | inl same ↦ rw (le-ltb offset p.0 after, eq-eqb offset p.0 same) (own, all.1)
      | inr apart ↦ rw (le-ltb offset p.0 after, ne_eqb offset p.0 apart) (all.0, whole_with offset part ps own all.1)
    ]
  ]

  -- ---- an upload that holds nothing

  abbrev pub upload_with : UploadPlan → Option ℕ → List (ℕ × P) → ModelUpload P
  upload_with plan end ps = record { plan = plan; end = end; parts = ps }

  pub nothing_held : (plan : UploadPlan) (ps : List (ℕ × P)) → plan.bound ≤ max_bytes → ps ≡ [] → IsUpload len (upload_with plan (first_end plan) ps)
  nothing_held plan ps most none = subst (λ qs. IsUpload len (upload_with plan (first_end plan) qs)) (sym none) (go plan.is_open refl)
    where
      go : (b : Bool) → plan.is_open ≡ b → IsUpload len (upload_with plan (first_end plan) [])
      go true is =
          let end : first_end plan ≡ None = rw is refl in
          subst (λ (e : Option ℕ). IsUpload len (upload_with plan e [])) (sym end) (record { most = most; within = omega arith; placed = tt; closed = λ closed. let bad = sym is ∙ closed in cc; whole = λ none. tt })
      go false is =
          let end : first_end plan ≡ Some plan.bound = rw is refl in
          subst (λ (e : Option ℕ). IsUpload len (upload_with plan e [])) (sym end) (record { most = most; within = omega arith; placed = tt; closed = λ closed. refl; whole = λ none. cc })

  -- ---- a part more

  -- bytes that are not refused
  pub record IsFree (u : ModelUpload P) (offset n : ℕ) : Type 0 where
    pub clear : overlap_at len offset n u.parts ≡ None
    pub last : past_last len u offset n ≡ None

  pub free_is : (u : ModelUpload P) (offset n : ℕ) → place_fault len u offset n ≡ None → IsFree u offset n
  free_is u offset n free = by (overlap_at len offset n u.parts) (past_last len u offset n) refl refl free
    where
      by : (o l : Option ℕ) → overlap_at len offset n u.parts ≡ o → past_last len u offset n ≡ l → option_or (option_map Overlap o) (option_map PastLast l) ≡ None → IsFree u offset n
      by (Some at) l is is_last none = cc
      by None (Some end) is is_last none = cc
      by None None is is_last none = record { clear = is; last = is_last }

  -- what a part more leaves: a lawful upload, no longer than before
  pub record Grows (u : ModelUpload P) (offset : ℕ) (part : P) : Type 0 where
    pub lawful : IsUpload len (with_more len u offset part)
    pub may : MayTake len u.parts offset part
    pub bytes : held_bytes len (insert_entry nat_cmp u.parts offset part) ≡ held_bytes len u.parts + len part
    pub count : length (insert_entry nat_cmp u.parts offset part) ≡ length u.parts + 1
    pub no_longer : length_of (with_more len u offset part) ≤ length_of u
    pub within : held_bytes len u.parts + len part ≤ length_of u

  grows_to_end : (plan : UploadPlan) (e : ℕ) (ps : List (ℕ × P)) (offset : ℕ) (part : P) → IsUpload len (upload_with plan (Some e) ps) → IsFree (upload_with plan (Some e) ps) offset (len part)
      → Fits plan offset (len part) → Grows (upload_with plan (Some e) ps) offset part
  grows_to_end plan e ps offset part lawful free fits =
      let tests = neither (nat_lt e (offset + len part)) (is_ragged (len part) && nat_lt (offset + len part) e) (no_value _ e free.last) in
      let within : offset + len part ≤ e = let test = tests.0 in grind (arith, nat_tests, test) in
      let own : Fits (closed_plan e) offset (len part) = elim (cases_Bool (is_ragged (len part))) [
        | inr whole ↦ fits_whole plan e offset (len part) fits whole within
        | inl ragged ↦ let test = not_second _ _ tests.1 ragged in let after : e ≤ offset + len part = grind (arith, nat_tests, test) in fits_last plan e offset (len part) fits (omega (arith, within, after))
      ] in
      let more = is_with len 0 e offset part ps (placed_apart e 0 ps (omega arith) lawful.placed) (omega arith) fits.some within free.clear in
      let held = bytes_within len 0 e (insert_entry nat_cmp ps offset part) more.apart in
      record {
        lawful = record {
          most = lawful.most;
          within = lawful.within;
          placed = placed_with e 0 offset part ps lawful.placed (omega arith) own free.clear;
          closed = lawful.closed;
          whole = λ none. cc;
        };
        may = record { size = e; most = omega (arith, lawful.within, lawful.most); placed = lawful.placed; fits = own; clear = free.clear };
        bytes = more.bytes;
        count = more.count;
        no_longer = omega arith;
        within = omega (arith, held, more.bytes);
      }

  grows_to_part : (plan : UploadPlan) (ps : List (ℕ × P)) (offset : ℕ) (part : P) → IsUpload len (upload_with plan None ps) → IsFree (upload_with plan None ps) offset (len part)
      → Fits plan offset (len part) → Grows (upload_with plan None ps) offset part
  grows_to_part plan ps offset part lawful free fits = elim (cases_Bool (is_ragged (len part))) [
    | inl ragged ↦
        let test = not_second _ _ (no_value _ (last_end len ps) free.last) ragged in
        let after : last_end len ps ≤ offset + len part = grind (arith, nat_tests, test) in
        let placed = refit plan.bound (offset + len part) 0 ps (lawful.whole refl) after lawful.placed in
        let own = fits_last plan (offset + len part) offset (len part) fits refl in
        let fixed : end_with None offset (len part) ≡ Some (offset + len part) = rw ragged refl in
        let is : IsUpload len (upload_with plan (Some (offset + len part)) (insert_entry nat_cmp ps offset part)) = record {
          most = lawful.most;
          within = fits.within;
          placed = placed_with (offset + len part) 0 offset part ps placed (omega arith) own free.clear;
          closed = λ closed. let none = lawful.closed closed in cc;
          whole = λ none. cc;
        } in
        record {
          lawful = subst (λ (e : Option ℕ). IsUpload len (upload_with plan e (insert_entry nat_cmp ps offset part))) (sym fixed) is;
          may = record { size = offset + len part; most = omega (arith, fits.within, lawful.most); placed = placed; fits = own; clear = free.clear };
          bytes = more.bytes;
          count = more.count;
          no_longer = subst (λ (e : Option ℕ). unwrap_or e plan.bound ≤ plan.bound) (sym fixed) fits.within;
          within = omega (arith, held, more.bytes);
        }
    | inr whole ↦
        let own = fits_whole plan plan.bound offset (len part) fits whole fits.within in
        let fixed : end_with None offset (len part) ≡ None = rw whole refl in
        let is : IsUpload len (upload_with plan None (insert_entry nat_cmp ps offset part)) = record {
          most = lawful.most;
          within = lawful.within;
          placed = placed_with plan.bound 0 offset part ps lawful.placed (omega arith) own free.clear;
          closed = lawful.closed;
          whole = λ none. whole_with offset part ps whole (lawful.whole refl);
        } in
        record {
          lawful = subst (λ (e : Option ℕ). IsUpload len (upload_with plan e (insert_entry nat_cmp ps offset part))) (sym fixed) is;
          may = record { size = plan.bound; most = lawful.most; placed = lawful.placed; fits = own; clear = free.clear };
          bytes = more.bytes;
          count = more.count;
          no_longer = subst (λ (e : Option ℕ). unwrap_or e plan.bound ≤ plan.bound) (sym fixed) (omega arith);
          within = omega (arith, held, more.bytes);
        }
  ]
    where
      more : IsWith len 0 plan.bound offset part ps (insert_entry nat_cmp ps offset part)
      more = is_with len 0 plan.bound offset part ps (placed_apart plan.bound 0 ps (omega arith) lawful.placed) (omega arith) fits.some fits.within free.clear

      held : 0 + held_bytes len (insert_entry nat_cmp ps offset part) ≤ plan.bound
      held = bytes_within len 0 plan.bound (insert_entry nat_cmp ps offset part) more.apart

  grows : (plan : UploadPlan) (end : Option ℕ) (ps : List (ℕ × P)) (offset : ℕ) (part : P) → IsUpload len (upload_with plan end ps) → IsFree (upload_with plan end ps) offset (len part)
      → Fits plan offset (len part) → Grows (upload_with plan end ps) offset part
  grows plan (Some e) ps offset part lawful free fits = grows_to_end plan e ps offset part lawful free fits
  grows plan None ps offset part lawful free fits = grows_to_part plan ps offset part lawful free fits

  pub grown : (u : ModelUpload P) (offset : ℕ) (part : P) → IsUpload len u → place_fault len u offset (len part) ≡ None → Fits u.plan offset (len part) → Grows u offset part
  grown u offset part lawful free fits = grows u.plan u.end u.parts offset part lawful (free_is u offset (len part) free) fits

  -- no part begins where the first of some bytes may go
  pub not_begun : (u : ModelUpload P) (offset n : ℕ) → IsUpload len u → 0 < n → overlap_at len offset n u.parts ≡ None → at offset u.parts ≡ None
  not_begun u offset n lawful some clear = none_at len offset 0 (length_of u) n u.parts (placed_apart (length_of u) 0 u.parts (omega arith) lawful.placed) some clear

  -- ---- an end

  pub fixes : (u : ModelUpload P) (n : ℕ) → IsUpload len u → fix_fault len u n ≡ None → IsUpload len (fixed_at u n)
  fixes u n lawful free = elim (cases_Bool (nat_lt u.plan.bound n)) [
    | inl long ↦ let wrong : fix_fault len u n ≡ Some fix.TooLong = rw long refl in let bad = sym free ∙ wrong in cc
    | inr short ↦
        let rest : (if ends_elsewhere len u n then Some (fix.PastLast (reached len u)) else None) ≡ None = sym (rw short refl) ∙ free in
        ends u.plan u.end u.parts lawful (grind (arith, nat_tests, short)) (no_value _ _ rest)
  ]
    where
      ends : (plan : UploadPlan) (end : Option ℕ) (ps : List (ℕ × P)) → IsUpload len (upload_with plan end ps) → n ≤ plan.bound → ends_elsewhere len (upload_with plan end ps) n ≡ false
          → IsUpload len (upload_with plan (Some n) ps)
      ends plan (Some e) ps is low test = let same : e ≡ n = grind (arith, nat_tests, test) in subst (λ (k : ℕ). IsUpload len (upload_with plan (Some k) ps)) same is
      ends plan None ps is low test =
          let after : last_end len ps ≤ n = grind (arith, nat_tests, test) in
          record {
            most = is.most;
            within = low;
            placed = refit plan.bound n 0 ps (is.whole refl) after is.placed;
            closed = λ closed. let none = is.closed closed in cc;
            whole = λ none. cc;
          }

  -- a fixed end is within the length
  pub fixed_within : (u : ModelUpload P) (n : ℕ) → IsUpload len u → fix_fault len u n ≡ None → n ≤ length_of u
  fixed_within u n lawful free = elim (cases_Bool (nat_lt u.plan.bound n)) [
    | inl long ↦ let wrong : fix_fault len u n ≡ Some fix.TooLong = rw long refl in let bad = sym free ∙ wrong in cc
    | inr short ↦
        let rest : (if ends_elsewhere len u n then Some (fix.PastLast (reached len u)) else None) ≡ None = sym (rw short refl) ∙ free in
        by u.end (grind (arith, nat_tests, short)) (no_value _ _ rest)
  ]
    where
      by : (end : Option ℕ) → n ≤ u.plan.bound → ends_elsewhere len (upload_with u.plan end u.parts) n ≡ false → n ≤ unwrap_or end u.plan.bound
      by (Some e) low test = let same : e ≡ n = grind (arith, nat_tests, test) in omega (arith, same)
      by None low test = low
