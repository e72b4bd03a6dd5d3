-- Parts and their pieces, where no end is known.
use Rattle.std.proofs.Common.{◌≡◌, ℕ, ◌+◌, ◌<◌, ◌≤◌, List, [], ◌∷◌, Option, Some, None, length, true, false, nat_lt, arith, refl, ap, ap₂, subst, sym, ◌∙◌, inl, inr}
use Rattle.std.specs.Prelude.{◌≢◌, ◌==◌, Bool, if◌then◌else◌, max, not, option_map}
use Rattle.std.proofs.lemmas.Bool.{cases_lt}
use Rattle.std.proofs.lemmas.Bool.Decides.{nat_tests}
use Rattle.store_upload.specs.Uploads.{ArePlaced, IsComplete, MayTake, ModelUpload, UploadPlan, end_of, finish_fault, first_gap, first_missing, last_end, length_of, max_bytes, place_fault, same_plan}
use Rattle.std.specs.BTreeMap.{is_at}
use Rattle.std.specs.Map.{lookup}
use Rattle.std.specs.Option.{option_or}
use Rattle.std.specs.Ordering.{nat_cmp}
use Rattle.store_upload.specs.declared.refusal.AddFault.TheVariants.{Overlap, PastLast, WrongPlan}
use Rattle.store_upload.specs.declared.refusal.FinishFault.TheVariants.{Incomplete, NotFixed}
use Rattle.b3_forest.specs.Parts.{HeldPart, Part, ModelPrepared, chunk_in, chunks_of, held_as}
use Rattle.b3_forest.specs.Subtrees.{AreHashed, Keeps, Subtrees}
use Rattle.b3_forest.specs.inner.Subtrees.{AreWhole, HaveRoom}
use Rattle.b3_forest.specs.Pieces.{piece_count, root_level}
use Rattle.b3_forest.specs.Uploads.{add_fault, pieces_held, with_part}
use Rattle.b3_forest.specs.inner.Uploads.{overlap_at, past_last}
use Rattle.b3_forest.proofs.Contents.{gap_follows, gap_here}
use Rattle.b3_forest.proofs.Counts.{count_joined}
use Rattle.b3_forest.proofs.HeldParts.{IsApart, goes, no_overlap, overlap_order, parts_joined, with_held}
use Rattle.b3_forest.proofs.Maps.{at_other, same_or}
use Rattle.b3_forest.proofs.OneForest.{bool_cases}

-- ---- the greatest end

last_of : (p : HeldPart) (ps : List HeldPart) → last_end length (p ∷ ps) ≡ max (end_of length p) (last_end length ps)
unfolding last_end
last_of p ps = refl

pub last_of_none : last_end {P = List ℕ} length [] ≡ 0
unfolding last_end
last_of_none = refl

last_with : (n a : ℕ) (p : HeldPart) (ps : List HeldPart) → 0 < length p.1 → ArePlaced length n a ps → IsApart p ps → last_end length (with_held p ps) ≡ max (last_end length ps) (end_of length p)
last_with n a p [] some placed none = let one = last_of p [] in let no_one = last_of_none in omega (arith, one, no_one)
last_with n a p (q ∷ qs) some placed none =
    let apart = no_overlap p.0 (length p.1) q qs none in
    elim (goes p q qs some placed.1.some apart.0) [
      | inl first ↦ let one = last_of p (q ∷ qs) in ap (last_end length) first.put ∙ omega (arith, one)
      | inr later ↦
          let rest = last_with n (end_of length q) p qs some placed.2 apart.1 in
          let one = last_of q (with_held p qs) in
          let other = last_of q qs in
          ap (last_end length) later.put ∙ omega (arith, rest, one, other)
    ]

last_within : (n a : ℕ) (ps : List HeldPart) → ArePlaced length n a ps → last_end length ps ≤ n
last_within n a [] placed = let none = last_of_none in omega (arith, none)
last_within n a (p ∷ ps) placed =
    let rest = last_within n (end_of length p) ps placed.2 in
    let one = last_of p ps in
    omega (arith, rest, one, placed.1.within)

-- parts fit an upload that ends no sooner than they do
placed_down : (n m a : ℕ) (ps : List HeldPart) → ArePlaced length n a ps → last_end length ps ≤ m → m ≤ n → ArePlaced length m a ps
placed_down n m a [] placed last less = tt
placed_down n m a (p ∷ ps) placed last less =
    let one = last_of p ps in (
      placed.0,
      record {
        some = placed.1.some;
        aligned = placed.1.aligned;
        within = omega (arith, one, last);
        whole = λ closed ragged. let end = placed.1.whole closed ragged in omega (arith, end, one, last, less);
        small = placed.1.small;
      },
      placed_down n m (end_of length p) ps placed.2 (omega (arith, one, last)) less,
    )

-- no part begins where one does that overlaps none
pub not_begun : (n a : ℕ) (p : HeldPart) (ps : List HeldPart) → 0 < length p.1 → ArePlaced length n a ps → IsApart p ps → lookup (is_at (nat_cmp p.0)) ps ≡ None
not_begun n a p [] some placed none = refl
not_begun n a p (q ∷ qs) some placed none =
    let apart = no_overlap p.0 (length p.1) q qs none in
    let other : p.0 ≢ q.0 = λ same. elim (overlap_order p q some placed.1.some apart.0) [ inl before ↦ omega (arith, same, before.0) | inr after ↦ omega (arith, same, after.0) ] in
    rw (at_other p.0 q.0 other) (not_begun n (end_of length q) p qs some placed.2 apart.1)

-- ---- parts and pieces

keeps_to : (n m : ℕ) (ps : List HeldPart) (es : Subtrees) → m ≤ max_bytes → ArePlaced length m 0 ps → Keeps n ps es → Keeps m ps es
keeps_to n m ps es most placed keeps = record { most = most; placed = placed; forest = keeps.forest; sorted = keeps.sorted }

-- the pieces of an upload are those of one that ends with the last part
keeps_tight : (n : ℕ) (ps : List HeldPart) (es : Subtrees) → Keeps n ps es → Keeps (last_end length ps) ps es
keeps_tight n ps es keeps =
    let within = last_within n 0 ps keeps.placed in
    keeps_to n (last_end length ps) ps es (omega (arith, within, keeps.most)) (placed_down n (last_end length ps) 0 ps keeps.placed (omega arith) within) keeps

-- what may take a part has room for it
pub room_for : (end : ℕ) (ps : List HeldPart) (es : Subtrees) (p : Part) → AreHashed end ps es → (may : MayTake length ps p.offset p.bytes) → HaveRoom may.size ps p es
room_for end ps es p is may = record {
  keeps = keeps_to end may.size ps es may.most may.placed is.keeps;
  fits = may.fits;
  apart = may.clear;
}

pub hashed_with : (end n : ℕ) (ps : List HeldPart) (before after : Subtrees) (p : Part) → AreHashed end ps before → HaveRoom n ps p before → Keeps n (with_part p ps) after
    → AreHashed (max end (p.offset + length p.bytes)) (with_part p ps) after
hashed_with end n ps before after p is room keeps =
    let more = last_with n 0 (held_as p) ps room.fits.some room.keeps.placed room.apart in
    let last : max end (p.offset + length p.bytes) ≡ last_end length (with_part p ps) = ap (λ i. max i (p.offset + length p.bytes)) is.end_is ∙ sym more in
    record { end_is = last; keeps = subst (λ i. Keeps i (with_part p ps) after) (sym last) (keeps_tight n (with_part p ps) after keeps) }

-- where no offset is missing before the greatest end
pub whole_of : (end : ℕ) (ps now : List HeldPart) (es : Subtrees) → ps ≡ now → AreHashed end ps es → first_gap length 0 now ≡ last_end length now → AreWhole end now es
whole_of end ps now es view is all =
    let own = subst (λ (qs : List HeldPart). AreHashed end qs es) view is in
    record { keeps = own.keeps; all = all ∙ sym own.end_is }

-- ---- an upload that takes a part

pub same_plan_is : (p q : UploadPlan) → same_plan p q ≡ true → p ≡ q
same_plan_is p q same =
    elim (bool_cases (p.bound == q.bound)) [
      | inr other ↦ let bad : same_plan p q ≡ false = rw other refl in cc
      | inl number ↦
          let bound : p.bound ≡ q.bound = grind (arith, nat_tests, number) in
          let kind : (if p.is_open then q.is_open else not q.is_open) ≡ true = sym (rw number refl) ∙ same in
          ap₂ (λ b o. record { bound = b; is_open = o }) bound (same_kind p.is_open q.is_open kind)
    ]
  where
    same_kind : (a b : Bool) → (if a then b else not b) ≡ true → a ≡ b
    same_kind true true same = refl
    same_kind false false same = refl
    same_kind true false same = cc
    same_kind false true same = cc

-- a part that is not refused was made for the upload's plan, and may go where it is
pub record IsAllowed (u : ModelUpload (List ℕ)) (p : ModelPrepared) : Type 0 where
  pub plan : p.plan ≡ u.plan
  pub free : place_fault length u p.part.offset (length p.part.bytes) ≡ None

pub allowed : (u : ModelUpload (List ℕ)) (p : ModelPrepared) → None ≡ add_fault u p → IsAllowed u p
allowed u p free = elim (bool_cases (same_plan p.plan u.plan)) [
  | inr other ↦ let wrong : add_fault u p ≡ Some WrongPlan = rw other refl in let bad = free ∙ wrong in cc
  | inl same ↦ record { plan = same_plan_is p.plan u.plan same; free = sym (rw same refl) ∙ sym free }
]

no_overlap_of : (o l : Option ℕ) → option_or (option_map Overlap o) (option_map PastLast l) ≡ None → o ≡ None
no_overlap_of None l none = refl
no_overlap_of (Some at) l none = cc

-- the merges are no more than the pieces before and those of the part
pub merges_most : (u : ModelUpload (List ℕ)) (p : ModelPrepared) → ArePlaced length (length_of u) 0 u.parts → 0 < length p.part.bytes → None ≡ add_fault u p
    → pieces_held (with_part p.part u.parts) ≤ pieces_held u.parts + piece_count (chunks_of p.part)
merges_most u p placed some free =
    let apart = no_overlap_of (overlap_at p.part u.parts) (past_last u p.part) (allowed u p free).free in
    count_joined (chunk_in u.parts) (chunks_of p.part) (chunk_in (with_part p.part u.parts)) root_level 0 (parts_joined (length_of u) (held_as p.part) u.parts some placed apart)

-- ---- an upload that is complete

-- no offset before the greatest end is missing, and that is the upload's
pub record IsAll (n : ℕ) (ps : List HeldPart) : Type 0 where
  pub gap : first_gap length 0 ps ≡ last_end length ps
  pub end : last_end length ps ≡ n

gap_within : (n a : ℕ) (ps : List HeldPart) → ArePlaced length n a ps → first_gap length a ps ≤ max a (last_end length ps)
unfolding first_gap
gap_within n a [] placed = omega arith
gap_within n a (p ∷ ps) placed = elim (same_or p.0 a) [
  | inr other ↦ let here = gap_here a p ps other in omega (arith, here)
  | inl same ↦
      let on = gap_follows a p ps same in
      let rest = gap_within n (end_of length p) ps placed.2 in
      let one = last_of p ps in
      omega (arith, on, rest, one)
]

pub all_held : (n : ℕ) (ps : List HeldPart) → ArePlaced length n 0 ps → n ≤ first_gap length 0 ps → IsAll n ps
all_held n ps placed all =
    let low = gap_within n 0 ps placed in
    let high = last_within n 0 ps placed in
    record { gap = omega (arith, low, high, all); end = omega (arith, low, high, all) }

pub complete_is : (u : ModelUpload (List ℕ)) → None ≡ finish_fault length u → IsComplete length u
complete_is u free = by u.end refl free
  where
    by : (e : Option ℕ) → u.end ≡ e → None ≡ finish_fault length u → IsComplete length u
    by None is free = let fault : finish_fault length u ≡ Some NotFixed = rw is refl in let bad = free ∙ fault in cc
    by (Some n) is free =
        let missing : finish_fault length u ≡ option_map Incomplete (first_missing length u) = rw is refl in
        (rw is refl, none_of (first_missing length u) (free ∙ missing))
      where
        none_of : (o : Option ℕ) → None ≡ option_map Incomplete o → o ≡ None
        none_of None none = refl
        none_of (Some m) none = cc

pub complete_all : (u : ModelUpload (List ℕ)) → ArePlaced length (length_of u) 0 u.parts → None ≡ finish_fault length u → IsAll (length_of u) u.parts
complete_all u placed free =
    let none = (complete_is u free).1 in
    let n = length_of u in
    elim (cases_lt (first_gap length 0 u.parts) n) [
      | inr all ↦ all_held n u.parts placed all
      | inl gap ↦
          let test : nat_lt (first_gap length 0 u.parts) n ≡ true = grind (arith, nat_tests, gap) in
          let some : first_missing length u ≡ Some (first_gap length 0 u.parts) = rw test refl in
          let bad = sym none ∙ some in cc
    ]
